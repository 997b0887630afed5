-- The texts that definitions of records and rows give have the same bytes in both images: they lie in the ranges used.
use Prim.Native.Nat.{ℕ, zero, suc, ◌+◌, ◌-◌, ◌≤◌}
use mathlib.Core.Path.{◌≡◌, refl, sym, ap, ◌∙◌, subst}
use mathlib.Core.Bool.{Bool, true, false}
use mathlib.Core.List.{List, [], ◌∷◌}
use native.Mathlib.Omega.{arith}
use lib.Dec.{leb}
use lib.ListN.{length, take, drop, length-drop}
use lib.Seq.{take-nil, drop-nil, take-take, drop-drop}
use Rattle.std.specs.Prelude.{Ok, Err}
use Rattle.reads.specs.Outcome as outcomes
use Rattle.reads.specs.Outcome.{value, absent, and_then, choose, text_of}
use Rattle.reads.specs.Files.{file_of}
use Rattle.reads.specs.Place.{part}
use Rattle.reads.specs.Segment.{rows, lookup}
use Rattle.reads.specs.Text.{text, scan_of, if_good, ended, if_ended, text_from, text_at, text_in, read_from, read_at}
use Rattle.reads.specs.Utf8.{Verdict, verdict}
use Rattle.reads.specs.declared.answer.Reason.TheVariants.{PastEnd}
use Rattle.reads.specs.declared.place.Place.{Place}
use Rattle.reads.specs.declared.text.Reading.{Reading}
use Rattle.reads.specs.declared.text.Reading.TheVariants.{Old, New}
use Rattle.reads.specs.declared.text.Text.{Text}
use Rattle.reads.proofs.Outcomes.{then_came}
use Rattle.reads.proofs.Texts.{text_inside}
use Rattle.pointers.specs.Slot.{bind_at, symbol_of}
use Rattle.pointers.specs.Symbol.{prefixes, fitting, stripped_in, stripped_name}
use Rattle.pointers.specs.Tables.{Tables, image_in}
use Rattle.records.specs.Ask as ask
use Rattle.records.specs.Asks.{Each}
use Rattle.records.specs.Category.{decode_category_of, decode_category}
use Rattle.records.specs.Class.{decode_class_ro, decode_ro_of, decode_class_name, decode_nonzero_class_name, decode_bound_name, decode_class_name_of}
use Rattle.records.specs.Decode.{Decode, string, symbol, or_empty}
use Rattle.records.specs.Protocol.{decode_protocol}
use Rattle.records.specs.Row.{decode_legacy_method, decode_small_texts, decode_small_method, decode_ivar, decode_property, decode_row}
use Rattle.records.specs.declared.class.ObjcClass.{ObjcClass}
use Rattle.records.specs.declared.list.RowKind.{RowKind}
use Rattle.records.specs.declared.list.RowKind.TheVariants as kind
use Rattle.records.specs.declared.method.Method.{Method}
use Rattle.records.specs.declared.method.Selectors.{Selectors}
use Rattle.records.specs.declared.method.Selectors.TheVariants.{Indirect, Direct}
use Rattle.records.specs.declared.ivar.Ivar.{Ivar}
use Rattle.records.specs.declared.property.Property.{Property}
use Rattle.records.specs.declared.row.Row.{Row}
use Rattle.records.specs.declared.row.Row.TheVariants as row
use Rattle.used.specs.Used.{place_range, name_range, uses_text, uses_symbol_in}
use Rattle.used.proofs.AnswersAlike.{SamePart}
use Rattle.used.proofs.UsedParts.{used_asked}
use Rattle.used.proofs.Yields.{Yields, after_value, yields_done, yields_then, yields_next, yields_else, yields_else_first}

-- A part of equal parts is equal: its beginning, and what is left after a beginning.
shorter : (s z : List ℕ) (m n : ℕ) → m ≤ n → take n s ≡ take n z → take m s ≡ take m z
shorter s z m n l e = sym (take-take m n s l) ∙ ap (take m) e ∙ take-take m n z l

drop_of_take : (n m : ℕ) (s : List ℕ) → drop n (take m s) ≡ take (m - n) (drop n s)
drop_of_take zero m s = let k : m ≡ m - 0 = omega arith in ap (λ (i : ℕ). take i s) k
drop_of_take (suc n) zero s = let k : 0 ≡ 0 - suc n = omega arith in drop-nil (suc n) ∙ ap (λ (i : ℕ). take i (drop (suc n) s)) k
drop_of_take (suc n) (suc m) [] = sym (take-nil (suc m - suc n))
drop_of_take (suc n) (suc m) (x ∷ s) = let k : m - n ≡ suc m - suc n = omega arith in drop_of_take n m s ∙ ap (λ (i : ℕ). take i (drop n s)) k

-- A text is found where it is looked for, as long as the scan says.
text_found : (r : Reading) (bytes : List ℕ) (p : Place) (x : Text) → text_from r bytes p ≡ value x
    → x ≡ text_of p.file p.offset (scan_of (drop p.offset bytes)).len
unfolding text_from
text_found r bytes p x e =
    go r (ended (scan_of (drop p.offset bytes))) (leb p.offset (length bytes)) (verdict (text (drop p.offset bytes))) e
  where
    go : (r : Reading) (e b : Bool) (v : Verdict)
        → choose b (if_ended r e (and_then (if_good v (length (text (drop p.offset bytes)))) (λ n. value (text_of p.file p.offset n)))) (absent PastEnd) ≡ value x
        → x ≡ text_of p.file p.offset (scan_of (drop p.offset bytes)).len
    go Old e true (Ok u) q = unfold choose in cc
    go Old e true (Err k) q = let z : ◌≡◌ {A = ℕ} 0 1 = unfold choose in cc in absurd (omega arith)
    go New true true (Ok u) q = unfold choose in cc
    go New true true (Err k) q = let z : ◌≡◌ {A = ℕ} 0 1 = unfold choose in cc in absurd (omega arith)
    go New false true v q = let z : ◌≡◌ {A = ℕ} 0 1 = unfold choose in cc in absurd (omega arith)
    go Old e false v q = let z : ◌≡◌ {A = ℕ} 0 1 = unfold choose in cc in absurd (omega arith)
    go New true false v q = let z : ◌≡◌ {A = ℕ} 0 1 = unfold choose in cc in absurd (omega arith)
    go New false false v q = let z : ◌≡◌ {A = ℕ} 0 1 = unfold choose in cc in absurd (omega arith)

module _ (t : Tables) (others : List (List ℕ)) where
  -- A text that has the same bytes in both; what gives such texts where the bytes that it uses are the same.
  abbrev pub SameText : Text → Type 0
  SameText x = SamePart t.files others (name_range x)

  abbrev pub Gives : {A : Type 0} → (A → Type 0) → Decode A → Type 0
  Gives P d = Yields t (SamePart t.files others) P d

  empty_same : SameText (text_of 0 0 0)
  empty_same = refl

  read_same : (p : Place) (x : Text) → text_at t.setting.reading t.files p ≡ value x → SamePart t.files others (place_range p (read_at t.files p))
      → SameText x
  unfolding read_from
  read_same p x e h =
      let bytes = file_of t.files p.file in
      let is = text_found t.setting.reading bytes p x e in
      let inside = text_inside t.setting.reading bytes p x (sym e) in
      let offset = ap (λ (y : Text). y.offset) is in
      let len = ap (λ (y : Text). y.len) is in
      subst SameText (sym is)
      (shorter (drop p.offset bytes) (drop p.offset (file_of others p.file)) (scan_of (drop p.offset bytes)).len (scan_of (drop p.offset bytes)).read
      (omega (arith, inside.1, offset, len, length-drop p.offset bytes)) h)

  string_gives : (va : ℕ) → Gives SameText (string va)
  unfolding uses_text text_in
  string_gives va = record { holds = λ each x e. go x (subst (Each (SamePart t.files others)) (used_asked t (ask.string va)) each) e }
    where
      go : (x : Text) → Each (SamePart t.files others) (uses_text (image_in t) va) → text_in t.setting.reading (image_in t) va ≡ value x → SameText x
      go x h e =
          let first = then_came (outcomes.nonzero va) _ x (unfold text_in in e) in
          let second = then_came (lookup (rows t.segments) first.0) _ x first.2 in
          let mapped = after_value t (SamePart t.files others) _ first.1 (unfold uses_text in h) in
          let noted = after_value t (SamePart t.files others) _ second.1 mapped in
          read_same second.0 x second.2 noted.0

  prefix_same : (name : Text) → SameText name → SameText (stripped_name t.files name)
  unfolding stripped_in
  prefix_same name h =
      let bytes = file_of t.files name.file in
      let n = fitting prefixes (part bytes name.offset name.len) in
      let from : (s : List ℕ) → part s (name.offset + n) (name.len - n) ≡ drop n (part s name.offset name.len) =
      λ s. ap (take (name.len - n)) (sym (drop-drop n name.offset s)) ∙ sym (drop_of_take n name.len (drop name.offset s)) in
      from bytes ∙ ap (drop n) h ∙ sym (from (file_of others name.file))

  pub symbol_gives : (a : ℕ) → Gives SameText (symbol a)
  symbol_gives a = record { holds = λ each x e. go x (subst (Each (SamePart t.files others)) (used_asked t (ask.symbol a)) each) e }
    where
      go : (x : Text) → Each (SamePart t.files others) (uses_symbol_in t.files t.rebases t.binds t.index a)
          → symbol_of t.files t.rebases t.binds t.index a ≡ value x → SameText x
      go x h e =
          let came = then_came (bind_at t.files t.rebases t.binds t.index a) (λ name. value (stripped_name t.files name)) x (unfold symbol_of in e) in
          let noted = after_value t (SamePart t.files others) (λ name. name_range name ∷ []) came.1 (unfold uses_symbol_in in h) in
          let is : stripped_name t.files came.0 ≡ x = cc in
          subst SameText is (prefix_same came.0 noted.0)

  text_or_empty_gives : (va : ℕ) → Gives SameText (or_empty (string va))
  text_or_empty_gives va = yields_else t _ (string_gives va) (yields_done t _ empty_same)

  -- The texts of records.
  pub ro_gives : (va : ℕ) → Gives (λ r. SameText r.name) (decode_class_ro va)
  unfolding decode_class_ro
  ro_gives va =
      yields_next t _ (λ p.
      yields_next t _ (λ flags.
      yields_next t _ (λ start.
      yields_next t _ (λ size.
      yields_next t _ (λ layout.
      yields_next t _ (λ named.
      yields_next t _ (λ lists.
      yields_then t _ (string_gives named) (λ name same.
      yields_done t _ same))))))))

  pub ro_of_gives : (c : ObjcClass) → Gives (λ r. SameText r.name) (decode_ro_of c)
  unfolding decode_ro_of
  ro_of_gives c = yields_next t _ ro_gives

  class_name_gives : (va : ℕ) → Gives SameText (decode_class_name va)
  unfolding decode_class_name
  class_name_gives va = yields_next t _ (λ p. yields_next t _ (λ bits. yields_next t _ (λ ro. yields_next t _ string_gives)))

  pub class_name_of_gives : (address class : ℕ) → Gives SameText (decode_class_name_of address class)
  unfolding decode_class_name_of decode_nonzero_class_name decode_bound_name
  class_name_of_gives address class =
      yields_else_first t _ (yields_next t _ class_name_gives) (yields_next t _ symbol_gives)

  pub protocol_gives : (va : ℕ) → Gives (λ p. SameText p.name) (decode_protocol va)
  unfolding decode_protocol
  protocol_gives va =
      yields_next t _ (λ p.
      yields_next t _ (λ named.
      yields_next t _ (λ lists.
      yields_next t _ (λ size.
      yields_next t _ (λ flags.
      yields_then t _ (string_gives named) (λ name same.
      yields_next t _ (λ properties.
      yields_done t _ same)))))))

  pub category_gives : (va : ℕ) → Gives (λ c. SameText c.name) (decode_category va)
  unfolding decode_category decode_category_of
  category_gives va =
      yields_next t _ (λ i.
      yields_next t _ (λ p.
      yields_next t _ (λ named.
      yields_next t _ (λ class.
      yields_next t _ (λ lists.
      yields_next t _ (λ properties.
      yields_then t _ (string_gives named) (λ name same.
      yields_done t _ same)))))))

  -- And of rows.
  abbrev pub SameMethod : Method → Type 0
  SameMethod m = SameText m.selector × SameText m.types

  abbrev pub SameIvar : Ivar → Type 0
  SameIvar v = SameText v.name × SameText v.type_encoding

  abbrev pub SameProperty : Property → Type 0
  SameProperty p = SameText p.name × SameText p.attributes

  abbrev pub SameRow : Row → Type 0
  SameRow (row.Method m) = SameMethod m
  SameRow (row.Ivar v) = SameIvar v
  SameRow (row.Property p) = SameProperty p

  legacy_gives : (va : ℕ) → Gives SameMethod (decode_legacy_method va)
  unfolding decode_legacy_method
  legacy_gives va =
      yields_next t _ (λ p.
      yields_next t _ (λ name.
      yields_next t _ (λ typed.
      yields_next t _ (λ imp.
      yields_then t _ (string_gives name) (λ selector same.
      yields_then t _ (text_or_empty_gives typed) (λ types alike.
      yields_done t _ (same, alike)))))))

  small_texts_gives : (selectors : Selectors) (target typed : ℕ)
      → Gives (λ x. SameText x.selector × SameText x.types) (decode_small_texts selectors target typed)
  unfolding decode_small_texts
  small_texts_gives selectors target typed =
      yields_next t _ (λ named.
      yields_then t _ (string_gives named) (λ selector same.
      yields_then t _ (text_or_empty_gives typed) (λ types alike.
      yields_done t _ (same, alike))))

  small_gives : (va : ℕ) (selectors : Selectors) → Gives SameMethod (decode_small_method va selectors)
  unfolding decode_small_method
  small_gives va selectors =
      yields_next t _ (λ p.
      yields_next t _ (λ _.
      yields_next t _ (λ _.
      yields_next t _ (λ raw.
      yields_next t _ (λ types_field.
      yields_next t _ (λ imp_field.
      yields_then t _ (small_texts_gives selectors _ _) (λ texts same.
      yields_done t _ same)))))))

  ivar_gives : (va : ℕ) → Gives SameIvar (decode_ivar va)
  unfolding decode_ivar
  ivar_gives va =
      yields_next t _ (λ p.
      yields_next t _ (λ place.
      yields_next t _ (λ named.
      yields_next t _ (λ typed.
      yields_next t _ (λ raw.
      yields_next t _ (λ size.
      yields_then t _ (string_gives named) (λ name same.
      yields_then t _ (text_or_empty_gives typed) (λ encoding alike.
      yields_next t _ (λ offset.
      yields_done t _ (same, alike))))))))))

  property_gives : (va : ℕ) → Gives SameProperty (decode_property va)
  unfolding decode_property
  property_gives va =
      yields_next t _ (λ p.
      yields_next t _ (λ named.
      yields_next t _ (λ told.
      yields_then t _ (string_gives named) (λ name same.
      yields_then t _ (text_or_empty_gives told) (λ attributes alike.
      yields_done t _ (same, alike))))))

  pub row_gives : (k : RowKind) (va : ℕ) → Gives SameRow (decode_row k va)
  unfolding decode_row
  row_gives kind.Legacy va = yields_then t _ (legacy_gives va) (λ m same. yields_done t _ same)
  row_gives kind.SmallIndirect va = yields_then t _ (small_gives va Indirect) (λ m same. yields_done t _ same)
  row_gives kind.SmallDirect va = yields_then t _ (small_gives va Direct) (λ m same. yields_done t _ same)
  row_gives kind.Ivar va = yields_then t _ (ivar_gives va) (λ v same. yields_done t _ same)
  row_gives kind.Property va = yields_then t _ (property_gives va) (λ p same. yields_done t _ same)
