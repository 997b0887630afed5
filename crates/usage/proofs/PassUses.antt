-- The pass uses the bytes that the listing uses (specs/Pass.antt): bytes are a set, so neither the order nor a record that is gone over twice
-- matters. Over what opening accepted every part gives a value or is absent.
use Prim.Native.Nat.{ℕ, zero, suc, ◌+◌}
use mathlib.Core.Path.{◌≡◌, refl, sym, ap, ◌∙◌, subst}
use mathlib.Core.Bool.{Bool, true, false, ◌||◌}
use mathlib.Core.List.{List, [], ◌∷◌, ◌++◌, map}
use lib.Dec.{eqb}
use lib.ListN.{length}
use borrow.Author.Tests.{eqb-true}
use Rattle.reads.specs.Outcome.{Outcome, value, absent, refused, Unrefused, a_value, an_absence, and_then, choose}
use Rattle.reads.specs.declared.answer.Reason.{Reason}
use Rattle.reads.specs.declared.text.Text.{Text}
use Rattle.std.specs.Prelude.{Option}
use Rattle.pointers.specs.Open.{Opened}
use Rattle.pointers.specs.Tables.{Tables, image_in}
use Rattle.records.specs.Asks.{if_value}
use Rattle.records.specs.Decode.{Decode, Tried, given, lacking, tried_of, run, done, then, tried, nonzero}
use Rattle.records.specs.Category.{decode_category}
use Rattle.records.specs.Class.{decode_class, decode_ro_of, decode_class_name_of}
use Rattle.records.specs.List.{decode_list, entry_address}
use Rattle.records.specs.Protocol.{decode_protocol}
use Rattle.records.specs.Row.{decode_row}
use Rattle.records.specs.Search.{readables}
use Rattle.records.specs.declared.category.ObjcCategory.{ObjcCategory}
use Rattle.records.specs.declared.class.ClassRo.{ClassRo}
use Rattle.records.specs.declared.class.ObjcClass.{ObjcClass}
use Rattle.records.specs.declared.list.Layout.{Layout}
use Rattle.records.specs.declared.list.ListKind.{ListKind}
use Rattle.records.specs.declared.protocol.ObjcProtocol.{ObjcProtocol}
use Rattle.records.specs.declared.row.Row.{Row}
use Rattle.records.proofs.Decodes.{unrefused}
use Rattle.walks.specs.ProtocolNames.{has_slot, slot_in, decode_protocol_list, decode_name_in}
use Rattle.walks.specs.declared.protocol_names.ProtocolList.{ProtocolList}
use Rattle.walks.specs.Sections.{meta_of}
use Rattle.walks.specs.Slots.{slots_of, decode_address}
use Rattle.walks.specs.declared.slots.Lists.{Lists}
use Rattle.walks.specs.declared.slots.Lists.TheVariants.{Classes, Categories, Protocols}
use Rattle.walks.specs.PlainSections.{unless, without, once}
use Rattle.walks.proofs.Gathers.{There, is_there, there_then, there_joined, there_known}
use Rattle.listing.specs.DecodeListing.{joined, gather, or_nothing, of_value, present, as_each, decode_addresses, decode_listed, decode_with_meta, decode_classes, decode_categories, decode_protocols, decode_records, decode_listing, decode_slot_names, decode_protocol_names, named_by, decode_named, decode_own_lines, decode_fields, decode_readables, decode_entry_lines, decode_field_lines, decode_fields_lines, decode_lines_of, entry_tried, decode_entry, decode_entries, decode_field_events, decode_record_events, decode_events_from}
use Rattle.listing.specs.PlainListing.{class_line, category_line, row_line, name_line, end_line, Field, row_list, name_list, ro_fields, protocol_fields, category_fields, Entry, Event, event}
use Rattle.listing.specs.declared.at.Record.{Record}
use Rattle.listing.specs.declared.at.Record.TheVariants as a_record
use Rattle.listing.specs.declared.line.Line.{Line}
use Rattle.listing.specs.declared.line.Line.TheVariants as line
use Rattle.listing.proofs.DecodedListing.{readables_run}
use Rattle.ranges.specs.Range.{covers}
use Rattle.ranges.proofs.Covers.{covers_append, or_assoc, or_false}
use Rattle.ranges.specs.Runs.{merged}
use Rattle.ranges.proofs.MergedLaws.{merged_same}
use Rattle.used.specs.Used.{used, file_lengths}
use Rattle.used.specs.UsedBy.{used_by, ranges_used}
use Rattle.usage.specs.Pass.{both, or_end, if_there, only, each, each_row, pass_rows, list_slots, each_name, pass_names, pass_field, pass_lines, pass_with_meta, pass_class, pass_protocol, pass_category, pass_record, pass_slots, decode_pass}
use Rattle.used.proofs.ReadableUses.{readables_use}
use Rattle.used.proofs.UsedParts.{used_done, used_then, used_when, used_tried}

-- One of a list passes a test; a value does; one of a value's list does.
unfoldable any : {A : Type 0} → (A → Bool) → List A → Bool
any p [] = false
any p (x ∷ xs) = p x || any p xs

abbrev hit : {A : Type 0} → Outcome A → (A → Bool) → Bool
hit (value a) p = p a
hit (absent r) p = false
hit (refused k) p = false

any_append : {A : Type 0} (p : A → Bool) (xs ys : List A) → any p (xs ++ ys) ≡ (any p xs || any p ys)
unfolding any
any_append p [] ys = refl
any_append p (x ∷ xs) ys = ap (λ b. p x || b) (any_append p xs ys) ∙ or_assoc (p x) (any p xs) (any p ys)

any_map : {A B : Type 0} (p : B → Bool) (f : A → B) (xs : List A) → any p (map f xs) ≡ any (λ x. p (f x)) xs
unfolding any
any_map p f [] = refl
any_map p f (x ∷ xs) = ap (λ b. p (f x) || b) (any_map p f xs)

-- (a or b) or (c or d) in another order.
swap : (a b c d : Bool) → ((a || b) || (c || d)) ≡ ((a || c) || (b || d))
swap true b c d = refl
swap false true true d = refl
swap false true false d = refl
swap false false true d = refl
swap false false false d = refl

any_or : {A : Type 0} (p q : A → Bool) (xs : List A) → any (λ x. p x || q x) xs ≡ (any p xs || any q xs)
unfolding any
any_or p q [] = refl
any_or p q (x ∷ xs) = ap (λ b. (p x || q x) || b) (any_or p q xs) ∙ swap (p x) (q x) (any p xs) (any q xs)

any_same : {A : Type 0} (p q : A → Bool) → ((x : A) → p x ≡ q x) → (xs : List A) → any p xs ≡ any q xs
unfolding any
any_same p q h [] = refl
any_same p q h (x ∷ xs) = ap (λ b. b || any p xs) (h x) ∙ ap (λ b. q x || b) (any_same p q h xs)

-- Leaving out what came before changes nothing.
twice : (s t : Bool) → (s || (s || t)) ≡ (s || t)
twice true t = refl
twice false t = refl

under : (s r t t' : Bool) → (s || t) ≡ (s || t') → (s || (r || t)) ≡ (s || (r || t'))
under true r t t' e = refl
under false r t t' e = ap (λ x. r || x) e

without_any : (p : ℕ → Bool) (a : ℕ) (bs : List ℕ) → (p a || any p (without a bs)) ≡ (p a || any p bs)
unfolding without
without_any p a [] = refl
without_any p a (b ∷ bs) = go (eqb b a) refl (without_any p a bs)
  where
    go : (t : Bool) → eqb b a ≡ t → (p a || any p (without a bs)) ≡ (p a || any p bs) → (p a || any p (unless t b (without a bs))) ≡ (p a || any p (b ∷ bs))
    go true e ih = ih ∙ sym (unfold any in ap (λ (x : ℕ). p a || (p x || any p bs)) (eqb-true b a e) ∙ twice (p a) (any p bs))
    go false e ih = unfold any in under (p a) (p b) (any p (without a bs)) (any p bs) ih

once_any : (p : ℕ → Bool) (xs : List ℕ) → any p (once xs) ≡ any p xs
unfolding once any
once_any p [] = refl
once_any p (a ∷ xs) = without_any p a (once xs) ∙ ap (λ t. p a || t) (once_any p xs)

-- Whether a definition uses byte b of file f.
module _ (t : Tables) (f b : ℕ) where
  abbrev has : {A : Type 0} → Decode A → Bool
  has d = covers (used t d) f b

  has_done : {A : Type 0} (a : A) → has (done a) ≡ false
  unfolding covers
  has_done a = ap (λ rs. covers rs f b) (used_done t a)

  has_then : {A B : Type 0} (d : Decode A) (g : A → Decode B) → has (then d g) ≡ (has d || hit (run t d) (λ a. has (g a)))
  has_then {A} d g = ap (λ rs. covers rs f b) (used_then t d g) ∙ covers_append (used t d) (if_value (run t d) (λ a. used t (g a))) f b ∙ ap (λ x. has d || x) (go (run t d))
    where
      go : (o : Outcome A) → covers (if_value o (λ a. used t (g a))) f b ≡ hit o (λ a. has (g a))
      go (value a) = refl
      go (absent r) = unfold covers in refl
      go (refused k) = unfold covers in refl

  -- After a trial, where an absence uses nothing more.
  has_tried : {A B : Type 0} (d : Decode A) (g : Tried A → Decode B) → ((r : Reason) → has (g (lacking r)) ≡ false) → has (then (tried d) g) ≡ (has d || hit (run t d) (λ a. has (g (given a))))
  has_tried {A} d g none =
      has_then (tried d) g
      ∙ ap (λ (x : Bool). x || hit (run t (tried d)) (λ y. has (g y))) (ap (λ rs. covers rs f b) (used_tried t d))
      ∙ ap (λ x. has d || x) (go (run t d))
    where
      go : (o : Outcome A) → hit (tried_of o) (λ x. has (g x)) ≡ hit o (λ a. has (g (given a)))
      go (value a) = refl
      go (absent r) = none r
      go (refused k) = refl

  has_of : {A B : Type 0} (d : Decode A) (g : A → Decode (List B)) → has (of_value d g) ≡ (has d || hit (run t d) (λ a. has (g a)))
  has_of {B = B} d g = has_tried d (or_nothing g) (λ r. has_done {A = List B} [])

  has_if : {A : Type 0} (d : Decode A) (g : A → Decode (Unit {0})) → has (if_there d g) ≡ (has d || hit (run t d) (λ a. has (g a)))
  has_if d g = has_tried d (or_end g) (λ r. has_done tt)

  -- What is made of a value at the end uses nothing.
  has_last : {A B : Type 0} (d : Decode A) (g : A → B) → has (then d (λ a. done (g a))) ≡ has d
  has_last {A} d g = has_then d (λ a. done (g a)) ∙ ap (λ x. has d || x) (go (run t d)) ∙ or_false (has d)
    where
      go : (o : Outcome A) → hit o (λ a. has (done (g a))) ≡ false
      go (value a) = has_done (g a)
      go (absent r) = refl
      go (refused k) = refl

  has_mapped : {A B : Type 0} (g : A → B) (d : Decode (List A)) → has (as_each g d) ≡ has d
  has_mapped g d = has_last d (map g)

  has_present : {A : Type 0} (d : Decode A) → has (present d) ≡ has d
  has_present {A} d = has_of d (λ a. done (a ∷ [])) ∙ ap (λ x. has d || x) (go (run t d)) ∙ or_false (has d)
    where
      go : (o : Outcome A) → hit o (λ a. has (done (a ∷ []))) ≡ false
      go (value a) = has_done (a ∷ [])
      go (absent r) = refl
      go (refused k) = refl

  has_joined : {A : Type 0} (d e : Decode (List A)) → There (run t d) → has (joined d e) ≡ (has d || has e)
  has_joined {A} d e h =
      let k = there_known h in
      has_then d (λ xs. then e (λ ys. done (xs ++ ys)))
      ∙ ap (λ (o : Outcome (List A)). has d || hit o (λ xs. has (then e (λ ys. done (xs ++ ys))))) k.is
      ∙ ap (λ x. has d || x) (has_last e (λ ys. k.known ++ ys))

  has_gather : {A B : Type 0} (g : A → Decode (List B)) → ((a : A) → There (run t (g a))) → (xs : List A) → has (gather g xs) ≡ any (λ a. has (g a)) xs
  unfolding gather any
  has_gather {B = B} g h [] = has_done {A = List B} []
  has_gather g h (x ∷ xs) = has_joined (g x) (gather g xs) (h x) ∙ ap (λ y. has (g x) || y) (has_gather g h xs)

  hit_none : {A : Type 0} (o : Outcome A) (p : A → Bool) → ((a : A) → p a ≡ false) → hit o p ≡ false
  hit_none (value a) p h = h a
  hit_none (absent r) p h = refl
  hit_none (refused k) p h = refl

  has_only : {A : Type 0} (d : Decode A) → has (only d) ≡ has d
  has_only d = has_if d (λ a. done tt) ∙ ap (λ x. has d || x) (hit_none (run t d) (λ a. has (done tt)) (λ a. has_done tt)) ∙ or_false (has d)

  has_both : (d e : Decode (Unit {0})) → There (run t d) → has (both d e) ≡ (has d || has e)
  has_both d e h =
      has_then d (λ _. e) ∙ ap (λ (o : Outcome (Unit {0})). has d || hit o (λ _. has e)) (there_known h).is

  has_each : {A : Type 0} (g : A → Decode (Unit {0})) → ((a : A) → There (run t (g a))) → (xs : List A) → has (each g xs) ≡ any (λ a. has (g a)) xs
  unfolding each any
  has_each g h [] = has_done tt
  has_each g h (x ∷ xs) = has_both (g x) (each g xs) (h x) ∙ ap (λ y. has (g x) || y) (has_each g h xs)

-- Over what opening accepted, lists are there.
module _ (t : Tables) (o : Opened t) where
  tried_there : {A B : Type 0} (d : Decode A) (g : Tried A → Decode B) → ((a : A) → There (run t (g (given a)))) → ((r : Reason) → There (run t (g (lacking r)))) → There (run t (then (tried d) g))
  tried_there {A} d g h none = go (unrefused t o d)
    where
      go : {x : Outcome A} → Unrefused x → There (and_then (tried_of x) (λ y. run t (g y)))
      go (a_value a) = h a
      go (an_absence r) = none r

  of_there : {A B : Type 0} (d : Decode A) (g : A → Decode (List B)) → ((a : A) → There (run t (g a))) → There (run t (of_value d g))
  of_there d g h = tried_there d (or_nothing g) h (λ r. is_there [])

  if_there_there : {A : Type 0} (d : Decode A) (g : A → Decode (Unit {0})) → ((a : A) → There (run t (g a))) → There (run t (if_there d g))
  if_there_there d g h = tried_there d (or_end g) h (λ r. is_there tt)

  only_there : {A : Type 0} (d : Decode A) → There (run t (only d))
  only_there d = if_there_there d (λ a. done tt) (λ a. is_there tt)

  both_there : (d e : Decode (Unit {0})) → There (run t d) → There (run t e) → There (run t (both d e))
  both_there d e h g = there_then _ h (λ _. g)

  each_there : {A : Type 0} (g : A → Decode (Unit {0})) → ((a : A) → There (run t (g a))) → (xs : List A) → There (run t (each g xs))
  unfolding each
  each_there g h [] = is_there tt
  each_there g h (x ∷ xs) = both_there (g x) (each g xs) (h x) (each_there g h xs)

  present_there : {A : Type 0} (d : Decode A) → There (run t (present d))
  present_there d = of_there d (λ a. done (a ∷ [])) (λ a. is_there (a ∷ []))

  joined_there : {A : Type 0} (d e : Decode (List A)) → There (run t d) → There (run t e) → There (run t (joined d e))
  joined_there d e h g = there_joined h g

  gather_there : {A B : Type 0} (g : A → Decode (List B)) → ((a : A) → There (run t (g a))) → (xs : List A) → There (run t (gather g xs))
  unfolding gather
  gather_there {B = B} g h [] = is_there []
  gather_there g h (x ∷ xs) = joined_there (g x) (gather g xs) (h x) (gather_there g h xs)

  slot_names_there : (l : ProtocolList) (i k : ℕ) → There (run t (decode_slot_names l i k))
  unfolding decode_slot_names
  slot_names_there l i zero = is_there []
  slot_names_there l i (suc k) = go (has_slot l i) (joined_there (present (decode_name_in (slot_in l i))) (decode_slot_names l (i + 1) k) (present_there (decode_name_in (slot_in l i))) (slot_names_there l (i + 1) k))
    where
      go : (c : Bool) {x : Outcome (List Text)} → There x → There (choose c x (value []))
      go true h = unfold choose in h
      go false h = unfold choose in is_there []

  readables_there : (h : Layout) → There (run t (decode_readables h))
  readables_there h = subst There (sym (readables_run t h)) (is_there (readables (image_in t) h))

  field_lines_there : (n : ℕ) (x : Field) → There (run t (decode_field_lines n x))
  unfolding decode_field_lines decode_protocol_names
  field_lines_there n (row_list k va) =
      of_there (decode_list k va) (λ h. then (decode_readables h) (gather (decode_entry_lines n h))) (λ h.
      there_then _ (readables_there h) (gather_there (decode_entry_lines n h) (λ j. of_there (decode_row h.kind (entry_address h j)) (λ r. done (row_line n r ∷ [])) (λ r. is_there (row_line n r ∷ [])))))
  field_lines_there n (name_list va) =
      there_then _ (of_there (decode_protocol_list va) (λ l. decode_slot_names l 0 l.count) (λ l. slot_names_there l 0 l.count)) (λ names. is_there (map (name_line n) names))

  fields_lines_there : (n : ℕ) (xs : List Field) → There (run t (decode_fields_lines n xs))
  unfolding decode_fields_lines
  fields_lines_there n [] = is_there []
  fields_lines_there n (x ∷ xs) = joined_there (decode_field_lines n x) (decode_fields_lines (suc n) xs) (field_lines_there n x) (fields_lines_there (suc n) xs)

  fields_there : (x : Record) → There (run t (decode_fields x))
  unfolding decode_fields
  fields_there (a_record.Class c) = of_there (decode_ro_of c) (λ r. done (ro_fields r)) (λ r. is_there (ro_fields r))
  fields_there (a_record.Protocol p) = is_there (protocol_fields p)
  fields_there (a_record.Category c) = is_there (category_fields c)

  named_there : (d : Decode Text) → There (run t (decode_named d))
  named_there d = go (unrefused t o d)
    where
      go : {x : Outcome Text} → Unrefused x → There (and_then (tried_of x) (λ name. value (named_by name)))
      go (a_value a) = is_there (named_by (given a))
      go (an_absence r) = is_there (named_by (lacking r))

  own_there : (x : Record) → There (run t (decode_own_lines x))
  unfolding decode_own_lines
  own_there (a_record.Class c) =
      there_then _ (named_there (decode_class_name_of c.address c.superclass_address)) (λ name.
      joined_there (done (class_line c name ∷ [])) (of_value (decode_ro_of c) (λ r. done (line.Ro r ∷ []))) (is_there (class_line c name ∷ []))
      (of_there (decode_ro_of c) (λ r. done (line.Ro r ∷ [])) (λ r. is_there (line.Ro r ∷ []))))
  own_there (a_record.Protocol p) = is_there (line.Protocol p ∷ [])
  own_there (a_record.Category c) =
      there_then _ (named_there (decode_class_name_of c.address c.class_address)) (λ name. is_there (category_line c name ∷ []))

  lines_there : (x : Record) → There (run t (decode_lines_of x))
  unfolding decode_lines_of
  lines_there x = joined_there (decode_own_lines x) (then (decode_fields x) (decode_fields_lines 0)) (own_there x) (there_then _ (fields_there x) (fields_lines_there 0))

  -- A pass is there.
  rows_passed : (k : ListKind) (va : ℕ) → There (run t (pass_rows k va))
  unfolding pass_rows
  rows_passed k va =
      if_there_there (decode_list k va) (λ h. then (decode_readables h) (λ js. each_row h.kind (map (entry_address h) js))) (λ h.
      there_then _ (readables_there h) (λ js. each_there (λ a. only (decode_row h.kind a)) (λ a. only_there (decode_row h.kind a)) (map (entry_address h) js)))

  names_passed : (va : ℕ) → There (run t (pass_names va))
  unfolding pass_names
  names_passed va =
      if_there_there (decode_protocol_list va) (λ l. each_name (list_slots l 0 l.count)) (λ l.
      each_there (λ a. only (decode_name_in a)) (λ a. only_there (decode_name_in a)) (list_slots l 0 l.count))

  field_passed : (x : Field) → There (run t (pass_field x))
  unfolding pass_field
  field_passed (row_list k va) = rows_passed k va
  field_passed (name_list va) = names_passed va

  fields_passed : (xs : List Field) → There (run t (each pass_field xs))
  fields_passed xs = each_there pass_field field_passed xs

  lines_passed : (x : Record) → There (run t (pass_lines x))
  unfolding pass_lines
  lines_passed (a_record.Class c) =
      both_there (only (decode_class_name_of c.address c.superclass_address)) (if_there (decode_ro_of c) (λ r. each pass_field (ro_fields r)))
      (only_there (decode_class_name_of c.address c.superclass_address))
      (if_there_there (decode_ro_of c) (λ r. each pass_field (ro_fields r)) (λ r. fields_passed (ro_fields r)))
  lines_passed (a_record.Protocol p) = fields_passed (protocol_fields p)
  lines_passed (a_record.Category c) =
      both_there (only (decode_class_name_of c.address c.class_address)) (each pass_field (category_fields c))
      (only_there (decode_class_name_of c.address c.class_address)) (fields_passed (category_fields c))

  joined_is : {A : Type 0} (d e : Decode (List A)) {xs ys : List A} → run t d ≡ value xs → run t e ≡ value ys → run t (joined d e) ≡ value (xs ++ ys)
  joined_is d e h g = rw (h, g) refl

  -- The value of each that is gathered, in one list.
  module _ {A B : Type 0} (g : A → Decode (List B)) (h : (a : A) → There (run t (g a))) where
    all_of : List A → List B
    all_of [] = []
    all_of (x ∷ xs) = (there_known (h x)).known ++ all_of xs

    gather_is : (xs : List A) → run t (gather g xs) ≡ value (all_of xs)
    unfolding gather all_of
    gather_is [] = refl
    gather_is (x ∷ xs) = joined_is (g x) (gather g xs) (there_known (h x)).is (gather_is xs)

    gather_any : (q : B → Bool) (xs : List A) → any q (all_of xs) ≡ any (λ x. hit (run t (g x)) (any q)) xs
    unfolding any all_of
    gather_any q [] = refl
    gather_any q (x ∷ xs) =
        any_append q (there_known (h x)).known (all_of xs)
        ∙ ap (λ (y : Bool). y || any q (all_of xs)) (sym (ap (λ (z : Outcome (List B)). hit z (any q)) (there_known (h x)).is))
        ∙ ap (λ (y : Bool). hit (run t (g x)) (any q) || y) (gather_any q xs)

  present_hit : {A : Type 0} (q : A → Bool) (d : Decode A) → hit (run t (present d)) (any q) ≡ hit (run t d) q
  unfolding any
  present_hit {A} q d = go (run t d)
    where
      go : (x : Outcome A) → hit (and_then (tried_of x) (λ y. run t (or_nothing (λ a. done (a ∷ [])) y))) (any q) ≡ hit x q
      go (value a) = or_false (q a)
      go (absent r) = refl
      go (refused k) = refl

  module _ (f b : ℕ) where
    abbrev uses : {A : Type 0} → Decode A → Bool
    uses d = has t f b d

    -- Settling steps use what the lines of the same lists do.
    readables_have : {A : Type 0} (h : Layout) (g : List ℕ → Decode A) → uses (then (decode_readables h) g) ≡ uses (g (readables (image_in t) h))
    readables_have h g = ap (λ rs. covers rs f b) (readables_use t h g)

    entry_have : (n : ℕ) (h : Layout) (j : ℕ) → uses (decode_entry h j) ≡ uses (decode_entry_lines n h j)
    entry_have n h j =
        has_last t f b (tried (decode_row h.kind (entry_address h j))) (λ row. entry_tried j row ∷ [])
        ∙ ap (λ rs. covers rs f b) (used_tried t (decode_row h.kind (entry_address h j)))
        ∙ sym (has_of t f b (decode_row h.kind (entry_address h j)) (λ r. done (row_line n r ∷ [])) ∙ ap (λ (x : Bool). uses (decode_row h.kind (entry_address h j)) || x) (go (run t (decode_row h.kind (entry_address h j)))) ∙ or_false _)
      where
        go : (x : Outcome Row) → hit x (λ r. uses (done (row_line n r ∷ []))) ≡ false
        go (value r) = has_done t f b (row_line n r ∷ [])
        go (absent r) = refl
        go (refused k) = refl

    entry_there : (h : Layout) (j : ℕ) → There (run t (decode_entry h j))
    entry_there h j = go (unrefused t o (decode_row h.kind (entry_address h j)))
      where
        go : {x : Outcome Row} → Unrefused x → There (and_then (tried_of x) (λ row. value (entry_tried j row ∷ [])))
        go (a_value r) = is_there (entry_tried j (given r) ∷ [])
        go (an_absence r) = is_there (entry_tried j (lacking r) ∷ [])

    line_there : (n : ℕ) (h : Layout) (j : ℕ) → There (run t (decode_entry_lines n h j))
    line_there n h j = of_there (decode_row h.kind (entry_address h j)) (λ r. done (row_line n r ∷ [])) (λ r. is_there (row_line n r ∷ []))

    hit_same : {A : Type 0} (x : Outcome A) {p q : A → Bool} → ((a : A) → p a ≡ q a) → hit x p ≡ hit x q
    hit_same (value a) h = h a
    hit_same (absent r) h = refl
    hit_same (refused k) h = refl

    rows_have : (n : ℕ) (k : ListKind) (va : ℕ) → uses (decode_entries (row_list k va)) ≡ uses (decode_field_lines n (row_list k va))
    unfolding decode_entries decode_field_lines
    rows_have n k va =
        has_of t f b (decode_list k va) (λ h. then (decode_readables h) (gather (decode_entry h)))
        ∙ ap (λ (x : Bool). uses (decode_list k va) || x)
        (hit_same (run t (decode_list k va)) (λ h.
        readables_have h (gather (decode_entry h)) ∙ has_gather t f b (decode_entry h) (entry_there h) (readables (image_in t) h)
        ∙ any_same (λ j. uses (decode_entry h j)) (λ j. uses (decode_entry_lines n h j)) (entry_have n h) (readables (image_in t) h)
        ∙ sym (readables_have h (gather (decode_entry_lines n h)) ∙ has_gather t f b (decode_entry_lines n h) (line_there n h) (readables (image_in t) h))))
        ∙ sym (has_of t f b (decode_list k va) (λ h. then (decode_readables h) (gather (decode_entry_lines n h))))

    -- What is in one of two is in the first.
    within : (x y : Bool) → x ≡ y → (y || x) ≡ y
    within x true e = refl
    within x false e = e

    field_within : (r n : ℕ) (x : Field) → (uses (decode_field_lines n x) || uses (as_each (event r n) (decode_entries x))) ≡ uses (decode_field_lines n x)
    field_within r n (row_list k va) =
        within (uses (as_each (event r n) (decode_entries (row_list k va)))) (uses (decode_field_lines n (row_list k va)))
        (has_mapped t f b (event r n) (decode_entries (row_list k va)) ∙ rows_have n k va)
    field_within r n (name_list va) =
        ap (λ (y : Bool). uses (decode_field_lines n (name_list va)) || y) (has_mapped t f b (event r n) (decode_entries (name_list va)) ∙ none) ∙ or_false _
      where
        none : uses (decode_entries (name_list va)) ≡ false
        none = unfold decode_entries in has_done t f b {A = List Entry} []

    entries_there : (x : Field) → There (run t (decode_entries x))
    unfolding decode_entries
    entries_there (row_list k va) =
        of_there (decode_list k va) (λ h. then (decode_readables h) (gather (decode_entry h))) (λ h. there_then _ (readables_there h) (gather_there (decode_entry h) (entry_there h)))
    entries_there (name_list va) = is_there []

    steps_there : (r n : ℕ) (xs : List Field) → There (run t (decode_field_events r n xs))
    unfolding decode_field_events
    steps_there r n [] = is_there []
    steps_there r n (x ∷ xs) = joined_there (as_each (event r n) (decode_entries x)) (decode_field_events r (suc n) xs) (there_then _ (entries_there x) (λ es. is_there (map (event r n) es))) (steps_there r (suc n) xs)

    fields_within : (r n : ℕ) (xs : List Field) → (uses (decode_fields_lines n xs) || uses (decode_field_events r n xs)) ≡ uses (decode_fields_lines n xs)
    unfolding decode_fields_lines decode_field_events
    fields_within r n [] = ap (λ (y : Bool). uses {A = List Line} (done []) || y) (has_done t f b {A = List Event} []) ∙ or_false _
    fields_within r n (x ∷ xs) =
        let lines = has_joined t f b (decode_field_lines n x) (decode_fields_lines (suc n) xs) (field_lines_there n x) in
        let steps = has_joined t f b (as_each (event r n) (decode_entries x)) (decode_field_events r (suc n) xs) (there_then _ (entries_there x) (λ es. is_there (map (event r n) es))) in
        ap (λ (y : Bool). uses (joined (decode_field_lines n x) (decode_fields_lines (suc n) xs)) || y) steps
        ∙ ap (λ (y : Bool). y || (uses (as_each (event r n) (decode_entries x)) || uses (decode_field_events r (suc n) xs))) lines
        ∙ swap (uses (decode_field_lines n x)) (uses (decode_fields_lines (suc n) xs)) (uses (as_each (event r n) (decode_entries x))) (uses (decode_field_events r (suc n) xs))
        ∙ ap (λ (y : Bool). y || (uses (decode_fields_lines (suc n) xs) || uses (decode_field_events r (suc n) xs))) (field_within r n x)
        ∙ ap (λ (y : Bool). uses (decode_field_lines n x) || y) (fields_within r (suc n) xs)
        ∙ sym lines

    abbrev lined : Record → Bool
    lined x = uses (decode_lines_of x)

    -- (a or (b or c)) or (b or d) where d is in c.
    drop_last : (a x c d : Bool) → (c || d) ≡ c → ((a || (x || c)) || (x || d)) ≡ (a || (x || c))
    drop_last true x c d e = refl
    drop_last false true c d e = refl
    drop_last false false c d e = e

    record_within : (r : ℕ) (x : Record) → (lined x || uses (decode_record_events r x)) ≡ lined x
    unfolding decode_lines_of decode_record_events
    record_within r x =
        let k = there_known (fields_there x) in
        let rest = has_then t f b (decode_fields x) (decode_fields_lines 0) ∙ ap (λ (z : Outcome (List Field)). uses (decode_fields x) || hit z (λ fs. uses (decode_fields_lines 0 fs))) k.is in
        let steps = has_then t f b (decode_fields x) (decode_field_events r 0) ∙ ap (λ (z : Outcome (List Field)). uses (decode_fields x) || hit z (λ fs. uses (decode_field_events r 0 fs))) k.is in
        let whole = has_joined t f b (decode_own_lines x) (then (decode_fields x) (decode_fields_lines 0)) (own_there x) ∙ ap (λ (y : Bool). uses (decode_own_lines x) || y) rest in
        ap (λ (y : Bool). uses (joined (decode_own_lines x) (then (decode_fields x) (decode_fields_lines 0))) || y) steps
        ∙ ap (λ (y : Bool). y || (uses (decode_fields x) || uses (decode_field_events r 0 k.known))) whole
        ∙ drop_last (uses (decode_own_lines x)) (uses (decode_fields x)) (uses (decode_fields_lines 0 k.known)) (uses (decode_field_events r 0 k.known)) (fields_within r 0 k.known)
        ∙ sym whole

    events_within : (r : ℕ) (xs : List Record) → (any lined xs || uses (decode_events_from r xs)) ≡ any lined xs
    unfolding any decode_events_from
    events_within r [] = has_done t f b {A = List Event} []
    events_within r (x ∷ xs) =
        let k = there_known (fields_there x) in
        let there : There (run t (decode_record_events r x)) = unfold decode_record_events in there_then _ (fields_there x) (steps_there r 0) in
        ap (λ (y : Bool). (lined x || any lined xs) || y) (has_joined t f b (decode_record_events r x) (decode_events_from (suc r) xs) there)
        ∙ swap (lined x) (any lined xs) (uses (decode_record_events r x)) (uses (decode_events_from (suc r) xs))
        ∙ ap (λ (y : Bool). y || (any lined xs || uses (decode_events_from (suc r) xs))) (record_within r x)
        ∙ ap (λ (y : Bool). lined x || y) (events_within (suc r) xs)

    -- What a pass over a list, over lists, over a record's lines uses.
    row_uses : (n : ℕ) (h : Layout) (j : ℕ) → uses (decode_entry_lines n h j) ≡ uses (only (decode_row h.kind (entry_address h j)))
    row_uses n h j =
        has_of t f b (decode_row h.kind (entry_address h j)) (λ r. done (row_line n r ∷ []))
        ∙ ap (λ (x : Bool). uses (decode_row h.kind (entry_address h j)) || x)
        (hit_none t f b (run t (decode_row h.kind (entry_address h j))) (λ r. uses (done (row_line n r ∷ []))) (λ r. has_done t f b (row_line n r ∷ [])))
        ∙ or_false _ ∙ sym (has_only t f b (decode_row h.kind (entry_address h j)))

    rows_uses : (n : ℕ) (h : Layout) → uses (then (decode_readables h) (gather (decode_entry_lines n h))) ≡ uses (then (decode_readables h) (λ js. each_row h.kind (map (entry_address h) js)))
    rows_uses n h =
        let js = readables (image_in t) h in
        readables_have h (gather (decode_entry_lines n h)) ∙ has_gather t f b (decode_entry_lines n h) (line_there n h) js
        ∙ any_same (λ j. uses (decode_entry_lines n h j)) (λ j. uses (only (decode_row h.kind (entry_address h j)))) (row_uses n h) js
        ∙ sym (any_map (λ a. uses (only (decode_row h.kind a))) (entry_address h) js)
        ∙ sym (readables_have h (λ js. each_row h.kind (map (entry_address h) js))
        ∙ has_each t f b (λ a. only (decode_row h.kind a)) (λ a. only_there (decode_row h.kind a)) (map (entry_address h) js))

    name_uses : (l : ProtocolList) (i k : ℕ) → uses (decode_slot_names l i k) ≡ any (λ a. uses (only (decode_name_in a))) (list_slots l i k)
    unfolding decode_slot_names list_slots
    name_uses l i zero = has_done t f b {A = List Text} [] ∙ unfold any in refl
    name_uses l i (suc k) =
        ap (λ rs. covers rs f b) (used_when t (has_slot l i) (joined (present (decode_name_in (slot_in l i))) (decode_slot_names l (i + 1) k)) (done []))
        ∙ go (has_slot l i)
        (has_joined t f b (present (decode_name_in (slot_in l i))) (decode_slot_names l (i + 1) k) (present_there (decode_name_in (slot_in l i)))
        ∙ ap (λ (x : Bool). x || uses (decode_slot_names l (i + 1) k)) (has_present t f b (decode_name_in (slot_in l i)) ∙ sym (has_only t f b (decode_name_in (slot_in l i))))
        ∙ ap (λ (x : Bool). uses (only (decode_name_in (slot_in l i))) || x) (name_uses l (i + 1) k))
      where
        go : (c : Bool)
            → uses (joined (present (decode_name_in (slot_in l i))) (decode_slot_names l (i + 1) k)) ≡ (uses (only (decode_name_in (slot_in l i))) || any (λ a. uses (only (decode_name_in a))) (list_slots l (i + 1) k))
            → covers (choose c (used t (joined (present (decode_name_in (slot_in l i))) (decode_slot_names l (i + 1) k))) (used t (done {A = List Text} []))) f b ≡ any (λ a. uses (only (decode_name_in a))) (choose c (slot_in l i ∷ list_slots l (i + 1) k) [])
        go true more = unfold choose in (more ∙ unfold any in refl)
        go false more = unfold choose in (has_done t f b {A = List Text} [] ∙ unfold any in refl)

    names_uses : (va : ℕ) → uses (decode_protocol_names va) ≡ uses (pass_names va)
    unfolding decode_protocol_names pass_names
    names_uses va =
        has_of t f b (decode_protocol_list va) (λ l. decode_slot_names l 0 l.count)
        ∙ ap (λ (x : Bool). uses (decode_protocol_list va) || x)
        (hit_same (run t (decode_protocol_list va)) (λ l. name_uses l 0 l.count ∙ sym (has_each t f b (λ a. only (decode_name_in a)) (λ a. only_there (decode_name_in a)) (list_slots l 0 l.count))))
        ∙ sym (has_if t f b (decode_protocol_list va) (λ l. each_name (list_slots l 0 l.count)))

    field_uses : (n : ℕ) (x : Field) → uses (decode_field_lines n x) ≡ uses (pass_field x)
    unfolding decode_field_lines pass_field pass_rows
    field_uses n (row_list k va) =
        has_of t f b (decode_list k va) (λ h. then (decode_readables h) (gather (decode_entry_lines n h)))
        ∙ ap (λ (x : Bool). uses (decode_list k va) || x) (hit_same (run t (decode_list k va)) (rows_uses n))
        ∙ sym (has_if t f b (decode_list k va) (λ h. then (decode_readables h) (λ js. each_row h.kind (map (entry_address h) js))))
    field_uses n (name_list va) = has_mapped t f b (name_line n) (decode_protocol_names va) ∙ names_uses va

    fields_uses : (n : ℕ) (xs : List Field) → uses (decode_fields_lines n xs) ≡ uses (each pass_field xs)
    unfolding decode_fields_lines any
    fields_uses n xs = by n xs ∙ sym (has_each t f b pass_field field_passed xs)
      where
        by : (n : ℕ) (xs : List Field) → uses (decode_fields_lines n xs) ≡ any (λ x. uses (pass_field x)) xs
        by n [] = has_done t f b {A = List Line} []
        by n (x ∷ xs) =
            has_joined t f b (decode_field_lines n x) (decode_fields_lines (suc n) xs) (field_lines_there n x)
            ∙ ap (λ (y : Bool). y || uses (decode_fields_lines (suc n) xs)) (field_uses n x) ∙ ap (λ (y : Bool). uses (pass_field x) || y) (by (suc n) xs)

    named_uses : (d : Decode Text) → uses (decode_named d) ≡ uses (only d)
    named_uses d = has_last t f b (tried d) named_by ∙ ap (λ rs. covers rs f b) (used_tried t d) ∙ sym (has_only t f b d)

    -- (n or r) or (r or h).
    again : (n r h : Bool) → ((n || r) || (r || h)) ≡ (n || (r || h))
    again true r h = refl
    again false true h = refl
    again false false h = refl

    -- A record's lines: of a class the class_ro is read for its own line and for its lists.
    own_uses : (c : ObjcClass) → uses (decode_own_lines (a_record.Class c)) ≡ (uses (only (decode_class_name_of c.address c.superclass_address)) || uses (decode_ro_of c))
    unfolding decode_own_lines
    own_uses c =
        let named = decode_named (decode_class_name_of c.address c.superclass_address) in
        let k = there_known (named_there (decode_class_name_of c.address c.superclass_address)) in
        has_then t f b named _
        ∙ ap (λ (z : Outcome (Option Text)). uses named || hit z (λ name. uses (joined (done (class_line c name ∷ [])) (of_value (decode_ro_of c) (λ r. done (line.Ro r ∷ [])))))) k.is
        ∙ ap (λ (y : Bool). uses named || y)
        (has_joined t f b (done (class_line c k.known ∷ [])) (of_value (decode_ro_of c) (λ r. done (line.Ro r ∷ []))) (is_there (class_line c k.known ∷ []))
        ∙ ap (λ (y : Bool). y || uses (of_value (decode_ro_of c) (λ r. done (line.Ro r ∷ [])))) (has_done t f b (class_line c k.known ∷ []))
        ∙ has_of t f b (decode_ro_of c) (λ r. done (line.Ro r ∷ []))
        ∙ ap (λ (y : Bool). uses (decode_ro_of c) || y) (hit_none t f b (run t (decode_ro_of c)) (λ r. uses (done (line.Ro r ∷ []))) (λ r. has_done t f b (line.Ro r ∷ [])))
        ∙ or_false _)
        ∙ ap (λ (y : Bool). y || uses (decode_ro_of c)) (named_uses (decode_class_name_of c.address c.superclass_address))

    lists_uses : (c : ObjcClass) → uses (then (decode_fields (a_record.Class c)) (decode_fields_lines 0)) ≡ uses (if_there (decode_ro_of c) (λ r. each pass_field (ro_fields r)))
    unfolding decode_fields
    lists_uses c =
        has_then t f b (of_value (decode_ro_of c) (λ r. done (ro_fields r))) (decode_fields_lines 0)
        ∙ ap (λ (y : Bool). y || hit (run t (of_value (decode_ro_of c) (λ r. done (ro_fields r)))) (λ fs. uses (decode_fields_lines 0 fs)))
        (has_of t f b (decode_ro_of c) (λ r. done (ro_fields r))
        ∙ ap (λ (y : Bool). uses (decode_ro_of c) || y) (hit_none t f b (run t (decode_ro_of c)) (λ r. uses (done (ro_fields r))) (λ r. has_done t f b (ro_fields r))) ∙ or_false _)
        ∙ ap (λ (y : Bool). uses (decode_ro_of c) || y) (go (run t (decode_ro_of c)))
        ∙ sym (has_if t f b (decode_ro_of c) (λ r. each pass_field (ro_fields r)))
      where
        none : uses (decode_fields_lines 0 []) ≡ false
        none = unfold decode_fields_lines in has_done t f b {A = List Line} []

        go : (z : Outcome ClassRo) → hit (and_then (tried_of z) (λ y. run t (or_nothing (λ r. done (ro_fields r)) y))) (λ fs. uses (decode_fields_lines 0 fs)) ≡ hit z (λ r. uses (each pass_field (ro_fields r)))
        go (value r) = fields_uses 0 (ro_fields r)
        go (absent r) = none
        go (refused k) = refl

    lists_of : (x : Record) (fs : List Field) → decode_fields x ≡ done fs → uses (then (decode_fields x) (decode_fields_lines 0)) ≡ uses (each pass_field fs)
    lists_of x fs e =
        ap (λ (d : Decode (List Field)). uses (then d (decode_fields_lines 0))) e
        ∙ has_then t f b (done fs) (decode_fields_lines 0) ∙ ap (λ (y : Bool). y || uses (decode_fields_lines 0 fs)) (has_done t f b fs) ∙ fields_uses 0 fs

    lines_uses : (x : Record) → lined x ≡ uses (pass_lines x)
    unfolding decode_lines_of pass_lines
    lines_uses (a_record.Class c) =
        let name = only (decode_class_name_of c.address c.superclass_address) in
        let lists = if_there (decode_ro_of c) (λ r. each pass_field (ro_fields r)) in
        has_joined t f b (decode_own_lines (a_record.Class c)) (then (decode_fields (a_record.Class c)) (decode_fields_lines 0)) (own_there (a_record.Class c))
        ∙ ap (λ (y : Bool). y || uses (then (decode_fields (a_record.Class c)) (decode_fields_lines 0))) (own_uses c)
        ∙ ap (λ (y : Bool). (uses name || uses (decode_ro_of c)) || y) (lists_uses c)
        ∙ ap (λ (y : Bool). (uses name || uses (decode_ro_of c)) || y) (has_if t f b (decode_ro_of c) (λ r. each pass_field (ro_fields r)))
        ∙ again (uses name) (uses (decode_ro_of c)) (hit (run t (decode_ro_of c)) (λ r. uses (each pass_field (ro_fields r))))
        ∙ ap (λ (y : Bool). uses name || y) (sym (has_if t f b (decode_ro_of c) (λ r. each pass_field (ro_fields r))))
        ∙ sym (has_both t f b name lists (only_there (decode_class_name_of c.address c.superclass_address)))
    lines_uses (a_record.Protocol p) =
        has_joined t f b (decode_own_lines (a_record.Protocol p)) (then (decode_fields (a_record.Protocol p)) (decode_fields_lines 0)) (own_there (a_record.Protocol p))
        ∙ ap (λ (y : Bool). y || uses (then (decode_fields (a_record.Protocol p)) (decode_fields_lines 0))) own
        ∙ lists_of (a_record.Protocol p) (protocol_fields p) (unfold decode_fields in refl)
      where
        own : uses (decode_own_lines (a_record.Protocol p)) ≡ false
        own = unfold decode_own_lines in has_done t f b (line.Protocol p ∷ [])
    lines_uses (a_record.Category c) =
        let d = decode_class_name_of c.address c.class_address in
        has_joined t f b (decode_own_lines (a_record.Category c)) (then (decode_fields (a_record.Category c)) (decode_fields_lines 0)) (own_there (a_record.Category c))
        ∙ ap (λ (y : Bool). y || uses (then (decode_fields (a_record.Category c)) (decode_fields_lines 0))) own
        ∙ ap (λ (y : Bool). uses (only d) || y) (lists_of (a_record.Category c) (category_fields c) (unfold decode_fields in refl))
        ∙ sym (has_both t f b (only d) (each pass_field (category_fields c)) (only_there d))
      where
        own : uses (decode_own_lines (a_record.Category c)) ≡ uses (only (decode_class_name_of c.address c.class_address))
        own = unfold decode_own_lines in (has_last t f b (decode_named (decode_class_name_of c.address c.class_address)) (λ name. category_line c name ∷ []) ∙ named_uses (decode_class_name_of c.address c.class_address))

    -- The addresses in slots, and what is done with each.
    slot_there : (a : ℕ) → There (run t (present (decode_address a)))
    slot_there a = present_there (decode_address a)

    abbrev addresses : List ℕ → List ℕ
    addresses slots = all_of (λ a. present (decode_address a)) slot_there slots

    addressed : (p : ℕ → Bool) (slots : List ℕ) → any p (addresses slots) ≡ any (λ s. hit (run t (decode_address s)) p) slots
    addressed p slots =
        gather_any (λ a. present (decode_address a)) slot_there p slots
        ∙ any_same (λ s. hit (run t (present (decode_address s))) (any p)) (λ s. hit (run t (decode_address s)) p) (λ s. present_hit p (decode_address s)) slots

    listed_is : (ws : List ℕ) (lists : Lists) → run t (decode_listed ws lists) ≡ value (once (addresses (slots_of lists ws)))
    unfolding decode_listed decode_addresses
    listed_is ws lists = rw (gather_is (λ a. present (decode_address a)) slot_there (slots_of lists ws)) refl

    listed_have : (ws : List ℕ) (lists : Lists) → uses (decode_listed ws lists) ≡ any (λ s. uses (decode_address s)) (slots_of lists ws)
    unfolding decode_listed decode_addresses
    listed_have ws lists =
        has_last t f b (gather (λ a. present (decode_address a)) (slots_of lists ws)) once
        ∙ has_gather t f b (λ a. present (decode_address a)) slot_there (slots_of lists ws)
        ∙ any_same (λ a. uses (present (decode_address a))) (λ a. uses (decode_address a)) (λ a. has_present t f b (decode_address a)) (slots_of lists ws)

    -- A record's pass is there.
    abbrev meta : ObjcClass → Decode ObjcClass
    meta c = then (nonzero (meta_of c)) (λ a. decode_class a true)

    meta_passed : (c : ObjcClass) → There (run t (if_there (meta c) (λ m. pass_lines (a_record.Class m))))
    meta_passed c = if_there_there (meta c) (λ m. pass_lines (a_record.Class m)) (λ m. lines_passed (a_record.Class m))

    with_meta_passed : (c : ObjcClass) → There (run t (pass_with_meta c))
    unfolding pass_with_meta
    with_meta_passed c =
        both_there (pass_lines (a_record.Class c)) (if_there (meta c) (λ m. pass_lines (a_record.Class m))) (lines_passed (a_record.Class c)) (meta_passed c)

    record_passed : (lists : Lists) (a : ℕ) → There (run t (pass_record lists a))
    unfolding pass_class pass_category pass_protocol
    record_passed Classes a = if_there_there (decode_class a false) pass_with_meta with_meta_passed
    record_passed Categories a = if_there_there (decode_category a) (λ c. pass_lines (a_record.Category c)) (λ c. lines_passed (a_record.Category c))
    record_passed Protocols a = if_there_there (decode_protocol a) (λ p. pass_lines (a_record.Protocol p)) (λ p. lines_passed (a_record.Protocol p))

    -- A pass over slots: the slots, and each address that they hold.
    slot_passed : (lists : Lists) (s : ℕ) → There (run t (if_there (decode_address s) (pass_record lists)))
    slot_passed lists s = if_there_there (decode_address s) (pass_record lists) (record_passed lists)

    slots_passed : (lists : Lists) (ws : List ℕ) → There (run t (pass_slots lists ws))
    unfolding pass_slots
    slots_passed lists ws = each_there (λ s. if_there (decode_address s) (pass_record lists)) (slot_passed lists) (slots_of lists ws)

    slots_uses : (lists : Lists) (ws : List ℕ) → uses (pass_slots lists ws) ≡ any (λ s. uses (if_there (decode_address s) (pass_record lists))) (slots_of lists ws)
    unfolding pass_slots
    slots_uses lists ws = has_each t f b (λ s. if_there (decode_address s) (pass_record lists)) (slot_passed lists) (slots_of lists ws)

    slots_have : (lists : Lists) (ws : List ℕ)
        → uses (pass_slots lists ws) ≡ (any (λ s. uses (decode_address s)) (slots_of lists ws) || any (λ s. hit (run t (decode_address s)) (λ a. uses (pass_record lists a))) (slots_of lists ws))
    slots_have lists ws =
        slots_uses lists ws
        ∙ any_same (λ s. uses (if_there (decode_address s) (pass_record lists))) (λ s. uses (decode_address s) || hit (run t (decode_address s)) (λ a. uses (pass_record lists a))) (λ s. has_if t f b (decode_address s) (pass_record lists)) (slots_of lists ws)
        ∙ any_or (λ s. uses (decode_address s)) (λ s. hit (run t (decode_address s)) (λ a. uses (pass_record lists a))) (slots_of lists ws)

    -- Records that are taken once: what is used of each address, and of the lines of what is there.
    module _ {A : Type 0} (ws : List ℕ) (lists : Lists) (taken : ℕ → Decode (List A)) (there : (a : ℕ) → There (run t (taken a))) (x : A → Record)
        (each : (a : ℕ) → uses (pass_record lists a) ≡ (uses (taken a) || hit (run t (taken a)) (any (λ r. lined (x r))))) where
      abbrev found : List A
      found = all_of taken there (once (addresses (slots_of lists ws)))

      found_is : run t (then (decode_listed ws lists) (gather taken)) ≡ value found
      found_is = rw (listed_is ws lists) (gather_is taken there (once (addresses (slots_of lists ws))))

      once_have : (uses (then (decode_listed ws lists) (gather taken)) || any (λ r. lined (x r)) found) ≡ uses (pass_slots lists ws)
      once_have =
          let slots = slots_of lists ws in
          let all = addresses slots in
          let s = any (λ a. uses (decode_address a)) slots in
          let records : uses (then (decode_listed ws lists) (gather taken)) ≡ (s || any (λ a. uses (taken a)) (once all)) =
          has_then t f b (decode_listed ws lists) (gather taken)
          ∙ ap (λ (z : Outcome (List ℕ)). uses (decode_listed ws lists) || hit z (λ xs. uses (gather taken xs))) (listed_is ws lists)
          ∙ ap (λ (y : Bool). y || uses (gather taken (once all))) (listed_have ws lists)
          ∙ ap (λ (y : Bool). s || y) (has_gather t f b taken there (once all)) in
          ap (λ (y : Bool). y || any (λ r. lined (x r)) found) records
          ∙ ap (λ (y : Bool). (s || any (λ a. uses (taken a)) (once all)) || y) (gather_any taken there (λ r. lined (x r)) (once all))
          ∙ sym (or_assoc s (any (λ a. uses (taken a)) (once all)) (any (λ a. hit (run t (taken a)) (any (λ r. lined (x r)))) (once all)))
          ∙ ap (λ (y : Bool). s || y)
          (sym (any_or (λ a. uses (taken a)) (λ a. hit (run t (taken a)) (any (λ r. lined (x r)))) (once all))
          ∙ any_same (λ a. uses (taken a) || hit (run t (taken a)) (any (λ r. lined (x r)))) (λ a. uses (pass_record lists a)) (λ a. sym (each a)) (once all)
          ∙ once_any (λ a. uses (pass_record lists a)) all
          ∙ addressed (λ a. uses (pass_record lists a)) slots)
          ∙ sym (slots_have lists ws)

    -- Classes with their metaclasses.
    with_meta_there : (c : ObjcClass) → There (run t (decode_with_meta c))
    unfolding decode_with_meta
    with_meta_there c = joined_there (done (c ∷ [])) (present (meta c)) (is_there (c ∷ [])) (present_there (meta c))

    -- d or (q or (m or h)) in the other order.
    reorder : (d q m h : Bool) → (d || (q || (m || h))) ≡ ((d || m) || (q || h))
    reorder true q m h = refl
    reorder false true true h = refl
    reorder false true false h = refl
    reorder false false true h = refl
    reorder false false false h = refl

    meta_hit : (c : ObjcClass) → hit (run t (decode_with_meta c)) (any (λ r. lined (a_record.Class r))) ≡ (lined (a_record.Class c) || hit (run t (meta c)) (λ m. lined (a_record.Class m)))
    unfolding decode_with_meta
    meta_hit c =
        let k = there_known (present_there (meta c)) in
        ap (λ (z : Outcome (List ObjcClass)). hit z (any (λ r. lined (a_record.Class r)))) (joined_is (done (c ∷ [])) (present (meta c)) refl k.is)
        ∙ first k.known
        ∙ ap (λ (y : Bool). lined (a_record.Class c) || y) (sym (ap (λ (z : Outcome (List ObjcClass)). hit z (any (λ r. lined (a_record.Class r)))) k.is) ∙ present_hit (λ m. lined (a_record.Class m)) (meta c))
      where
        first : (xs : List ObjcClass) → any (λ r. lined (a_record.Class r)) ((c ∷ []) ++ xs) ≡ (lined (a_record.Class c) || any (λ r. lined (a_record.Class r)) xs)
        first xs = unfold any in refl

    with_meta_uses : (c : ObjcClass) → uses (decode_with_meta c) ≡ uses (meta c)
    unfolding decode_with_meta
    with_meta_uses c =
        has_joined t f b (done (c ∷ [])) (present (meta c)) (is_there (c ∷ []))
        ∙ ap (λ (y : Bool). y || uses (present (meta c))) (has_done t f b (c ∷ [])) ∙ has_present t f b (meta c)

    with_meta_has : (c : ObjcClass) → uses (pass_with_meta c) ≡ (lined (a_record.Class c) || (uses (meta c) || hit (run t (meta c)) (λ m. lined (a_record.Class m))))
    unfolding pass_with_meta
    with_meta_has c =
        has_both t f b (pass_lines (a_record.Class c)) (if_there (meta c) (λ m. pass_lines (a_record.Class m))) (lines_passed (a_record.Class c))
        ∙ ap (λ (y : Bool). y || uses (if_there (meta c) (λ m. pass_lines (a_record.Class m)))) (sym (lines_uses (a_record.Class c)))
        ∙ ap (λ (y : Bool). lined (a_record.Class c) || y)
        (has_if t f b (meta c) (λ m. pass_lines (a_record.Class m))
        ∙ ap (λ (y : Bool). uses (meta c) || y) (hit_same (run t (meta c)) (λ m. sym (lines_uses (a_record.Class m)))))

    class_each : (a : ℕ) → uses (pass_class a) ≡ (uses (of_value (decode_class a false) decode_with_meta) || hit (run t (of_value (decode_class a false) decode_with_meta)) (any (λ r. lined (a_record.Class r))))
    unfolding pass_class
    class_each a =
        has_if t f b (decode_class a false) pass_with_meta
        ∙ go (run t (decode_class a false))
        ∙ ap (λ (y : Bool). y || hit (run t (of_value (decode_class a false) decode_with_meta)) (any (λ r. lined (a_record.Class r)))) (sym (has_of t f b (decode_class a false) decode_with_meta))
      where
        go : (z : Outcome ObjcClass)
            → (uses (decode_class a false) || hit z (λ c. uses (pass_with_meta c)))
            ≡ ((uses (decode_class a false) || hit z (λ c. uses (decode_with_meta c))) || hit (and_then (tried_of z) (λ y. run t (or_nothing decode_with_meta y))) (any (λ r. lined (a_record.Class r))))
        go (value c) =
            ap (λ (y : Bool). uses (decode_class a false) || y) (with_meta_has c)
            ∙ reorder (uses (decode_class a false)) (lined (a_record.Class c)) (uses (meta c)) (hit (run t (meta c)) (λ m. lined (a_record.Class m)))
            ∙ ap (λ (y : Bool). (uses (decode_class a false) || y) || (lined (a_record.Class c) || hit (run t (meta c)) (λ m. lined (a_record.Class m)))) (sym (with_meta_uses c))
            ∙ ap (λ (y : Bool). (uses (decode_class a false) || uses (decode_with_meta c)) || y) (sym (meta_hit c))
        go (absent r) = sym (unfold any in or_false (uses (decode_class a false) || false))
        go (refused k) = sym (or_false (uses (decode_class a false) || false))

    -- Categories and protocols: present, and their lines.
    present_each : {A : Type 0} (d : Decode A) (x : A → Record) → uses (if_there d (λ r. pass_lines (x r))) ≡ (uses (present d) || hit (run t (present d)) (any (λ r. lined (x r))))
    present_each d x =
        has_if t f b d (λ r. pass_lines (x r))
        ∙ ap (λ (y : Bool). y || hit (run t d) (λ r. uses (pass_lines (x r)))) (sym (has_present t f b d))
        ∙ ap (λ (y : Bool). uses (present d) || y) (hit_same (run t d) (λ r. sym (lines_uses (x r))) ∙ sym (present_hit (λ r. lined (x r)) d))

    protocol_each : (a : ℕ) → uses (pass_protocol a) ≡ (uses (present (decode_protocol a)) || hit (run t (present (decode_protocol a))) (any (λ r. lined (a_record.Protocol r))))
    unfolding pass_protocol
    protocol_each a = present_each (decode_protocol a) a_record.Protocol

    -- Protocols repeat if they are listed twice.
    abbrev protocol_in : ℕ → Decode (List ObjcProtocol)
    protocol_in s = of_value (decode_address s) (λ p. present (decode_protocol p))

    protocol_in_there : (s : ℕ) → There (run t (protocol_in s))
    protocol_in_there s = of_there (decode_address s) (λ p. present (decode_protocol p)) (λ p. present_there (decode_protocol p))

    slot_each : (s : ℕ) → uses (if_there (decode_address s) (pass_record Protocols)) ≡ (uses (protocol_in s) || hit (run t (protocol_in s)) (any (λ r. lined (a_record.Protocol r))))
    slot_each s =
        has_if t f b (decode_address s) (pass_record Protocols)
        ∙ go (run t (decode_address s))
        ∙ ap (λ (y : Bool). y || hit (run t (protocol_in s)) (any (λ r. lined (a_record.Protocol r)))) (sym (has_of t f b (decode_address s) (λ p. present (decode_protocol p))))
      where
        go : (z : Outcome ℕ)
            → (uses (decode_address s) || hit z (λ a. uses (pass_protocol a)))
            ≡ ((uses (decode_address s) || hit z (λ p. uses (present (decode_protocol p)))) || hit (and_then (tried_of z) (λ y. run t (or_nothing (λ p. present (decode_protocol p)) y))) (any (λ r. lined (a_record.Protocol r))))
        go (value p) =
            ap (λ (y : Bool). uses (decode_address s) || y) (protocol_each p)
            ∙ or_assoc (uses (decode_address s)) (uses (present (decode_protocol p))) (hit (run t (present (decode_protocol p))) (any (λ r. lined (a_record.Protocol r))))
        go (absent r) = sym (unfold any in or_false (uses (decode_address s) || false))
        go (refused k) = sym (or_false (uses (decode_address s) || false))

    abbrev protocols_in : List ℕ → List ObjcProtocol
    protocols_in ws = all_of protocol_in protocol_in_there (slots_of Protocols ws)

    protocols_have : (ws : List ℕ) → (uses (decode_protocols ws) || any (λ r. lined (a_record.Protocol r)) (protocols_in ws)) ≡ uses (pass_slots Protocols ws)
    unfolding decode_protocols
    protocols_have ws =
        let slots = slots_of Protocols ws in
        ap (λ (y : Bool). y || any (λ r. lined (a_record.Protocol r)) (protocols_in ws)) (has_gather t f b protocol_in protocol_in_there slots)
        ∙ ap (λ (y : Bool). any (λ s. uses (protocol_in s)) slots || y) (gather_any protocol_in protocol_in_there (λ r. lined (a_record.Protocol r)) slots)
        ∙ sym (any_or (λ s. uses (protocol_in s)) (λ s. hit (run t (protocol_in s)) (any (λ r. lined (a_record.Protocol r)))) slots)
        ∙ any_same (λ s. uses (protocol_in s) || hit (run t (protocol_in s)) (any (λ r. lined (a_record.Protocol r)))) (λ s. uses (if_there (decode_address s) (pass_record Protocols))) (λ s. sym (slot_each s)) slots
        ∙ sym (slots_uses Protocols ws)

    -- The three lists of records, and the lines of each.
    class_taken : (a : ℕ) → There (run t (of_value (decode_class a false) decode_with_meta))
    class_taken a = of_there (decode_class a false) decode_with_meta with_meta_there

    category_taken : (a : ℕ) → There (run t (present (decode_category a)))
    category_taken a = present_there (decode_category a)

    category_each : (a : ℕ) → uses (pass_category a) ≡ (uses (present (decode_category a)) || hit (run t (present (decode_category a))) (any (λ r. lined (a_record.Category r))))
    unfolding pass_category
    category_each a = present_each (decode_category a) a_record.Category

    module _ (ws : List ℕ) where
      abbrev classes_in : List ObjcClass
      classes_in = found ws Classes (λ a. of_value (decode_class a false) decode_with_meta) class_taken a_record.Class class_each

      abbrev categories_in : List ObjcCategory
      categories_in = found ws Categories (λ a. present (decode_category a)) category_taken a_record.Category category_each

      abbrev records_in : List Record
      records_in = map a_record.Class classes_in ++ (map a_record.Protocol (protocols_in ws) ++ map a_record.Category categories_in)

      classes_are : run t (decode_classes ws) ≡ value classes_in
      unfolding decode_classes
      classes_are = found_is ws Classes (λ a. of_value (decode_class a false) decode_with_meta) class_taken a_record.Class class_each

      categories_are : run t (decode_categories ws) ≡ value categories_in
      unfolding decode_categories
      categories_are = found_is ws Categories (λ a. present (decode_category a)) category_taken a_record.Category category_each

      protocols_are : run t (decode_protocols ws) ≡ value (protocols_in ws)
      unfolding decode_protocols
      protocols_are = gather_is protocol_in protocol_in_there (slots_of Protocols ws)

      records_are : run t (decode_records ws) ≡ value records_in
      unfolding decode_records
      records_are = rw (classes_are, protocols_are, categories_are) refl

      classes_have : (uses (decode_classes ws) || any (λ r. lined (a_record.Class r)) classes_in) ≡ uses (pass_slots Classes ws)
      unfolding decode_classes
      classes_have = once_have ws Classes (λ a. of_value (decode_class a false) decode_with_meta) class_taken a_record.Class class_each

      categories_have : (uses (decode_categories ws) || any (λ r. lined (a_record.Category r)) categories_in) ≡ uses (pass_slots Categories ws)
      unfolding decode_categories
      categories_have = once_have ws Categories (λ a. present (decode_category a)) category_taken a_record.Category category_each

      records_have : uses (decode_records ws) ≡ (uses (decode_classes ws) || (uses (decode_protocols ws) || uses (decode_categories ws)))
      unfolding decode_records
      records_have =
          has_joined t f b (as_each a_record.Class (decode_classes ws)) (joined (as_each a_record.Protocol (decode_protocols ws)) (as_each a_record.Category (decode_categories ws)))
          (there_then _ (subst There (sym classes_are) (is_there classes_in)) (λ cs. is_there (map a_record.Class cs)))
          ∙ ap (λ (y : Bool). y || uses (joined (as_each a_record.Protocol (decode_protocols ws)) (as_each a_record.Category (decode_categories ws)))) (has_mapped t f b a_record.Class (decode_classes ws))
          ∙ ap (λ (y : Bool). uses (decode_classes ws) || y)
          (has_joined t f b (as_each a_record.Protocol (decode_protocols ws)) (as_each a_record.Category (decode_categories ws))
          (there_then _ (subst There (sym protocols_are) (is_there (protocols_in ws))) (λ ps. is_there (map a_record.Protocol ps)))
          ∙ ap (λ (y : Bool). y || uses (as_each a_record.Category (decode_categories ws))) (has_mapped t f b a_record.Protocol (decode_protocols ws))
          ∙ ap (λ (y : Bool). uses (decode_protocols ws) || y) (has_mapped t f b a_record.Category (decode_categories ws)))

      lines_have : any lined records_in ≡ (any (λ r. lined (a_record.Class r)) classes_in || (any (λ r. lined (a_record.Protocol r)) (protocols_in ws) || any (λ r. lined (a_record.Category r)) categories_in))
      lines_have =
          any_append lined (map a_record.Class classes_in) (map a_record.Protocol (protocols_in ws) ++ map a_record.Category categories_in)
          ∙ ap (λ (y : Bool). y || any lined (map a_record.Protocol (protocols_in ws) ++ map a_record.Category categories_in)) (any_map lined a_record.Class classes_in)
          ∙ ap (λ (y : Bool). any (λ r. lined (a_record.Class r)) classes_in || y)
          (any_append lined (map a_record.Protocol (protocols_in ws)) (map a_record.Category categories_in)
          ∙ ap (λ (y : Bool). y || any lined (map a_record.Category categories_in)) (any_map lined a_record.Protocol (protocols_in ws))
          ∙ ap (λ (y : Bool). any (λ r. lined (a_record.Protocol r)) (protocols_in ws) || y) (any_map lined a_record.Category categories_in))

      pass_has : uses (decode_pass ws) ≡ (uses (pass_slots Classes ws) || (uses (pass_slots Protocols ws) || uses (pass_slots Categories ws)))
      unfolding decode_pass
      pass_has =
          has_both t f b (pass_slots Classes ws) (both (pass_slots Protocols ws) (pass_slots Categories ws)) (slots_passed Classes ws)
          ∙ ap (λ (y : Bool). uses (pass_slots Classes ws) || y) (has_both t f b (pass_slots Protocols ws) (pass_slots Categories ws) (slots_passed Protocols ws))

      listing_has : uses (decode_listing ws) ≡ (uses (decode_records ws) || any lined records_in)
      unfolding decode_listing
      listing_has =
          let k = there_known (gather_there decode_lines_of lines_there records_in) in
          has_then t f b (decode_records ws) _
          ∙ ap (λ (z : Outcome (List Record)). uses (decode_records ws) || hit z (λ rs. uses (then (gather decode_lines_of rs) (λ lines. then (decode_events_from 0 rs) (λ events. done (lines ++ (end_line (length rs) (length events) ∷ []))))))) records_are
          ∙ ap (λ (y : Bool). uses (decode_records ws) || y)
          (has_then t f b (gather decode_lines_of records_in) _
          ∙ ap (λ (z : Outcome (List Line)). uses (gather decode_lines_of records_in) || hit z (λ lines. uses (then (decode_events_from 0 records_in) (λ events. done (lines ++ (end_line (length records_in) (length events) ∷ [])))))) k.is
          ∙ ap (λ (y : Bool). y || uses (then (decode_events_from 0 records_in) (λ events. done (k.known ++ (end_line (length records_in) (length events) ∷ []))))) (has_gather t f b decode_lines_of lines_there records_in)
          ∙ ap (λ (y : Bool). any lined records_in || y) (has_last t f b (decode_events_from 0 records_in) (λ events. k.known ++ (end_line (length records_in) (length events) ∷ [])))
          ∙ events_within 0 records_in)

      pass_listing : uses (decode_pass ws) ≡ uses (decode_listing ws)
      pass_listing =
          pass_has
          ∙ ap (λ (y : Bool). y || (uses (pass_slots Protocols ws) || uses (pass_slots Categories ws))) (sym classes_have)
          ∙ ap (λ (y : Bool). (uses (decode_classes ws) || any (λ r. lined (a_record.Class r)) classes_in) || (y || uses (pass_slots Categories ws))) (sym (protocols_have ws))
          ∙ ap (λ (y : Bool). (uses (decode_classes ws) || any (λ r. lined (a_record.Class r)) classes_in) || ((uses (decode_protocols ws) || any (λ r. lined (a_record.Protocol r)) (protocols_in ws)) || y)) (sym categories_have)
          ∙ ap (λ (y : Bool). (uses (decode_classes ws) || any (λ r. lined (a_record.Class r)) classes_in) || y)
          (swap (uses (decode_protocols ws)) (any (λ r. lined (a_record.Protocol r)) (protocols_in ws)) (uses (decode_categories ws)) (any (λ r. lined (a_record.Category r)) categories_in))
          ∙ swap (uses (decode_classes ws)) (any (λ r. lined (a_record.Class r)) classes_in) (uses (decode_protocols ws) || uses (decode_categories ws)) (any (λ r. lined (a_record.Protocol r)) (protocols_in ws) || any (λ r. lined (a_record.Category r)) categories_in)
          ∙ ap (λ (y : Bool). y || (any (λ r. lined (a_record.Class r)) classes_in || (any (λ r. lined (a_record.Protocol r)) (protocols_in ws) || any (λ r. lined (a_record.Category r)) categories_in))) (sym records_have)
          ∙ ap (λ (y : Bool). uses (decode_records ws) || y) (sym lines_have)
          ∙ sym listing_has

  -- The ranges of the pass are those of the listing.
  pub pass_same : merged (file_lengths t.files) (used t (decode_pass t.sections)) ≡ ranges_used t
  unfolding ranges_used used_by
  pass_same = merged_same (file_lengths t.files) (used t (decode_pass t.sections)) (used t (decode_listing t.sections)) (λ f b. pass_listing f b t.sections)

  -- No question refuses the pass.
  pub pass_there : There (run t (decode_pass t.sections))
  unfolding decode_pass
  pass_there =
      both_there (pass_slots Classes t.sections) (both (pass_slots Protocols t.sections) (pass_slots Categories t.sections)) (slots_passed 0 0 Classes t.sections)
      (both_there (pass_slots Protocols t.sections) (pass_slots Categories t.sections) (slots_passed 0 0 Protocols t.sections) (slots_passed 0 0 Categories t.sections))
