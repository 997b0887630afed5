-- Classes that decode lie at readable addresses, of which each segment has at most as many as the longest file has bytes.
use Prim.Native.Nat.{ℕ, zero, suc, ◌+◌, ◌-◌, ◌*◌, ◌≤◌, ◌<◌}
use mathlib.Core.Path.{◌≡◌, refl, sym, ap, subst, ◌∙◌}
use mathlib.Core.Bool.{Bool, true, false}
use mathlib.Core.List.Memᴰ
use mathlib.Core.List.{List, [], ◌∷◌, ◌++◌, Memᴰ}
use native.Mathlib.Omega.{arith}
use native.Mathlib.Decide.{ℕ_discrete}
use lib.Dec.{leb, ltb}
use lib.ListN.{length, length-append}
use borrow.Author.Tests.{leb-true}
use Rattle.reads.specs.Outcome.{Outcome, value, absent, refused, and_then, because, choose, sum64, or_zero}
use Rattle.reads.specs.Files.{file_of, longest}
use Rattle.reads.specs.declared.answer.Reason.{Reason}
use Rattle.reads.specs.declared.answer.Reason.TheVariants.{Unmapped, Unreadable, FieldOverflow}
use Rattle.reads.specs.Segment.{rows, ends, holds, place_at, placed, lookup}
use Rattle.reads.specs.Place.{Image, readable_at, readable, word}
use Rattle.reads.specs.declared.place.Place.{Place}
use Rattle.reads.specs.declared.segment.Segment.{Segment}
use Rattle.reads.proofs.Outcomes.{then_came}
use Rattle.reads.proofs.LentFiles.{longest_most}
use Rattle.reads.proofs.Lookups.{holds_is}
use Rattle.reads.proofs.SegmentRows.{rows_length}
use Rattle.reads.proofs.Tests.{choose_true, choose_false}
use Rattle.pointers.specs.Tables.{Tables, image_in}
use Rattle.pointers.specs.Slot.{slot}
use Rattle.records.specs.Header.{class_size, class_superclass, class_bits}
use Rattle.records.specs.Class.{data_at, decode_class, class_at}
use Rattle.records.specs.declared.class.ObjcClass.{ObjcClass}
use Rattle.ancestry.specs.Ancestry.{limit_of, limit}
use Rattle.ancestry.proofs.Chain.{absent_value, number_value}
use Rattle.reads.specs.declared.answer.Question.{Question}

-- What is chosen and a value where the other way is absent.
chosen : {A : Type 0} (b : Bool) (r : Reason) {o : Outcome A} {a : A} → choose b o (absent r) ≡ value a → (b ≡ true) × (o ≡ value a)
unfolding choose
chosen true r e = (refl, e)
chosen false r e = absent_value e

not_chosen : {A : Type 0} (b : Bool) (r : Reason) {o : Outcome A} {a : A} → choose b (absent r) o ≡ value a → (b ≡ false) × (o ≡ value a)
unfolding choose
not_chosen false r e = (refl, e)
not_chosen true r e = absent_value e

-- A value is so for no reason.
without_reason : {A : Type 0} (why : Reason) (o : Outcome A) {a : A} → because why o ≡ value a → o ≡ value a
without_reason why (value b) e = e
without_reason why (absent r) e = absent_value e
without_reason why (refused k) e = number_value e

-- n addresses from v on.
span : ℕ → ℕ → List ℕ
span v zero = []
span v (suc n) = v ∷ span (suc v) n

length_span : (v n : ℕ) → length (span v n) ≡ n
unfolding span
length_span v zero = refl
length_span v (suc n) = ap suc (length_span (suc v) n)

in_span : (n v x : ℕ) → v ≤ x → x < v + n → Memᴰ x (span v n)
unfolding span
in_span zero v x low high = absurd (omega arith)
in_span (suc n) v x low high = go (ℕ_discrete x v) (λ h. in_span n (suc v) x h (omega arith))
  where
    go : Dec (x ≡ v) → (suc v ≤ x → Memᴰ x (span (suc v) n)) → Memᴰ x (v ∷ span (suc v) n)
    go (yes e) more = Memᴰ.head e
    go (no e) more = Memᴰ.tail (more (omega arith))

-- n addresses for each segment.
pub reach : List Segment → ℕ → List ℕ
reach [] n = []
reach (s ∷ ss) n = span s.vmaddr n ++ reach ss n

length_reach : (ss : List Segment) (n : ℕ) → length (reach ss n) ≡ length ss * n
unfolding reach
length_reach [] n = omega arith
length_reach (s ∷ ss) n = rw (length-append (span s.vmaddr n) (reach ss n), length_span s.vmaddr n, length_reach ss n) (omega arith)

placed_offset : (s : Segment) (va : ℕ) (p : Place) → placed s va ≡ value p → va - s.vmaddr ≤ p.offset
unfolding placed sum64
placed_offset s va p e =
    let a = not_chosen (leb s.filesize (va - s.vmaddr)) Unmapped e in
    let b = then_came _ (λ offset. value (place_at s.file offset)) p a.1 in
    let c = chosen (ltb (s.fileoff + (va - s.vmaddr)) _) FieldOverflow (without_reason Unmapped _ b.1) in
    same b.0 s.fileoff c.1 b.2
  where
    same : (offset from : ℕ) → value (from + (va - s.vmaddr)) ≡ value offset → value (place_at s.file offset) ≡ value p → va - s.vmaddr ≤ p.offset
    same offset from f g =
        let x : from + (va - s.vmaddr) ≡ offset = cc in
        let y : offset ≡ p.offset = cc in
        omega arith

lookup_reach : (ss : List Segment) (va n : ℕ) (p : Place) → lookup ss va ≡ value p → p.offset < n → Memᴰ va (reach ss n)
unfolding lookup reach
lookup_reach [] va n p e h = absent_value e
lookup_reach (s ∷ ss) va n p e h = go (holds s va) refl (not_chosen (ends s) Unmapped e).1 (λ f. lookup_reach ss va n p f h)
  where
    go : (b : Bool) → holds s va ≡ b → choose b (placed s va) (lookup ss va) ≡ value p
        → (lookup ss va ≡ value p → Memᴰ va (reach ss n)) → Memᴰ va (span s.vmaddr n ++ reach ss n)
    go true g f more =
        let at = placed_offset s va p (sym (choose_true _ _ refl) ∙ f) in
        let in-it = holds_is s va g in
        Memᴰ.append_left (reach ss n) (in_span n s.vmaddr va in-it.1 (omega arith))
    go false g f more = Memᴰ.append_right (span s.vmaddr n) (more (sym (choose_false _ _ refl) ∙ f))

pub readable_reach : (m : Image) (va k : ℕ) (p : Place) → 0 < k → readable m va k ≡ value p → Memᴰ va (reach (rows m.words) (longest m.files))
unfolding readable readable_at
readable_reach m va k p h e =
    let a = then_came (because Unreadable (lookup (rows m.words) va)) (λ p. readable_at (length (file_of m.files p.file)) p k) p e in
    let n = length (file_of m.files a.0.file) in
    let b = chosen (leb (a.0.offset + k) n) Unreadable a.2 in
    lookup_reach (rows m.words) va (longest m.files) a.0 (without_reason Unreadable _ a.1)
    (omega (arith, leb-true (a.0.offset + k) n b.0, longest_most m.files a.0.file))

-- The addresses at which a class may decode.
pub known : Tables → List ℕ
known t = reach (rows t.segments) (longest t.files)

pub length_known : (t : Tables) → length (known t) ≡ limit t
unfolding known limit_of
length_known t = length_reach (rows t.segments) (longest t.files) ∙ rw (rows_length t.segments)

-- What holds of the value of an outcome, if it is one.
data Of {A : Type 0} (P : A → Type 0) : Outcome A → Type 0 where
  of_value : {a : A} → P a → Of P (value a)
  of_absent : {r : Reason} → Of P (absent r)
  of_number : {k : Question} → Of P (refused k)

of_then : {A B : Type 0} {P : B → Type 0} (o : Outcome A) (f : A → Outcome B) → ((a : A) → Of P (f a)) → Of P (and_then o f)
of_then (value a) f h = h a
of_then (absent r) f h = of_absent
of_then (refused k) f h = of_number

of_came : {A : Type 0} {P : A → Type 0} {o : Outcome A} {a : A} → Of P o → o ≡ value a → P a
of_came {P = P} (of_value {a = b} h) e = subst P (same e) h
  where
    same : {A : Type 0} {x y : A} → value x ≡ value y → x ≡ y
    same f = cc
of_came of_absent e = absent_value e
of_came of_number e = number_value e

-- A class has the address and the kind that were asked for.
pub record AskedClass (a : ℕ) (m : Bool) (c : ObjcClass) : Type 0 where
  pub address : c.address ≡ a
  pub kind : c.is_meta ≡ m

-- What a class that decodes says of its address and kind.
module _ (t : Tables) (a : ℕ) (m : Bool) (c : ObjcClass) (e : class_at t a m ≡ value c) where
  pub class_known : Memᴰ a (known t)
  unfolding decode_class known
  class_known =
      let r = then_came (readable (image_in t) a class_size) _ c e in
      readable_reach (image_in t) a class_size r.0 (omega arith) r.1

  pub class_of : AskedClass a m c
  unfolding decode_class
  class_of =
      of_came {P = AskedClass a m}
      (of_then (readable (image_in t) a class_size) _ (λ p.
      of_then (sum64 a class_superclass) _ (λ super.
      of_then (sum64 a class_bits) _ (λ bits.
      of_then (or_zero (slot t a)) _ (λ isa.
      of_then (or_zero (slot t super)) _ (λ superclass.
      of_then (word (image_in t) 8 bits) _ (λ raw.
      of_then (or_zero (data_at t bits raw)) _ (λ target.
      of_value (record { address = refl; kind = refl })))))))))
      e
