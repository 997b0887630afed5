-- Over tables that opening accepted no class is refused, and a finished class walk leaves in the ledger the addresses whose records, one
-- for each C line and in their order, `ancestries` writes.
use Prim.Native.Nat.{ℕ, zero, suc, ◌+◌, ◌*◌, ◌/◌, ◌≤◌, ◌<◌}
use mathlib.Core.Path.{◌≡◌, refl, sym, ap, ◌∙◌}
use mathlib.Core.Bool.{true, false}
use mathlib.Core.List.{List, [], ◌∷◌, ◌++◌, append_assoc, flat_map}
use native.Mathlib.Omega.{arith}
use lib.ListN.{length, drop}
use Rattle.reads.specs.Outcome.{Outcome, value, absent, refused, and_then, nonzero, Unrefused, a_value, an_absence}
use Rattle.reads.specs.declared.answer.Reason.{Reason}
use Rattle.reads.proofs.Outcomes.{then_came}
use Rattle.reads.proofs.Unrefused.{unrefused_then, nonzero_unrefused}
use Rattle.reads.proofs.Tests.{choose_true, choose_false}
use Rattle.pointers.specs.Tables.{Tables}
use Rattle.pointers.specs.Open.{Opened}
use Rattle.pointers.proofs.OpenedTables.{opened_asked}
use Rattle.records.specs.Class.{class_at}
use Rattle.walks.specs.Gather.{gather, of_value, present}
use Rattle.walks.specs.Sections.{at_start, met_in, finished, classes, step_of, meta_of}
use Rattle.walks.specs.PlainSections.{with_meta, plain_classes, left_after}
use Rattle.records.specs.declared.class.ObjcClass.{ObjcClass}
use Rattle.records.proofs.Decodes.{class_unrefused}
use Rattle.walks.proofs.Gathers.{joined_parts, gather_none, gather_parts, Held, held_one, held_none, present_held, There, there_present, there_gather, there_known}
use Rattle.walks.proofs.OpenedSections.{classes_there}
use Rattle.walks.proofs.MetAddresses.{classes_met}
use Rattle.ancestry.specs.Chain.{onward, ended, looping, climb}
use Rattle.ancestry.specs.Ancestry.{super_at, up_in, limit, ancestry_of, ancestries, written, words_of, ancestries_left, no_meta, line_classes, Each, none, more}
use Rattle.ancestry.specs.Filling.{tally}
use Rattle.ancestry.specs.declared.class_chain.Ancestry.{Ancestry}
use Rattle.ancestry.proofs.Known.{class_of}
use Rattle.ancestry.proofs.Answers.{left_short, left_written}
use Rattle.reads.specs.declared.answer.Question.TheVariants.{AncestryRoom}

flat_append : {A B : Type 0} (f : A → List B) (xs ys : List A) → flat_map f (xs ++ ys) ≡ flat_map f xs ++ flat_map f ys
unfolding flat_map
flat_append f [] ys = refl
flat_append {B = B} f (x ∷ xs) ys =
    ap (λ (l : List B). f x ++ l) (flat_append f xs ys) ∙ sym (append_assoc (f x) (flat_map f xs) (flat_map f ys))

-- Where no step is refused, a climb tells something.
pub climb_value : (up : ℕ → Outcome ℕ) → ((a : ℕ) → Unrefused (up a)) → (n a count last : ℕ) → (x : Ancestry) × (climb up n a count last ≡ value x)
unfolding climb
climb_value up u zero a count last = (looping, refl)
climb_value up u (suc n) a count last = go (u a) (λ b. climb_value up u n b (suc count) b)
  where
    go : {o : Outcome ℕ} → Unrefused o → ((b : ℕ) → (x : Ancestry) × (climb up n b (suc count) b ≡ value x))
        → (x : Ancestry) × (onward o (value (ended count last)) (λ b. climb up n b (suc count) b) ≡ value x)
    go (a_value b) later = later b
    go (an_absence r) later = (ended count last, refl)

module _ (t : Tables) (o : Opened t) where
  super_unrefused : (c : ObjcClass) → Unrefused (super_at t c)
  unfolding super_at
  super_unrefused c = unrefused_then _ (nonzero_unrefused c.superclass_address) (λ a. class_unrefused t o a c.is_meta)

  pub up_unrefused : (a : ℕ) → Unrefused (up_in t a)
  unfolding up_in
  up_unrefused a =
      unrefused_then _ (class_unrefused t o a false) (λ c. unrefused_then (λ d. value d.address) (super_unrefused c) (λ d. a_value d.address))

  -- A class that decodes has a record.
  pub class_told : (a : ℕ) (c : ObjcClass) → class_at t a false ≡ value c → (x : Ancestry) × (ancestry_of t a ≡ value x)
  unfolding ancestry_of
  class_told a c e = let r = climb_value (up_in t) up_unrefused (limit t) a 0 0 in (r.0, rw e r.1)

  -- No class gives a number, and so none of a list of addresses.
  pub ancestry_unrefused : (a : ℕ) → Unrefused (ancestry_of t a)
  unfolding ancestry_of
  ancestry_unrefused a =
      unrefused_then _ (class_unrefused t o a false) (λ c. let r = climb_value (up_in t) up_unrefused (limit t) a 0 0 in rw r.1 (a_value r.0))

  pub ancestries_there : (addresses : List ℕ) → There (ancestries t addresses)
  ancestries_there = there_gather _ (λ a. there_present (ancestry_unrefused a))

  -- The classes of an address, of which those that are no metaclasses have C lines.
  classes_at : ℕ → Outcome (List ObjcClass)
  classes_at a = of_value (class_at t a false) (with_meta t)

  meta_line : (c : ObjcClass) → c.is_meta ≡ true → no_meta c ≡ []
  unfolding no_meta
  meta_line c e = choose_true _ _ e

  own_line : (c : ObjcClass) → c.is_meta ≡ false → no_meta c ≡ c ∷ []
  unfolding no_meta
  own_line c e = choose_false _ _ e

  meta_of_lem : (c d : ObjcClass) → and_then (nonzero (meta_of c)) (λ a. class_at t a true) ≡ value d → d.is_meta ≡ true
  meta_of_lem c d e =
      let r = then_came (nonzero (meta_of c)) (λ a. class_at t a true) d e in
      (class_of t r.0 true d r.2).kind

  lines_meta : {p : Outcome ObjcClass} {ds : List ObjcClass} → Held p ds → ((d : ObjcClass) → p ≡ value d → d.is_meta ≡ true) → flat_map no_meta ds ≡ []
  unfolding flat_map
  lines_meta (held_one d) f = rw (meta_line d (f d refl))
  lines_meta (held_none r) f = refl

  -- A class that decodes has one C line, its own.
  lines_one : (a : ℕ) (c : ObjcClass) (cs : List ObjcClass) → class_at t a false ≡ value c → classes_at a ≡ value cs → flat_map no_meta cs ≡ c ∷ []
  unfolding classes_at with_meta
  lines_one a c cs e f =
      let parts = joined_parts (value (c ∷ [])) (present (and_then (nonzero (meta_of c)) (λ a. class_at t a true))) (rw e at f) in
      let first : c ∷ [] ≡ parts.first = let g = parts.of_first in cc in
      let whole : cs ≡ c ∷ parts.second = parts.whole ∙ ap (λ (xs : List ObjcClass). xs ++ parts.second) (sym first) in
      let own = own_line c (class_of t a false c e).kind in
      let metas = lines_meta (present_held (and_then (nonzero (meta_of c)) (λ a. class_at t a true)) parts.of_second) (meta_of_lem c) in
      ap (flat_map no_meta) whole ∙ together parts.second own metas
    where
      together : (ds : List ObjcClass) → no_meta c ≡ c ∷ [] → flat_map no_meta ds ≡ [] → flat_map no_meta (c ∷ ds) ≡ c ∷ []
      together ds own metas = unfold flat_map in rw (own, metas)

  -- Each address that decodes has its record, and its C line.
  abbrev Told : List ℕ → List ObjcClass → Type 0
  Told addresses cs = (xs : List Ancestry) × (ancestries t addresses ≡ value xs) × Each t (flat_map no_meta cs) xs

  module _ (a : ℕ) (rest : List ℕ) (first second : List ObjcClass) (e : classes_at a ≡ value first) (later : Told rest second) where
    told_one : (c : ObjcClass) → class_at t a false ≡ value c → Told (a ∷ rest) (first ++ second)
    unfolding gather
    told_one c f =
        let x = class_told a c f in
        let own : ancestry_of t c.address ≡ value x.0 = ap (ancestry_of t) (class_of t a false c f).address ∙ x.1 in
        let lines : flat_map no_meta (first ++ second) ≡ c ∷ flat_map no_meta second = flat_append no_meta first second ∙ rw (lines_one a c first f e) in
        (x.0 ∷ later.0, rw (x.1, later.1), rw lines (more own later.2))

    told_none : (r : Reason) → class_at t a false ≡ absent r → Told (a ∷ rest) (first ++ second)
    unfolding gather ancestry_of classes_at
    told_none r f =
        let nothing : first ≡ [] = let g = rw f at e in cc in
        (later.0, rw (f, later.1), rw nothing later.2)

    told_more : {p : Outcome ObjcClass} → class_at t a false ≡ p → Unrefused p → Told (a ∷ rest) (first ++ second)
    told_more f (a_value c) = told_one c f
    told_more f (an_absence r) = told_none r f

  told_each : (addresses : List ℕ) (cs : List ObjcClass) → gather classes_at addresses ≡ value cs → Told addresses cs
  told_each [] cs e = let nothing : cs ≡ [] = gather_none classes_at e in rw nothing (unfold gather in unfold flat_map in ([], refl, none))
  told_each (a ∷ rest) cs e =
      let parts = gather_parts classes_at a rest e in
      rw parts.whole
      (told_more a rest parts.first parts.second parts.of_first (told_each rest parts.second parts.of_second) refl (class_unrefused t o a false))

-- What a record for each C line is.
pub record Lines (t : Tables) (addresses : List ℕ) : Type 0 where
  pub classes : List ObjcClass
  pub of_plain : line_classes t ≡ value classes
  pub records : List Ancestry
  pub told : ancestries t addresses ≡ value records
  pub each : Each t classes records

-- The words in use of the ledger of a finished class walk give one record for each C line, in their order.
module _ (t : Tables) (o : Opened t) (ledger : List ℕ) (n : ℕ) (end : (left_after (step_of classes t) n at_start ledger).answer ≡ value finished) where
  abbrev met : List ℕ
  met = met_in (left_after (step_of classes t) n at_start ledger).walk (left_after (step_of classes t) n at_start ledger).ledger

  pub ancestries_of_C_lines : Lines t met
  unfolding line_classes plain_classes classes_at
  ancestries_of_C_lines =
      let all = there_known (classes_there t o) in
      let f : gather (classes_at t o) met ≡ value all.known = sym (ap (λ (x : Outcome (List ℕ)). and_then x (gather (classes_at t o))) (classes_met t n ledger end)) ∙ all.is in
      let r = told_each t o met all.known f in
      record { classes = flat_map no_meta all.known; of_plain = ap (λ (o : Outcome (List ObjcClass)). and_then o (λ cs. value (flat_map no_meta cs))) all.is; records = r.0; told = r.1; each = r.2 }

each_length : (t : Tables) {cs : List ObjcClass} {xs : List Ancestry} → Each t cs xs → length xs ≡ length cs
each_length t none = refl
each_length t (more e r) = ap suc (each_length t r)

-- What `ancestries` leaves for them: all records, or 21 and the buffer as it was.
module _ (t : Tables) (o : Opened t) (ledger : List ℕ) (n : ℕ) (end : (left_after (step_of classes t) n at_start ledger).answer ≡ value finished) (out : List ℕ) where
  abbrev lines : Lines t (met t o ledger n end)
  lines = ancestries_of_C_lines t o ledger n end

  abbrev count : ℕ
  count = length lines.classes

  counted : value count ≡ tally (ancestry_of t) 0 (met t o ledger n end)
  unfolding tally
  counted =
      let size : 0 + length lines.records ≡ count = omega (arith, each_length t lines.each) in
      rw (lines.told, size)

  pub C-lines-written : count ≤ length out / 3
      → ancestries_left t (met t o ledger n end) out ≡ written (value count) (flat_map words_of lines.records ++ drop (count * 3) out)
  C-lines-written h =
      let size : length lines.records ≡ count = each_length t lines.each in
      sym (left_written t (met t o ledger n end) out (opened_asked t o) count counted h _ (rw (lines.told, size)))

  pub C-lines-short : length out / 3 < count → ancestries_left t (met t o ledger n end) out ≡ written (refused AncestryRoom) out
  C-lines-short h = sym (left_short t (met t o ledger n end) out (opened_asked t o) count counted h)
