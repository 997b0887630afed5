-- What lies ahead of a position: on entering a source, and before and after a step.
use Prim.Native.Nat.{ℕ, suc, ◌+◌, ◌-◌, ◌^◌, ◌<◌, ◌≤◌}
use mathlib.Core.Path.{◌≡◌, refl, ap, sym, subst, ◌∙◌}
use native.Mathlib.Numerals.{add-one}
use native.Mathlib.Omega.{arith}
use Rattle.reads.specs.Outcome.{Outcome, value, absent}
use Rattle.reads.specs.declared.answer.Missing.{Missing}
use Rattle.reads.specs.declared.answer.Missing.TheVariants.{Absent}
use Rattle.reads.specs.declared.answer.Reason.{Reason}
use Rattle.pointers.specs.Tables.{Tables, image_in}
use Rattle.records.specs.List.{list_at}
use Rattle.records.specs.Search.{all_from, first_readable}
use Rattle.records.specs.declared.list.Layout.{Layout}
use Rattle.records.specs.declared.list.ListKind.TheVariants.{Methods}
use Rattle.records.proofs.Readables.{rest_of_some, rest_of_none, rest_from_0, found}
use Rattle.dispatch.specs.declared.sources.Side.{Side}
use Rattle.dispatch.specs.declared.sources.Source.{Source}
use Rattle.dispatch.specs.declared.rows.Appearance.{Appearance}
use Rattle.dispatch.specs.declared.rows.Position.{Position}
use Rattle.dispatch.specs.declared.rows.Step.{Step}
use Rattle.dispatch.specs.SlotSources.{slot_source, slot_rows, slot_total}
use Rattle.dispatch.specs.Appearances.{Rows, also, adding, appearance, entry_rows, list_rows, source_rows, part_rows}
use Rattle.reads.specs.Outcome.{optional}
use Rattle.reads.proofs.Outcomes.{some_value, none_absent, there_is, none_is, refused_is}
use Rattle.dispatch.specs.Position.{moved_to, nowhere, in_list, ahead, weight, perhaps, EnteredAt, EnteredPart, SteppedFrom}
use Rattle.std.specs.Prelude.{Option, None, Some, Result, Ok, Err}
use Rattle.reads.specs.Answer.{outcome, answered}
use Rattle.reads.specs.declared.answer.Question.{Question}

-- A row that was found, in front.
adding_found : (o : Outcome Appearance) (row : Option Appearance) → optional o ≡ value row → (rest : Rows) → adding o rest ≡ perhaps row rest
adding_found o (Some a) e rest = ap (λ q. adding q rest) (some_value o e)
adding_found o None e rest = ap (λ q. adding q rest) (none_absent o e).1

-- Entering source n.
module _ (t : Tables) (n : ℕ) where
  nothing_in : (rest : Rows) → in_list t (nowhere n) rest ≡ rest
  unfolding in_list entry_rows all_from
  nothing_in rest = refl

  empty : (o : Outcome Source) → ((rest : Rows) → source_rows t n o rest ≡ rest) → {p : Position} → p ≡ nowhere n → EnteredAt t n o (Ok p)
  empty o f e = record { came = (ap (λ (q : Position). q.source) e, λ rest. f rest ∙ sym (ap (λ (q : Position). in_list t q rest) e ∙ nothing_in rest)) }

  module _ (s : Source) {a : Result (Option Layout) Question} (e : answered a ≡ optional (list_at t Methods s.list)) where
    pub enter_there : {h : Layout} → a ≡ Ok (Some h) → EnteredAt t n (value s) (Ok (record { source = n; origin = s.origin; list = h; entry = 0 }))
    unfolding source_rows list_rows in_list
    enter_there {h} g = record { came = (refl, λ rest. rw (there_is e g refl, rest_from_0 (image_in t) h)) }

    pub enter_no_list : {p : Position} → a ≡ Ok None → p ≡ nowhere n → EnteredAt t n (value s) (Ok p)
    unfolding source_rows list_rows
    enter_no_list g h = let q = none_is e g refl in empty (value s) (λ rest. rw q.1) h

    pub enter_list_refused : {k : Question} → a ≡ Err k → EnteredAt t n (value s) (Err k)
    unfolding source_rows list_rows
    enter_list_refused g = record { came = λ rest. rw (refused_is e g) }

  module _ (o : Outcome Source) {a : Result (Option Source) Question} (e : answered a ≡ optional o) where
    pub enter_absent : {p : Position} → a ≡ Ok None → p ≡ nowhere n → EnteredAt t n o (Ok p)
    unfolding source_rows
    enter_absent g h = let q = none_is e g refl in rw q.1 (empty (absent q.0) (λ rest. refl) h)

    pub enter_refused : {k : Question} → a ≡ Err k → EnteredAt t n o (Err k)
    unfolding source_rows
    enter_refused g = rw (refused_is e g) (record { came = λ rest. refl })

-- What was entered, and what a step gave, by the case that the code found.
pub was_entered : {t : Tables} {n : ℕ} {o : Outcome Source} {r q : (Result Position Question)} → EnteredAt t n o r → r ≡ q → EnteredAt t n o q
was_entered {t} {n} {o} h e = subst (λ (x : Result Position Question). EnteredAt t n o x) e h

part_entered : {t : Tables} {n : ℕ} {o : Outcome (Option Source)} {r q : (Result Position Question)} → EnteredPart t n o r → r ≡ q → EnteredPart t n o q
part_entered {t} {n} {o} h e = subst (λ (x : Result Position Question). EnteredPart t n o x) e h

-- Entering a source that may take no part, by what is there of it.
module _ (t : Tables) (n : ℕ) (a : Result (Option Source) Missing) where
  pub part_none : a ≡ Ok None → {p : Position} → p ≡ nowhere n → EnteredPart t n (outcome a) (Ok p)
  part_none e g = rw (e, g) (record { came = (refl, λ rest. sym (nothing_in t n rest)) })

  pub part_absent : {why : Reason} → a ≡ Err (Absent why) → {p : Position} → p ≡ nowhere n → EnteredPart t n (outcome a) (Ok p)
  part_absent e g = rw (e, g) (record { came = (refl, λ rest. sym (nothing_in t n rest)) })

module _ (t : Tables) (s : Side) (class : ℕ) (p : Position) where
  -- The next readable entry is j.
  module _ (j : ℕ) (e : first_readable (image_in t) p.list p.entry ≡ Some j) where
    next_entry : ahead t s class p ≡ adding (appearance t p.source p.origin p.list j) (ahead t s class (moved_to p (suc j)))
    unfolding ahead in_list entry_rows
    next_entry = rw (rest_of_some (image_in t) p.list p.entry j e)

    lighter : p.entry < 2 ^ 32 → weight t (moved_to p (suc j)) < weight t p
    unfolding weight
    lighter h = omega (arith, (found (image_in t) p.list p.entry j e).from)

    module _ (h : p.entry < 2 ^ 32) {next : Position} (n : next ≡ moved_to p (j + 1)) where
      moved : next ≡ moved_to p (suc j)
      moved = n ∙ ap (moved_to p) (add-one j)

      light : weight t next < weight t p
      light = rw moved (lighter h)

      module _ {a : Result (Option Appearance) Question} (r : answered a ≡ optional (appearance t p.source p.origin p.list j)) where
        pub settle_found : {row : Option Appearance} → a ≡ Ok row → SteppedFrom t s class p (Ok (Some (record { row = row; next = next })))
        settle_found {row} g = record {
          went = (next_entry ∙ adding_found (appearance t p.source p.origin p.list j) row (sym r ∙ ap answered g) _ ∙ ap (λ (q : Position). perhaps row (ahead t s class q)) (sym moved), light);
        }

    pub settle_refused : {a : Result (Option Appearance) Question} → answered a ≡ optional (appearance t p.source p.origin p.list j) → {k : Question} → a ≡ Err k
        → SteppedFrom t s class p (Err k)
    settle_refused r g = record { went = rw (next_entry, refused_is r g) }

  -- No entry is left.
  module _ (e : first_readable (image_in t) p.list p.entry ≡ None) where
    next_list : ahead t s class p ≡ slot_rows t s class p.source (slot_total t - p.source)
    unfolding ahead in_list entry_rows
    next_list = rw (rest_of_none (image_in t) p.list p.entry e)

    pub next_end : slot_total t ≤ p.source → SteppedFrom t s class p (Ok None)
    unfolding slot_rows
    next_end h = let z : slot_total t - p.source ≡ 0 = omega arith in record { went = next_list ∙ rw z }

    module _ (h : p.source < slot_total t) where
      next_slot : ahead t s class p
          ≡ part_rows t (p.source + 1) (slot_source t s class p.source) (slot_rows t s class (p.source + 1) (slot_total t - (p.source + 1)))
      unfolding slot_rows
      next_slot = let z : slot_total t - p.source ≡ suc (slot_total t - (p.source + 1)) = omega arith in next_list ∙ rw (z, add-one p.source)

      module _ (a : Result (Option Source) Missing) (o : outcome a ≡ slot_source t s class p.source) {r : (Result Position Question)}
          (f : EnteredPart t (p.source + 1) (outcome a) r) where
        pub next_entered : p.entry < 2 ^ 32 → {q : Position} → r ≡ Ok q → SteppedFrom t s class p (Ok (Some (record { row = None; next = q })))
        unfolding ahead weight
        next_entered b {q} g =
            let d = (part_entered f g).came in
            record { went = (rw (next_slot, ← o) (d.1 _ ∙ rw d.0), omega (arith, d.0)) }

        pub next_refused : {k : Question} → r ≡ Err k → SteppedFrom t s class p (Err k)
        next_refused {k} g =
            let d = (part_entered f g).came in
            record { went = rw (next_slot, ← o) (d _) }

-- What comes next, by the steps.
module _ {t : Tables} {s : Side} {class : ℕ} {p : Position} where
  stepped : {r q : Result (Option Step) Question} → SteppedFrom t s class p r → r ≡ q → SteppedFrom t s class p q
  stepped {r} {q} h e = subst (λ (x : Result (Option Step) Question). SteppedFrom t s class p x) e h

  module _ {r : Result (Option Step) Question} (h : SteppedFrom t s class p r) where
    pub step_row : {x : Step} → r ≡ Ok (Some x) → {a : Appearance} → x.row ≡ Some a → (ahead t s class p ≡ also a (ahead t s class x.next)) × (weight t x.next < weight t p)
    step_row {x} e {a} g = let w = (stepped h e).went in (w.0 ∙ ap (λ o. perhaps o (ahead t s class x.next)) g, w.1)

    pub step_none : {x : Step} → r ≡ Ok (Some x) → ((a : Appearance) → x.row ≡ Some a → ⊥) → (ahead t s class p ≡ ahead t s class x.next) × (weight t x.next < weight t p)
    step_none {x} e n = let w = (stepped h e).went in (w.0 ∙ go x.row n, w.1)
      where
        go : (o : Option Appearance) → ((a : Appearance) → o ≡ Some a → ⊥) → perhaps o (ahead t s class x.next) ≡ ahead t s class x.next
        go (Some a) n = absurd (n a refl)
        go None n = refl
