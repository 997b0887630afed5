-- Laws of the steps of the section walks, by the answers that the code goes by; and what every step leaves.
use Prim.Native.Nat.{ℕ, ◌+◌, max}
use mathlib.Core.Path.{◌≡◌, refl, ap, ◌∙◌}
use mathlib.Core.Bool.{Bool}
use mathlib.Core.List.{List}
use lib.ListN.{length, set}
use native.Mathlib.Omega.{arith}
use borrow.Author.Tests.{eq-eqb, ne_eqb}
use Rattle.reads.specs.Outcome.{Outcome, value, absent, refused}
use Rattle.reads.proofs.Tests.{choose_true, choose_false}
use Rattle.pointers.specs.Tables.{Tables}
use Rattle.records.specs.Category.{category_at}
use Rattle.walks.specs.Handed.{unless_refused}
use Rattle.walks.specs.Slots.{slots_of, among, asked_slot, asked_ledger, TakenSlot, address, slot_dropped, no_slot, slot_refused, slot_taken, met_below, greatest, first_met, next_slot, next_new}
use Rattle.walks.specs.Sections.{Walk, walk, at_start, met_in, Highest, Step, found, passed, Left, leaves, stays, decoded_step, waits_after, Kind, slots_in, categories, by_record, by_slot, take_waiting, next_waiting, take_new, take_slot, step_by, ledger_step_of, step_of, take_protocol, protocol_step_of}
use Rattle.records.specs.declared.protocol.ObjcProtocol.{ObjcProtocol}
use Rattle.walks.specs.declared.slots.Lists.{Lists}
use Rattle.walks.specs.declared.slots.Lists.TheVariants.{Categories, Protocols}
use Rattle.walks.proofs.SlotLaws.{met_by_greatest}
use Rattle.reads.specs.declared.answer.Question.{Question}

-- A question that refuses the slot refuses the step.
slot_refuses : {A : Type 0} (w : Walk) (l : List ℕ) (f : ℕ → Left A) (o : Outcome (Unit {0})) (x : TakenSlot)
    → by_slot w l f (unless_refused o slot_refused x) ≡ unless_refused o (stays w l) (by_slot w l f x)
slot_refuses w l f (value u) x = refl
slot_refuses w l f (absent r) x = refl
slot_refuses w l f (refused k) x = refl

module _ {A : Type 0} (k : Kind A) (t : Tables) (w : Walk) (l : List ℕ) where
  pub waiting_on : {x : Left A} → asked_ledger t (slots_in k t) w.slot w.used (length l) ≡ value tt → x ≡ take_waiting k t w l → x ≡ next_waiting k t w l
  unfolding next_waiting
  waiting_on e h = rw e h

  pub waiting_no : {x : Left A} {n : Question} → asked_ledger t (slots_in k t) w.slot w.used (length l) ≡ refused n → x ≡ stays w l n → x ≡ next_waiting k t w l
  unfolding next_waiting
  waiting_no e h = rw e h

  pub step_waiting : {x : Left A} → (w.waiting ≡ 0 → ⊥) → x ≡ next_waiting k t w l → x ≡ step_of k t w l
  unfolding step_of step_by next_waiting
  step_waiting h e = rw (choose_false (take_slot (met_below w.highest (met_in w l)) k t w l) (take_waiting k t w l) (ne_eqb w.waiting 0 h)) e

  pub step_slot : (lists : Lists) {r : TakenSlot} {x : Left A} → lists ≡ k.lists → w.waiting ≡ 0
      → r ≡ next_new t (slots_of lists t.sections) w.slot w.used w.highest l → x ≡ by_slot w l (take_new k t w l) r → x ≡ step_of k t w l
  unfolding step_of step_by take_slot next_new
  step_slot lists i h n e =
      rw (choose_true (take_slot (met_below w.highest (met_in w l)) k t w l) (take_waiting k t w l) (eq-eqb w.waiting 0 h))
      (e ∙ ap (by_slot w l (take_new k t w l)) (rw i at n)
      ∙ slot_refuses w l (take_new k t w l) (asked_ledger t (slots_in k t) w.slot w.used (length l)) (first_met (met_below w.highest (met_in w l)) (slot_taken t (slots_in k t) w.slot)))

-- A record is taken by the step that its decoding is.
module _ {A : Type 0} (w : Walk) (l : List ℕ) (after : A → ℕ) (on : ℕ → Walk) (new : List ℕ) (x : Step A) where
  pub record_on : (o : Outcome A) → value x ≡ decoded_step o → leaves (value x) (on (waits_after after x)) new ≡ by_record w l after on new o
  record_on (value a) e = let same : x ≡ found a = cc in rw same
  record_on (absent r) e = let same : x ≡ passed r = cc in rw same
  record_on (refused k) e = let z : ◌≡◌ {A = ℕ} 0 1 = cc in absurd (omega arith)

-- The same where nothing waits after it, and with a question, by which it stays.
module _ {A : Type 0} (w : Walk) (l : List ℕ) (on : ℕ → Walk) where
  pub record_moved : (x : Step A) (o : Outcome A) {there : Walk} → value x ≡ decoded_step o → on 0 ≡ there → leaves (value x) there l ≡ by_record w l (λ a. 0) on l o
  record_moved x (value a) e h = let same : x ≡ found a = cc in rw (same, h) refl
  record_moved x (absent r) e h = let same : x ≡ passed r = cc in rw (same, h) refl
  record_moved x (refused k) e h = let z : ◌≡◌ {A = ℕ} 0 1 = cc in absurd (omega arith)

  pub record_stays : (n : Question) (o : Outcome A) → refused n ≡ decoded_step o → stays w l n ≡ by_record w l (λ a. 0) on l o
  record_stays n (value a) e = let z : ◌≡◌ {A = ℕ} 0 1 = cc in absurd (omega arith)
  record_stays n (absent r) e = let z : ◌≡◌ {A = ℕ} 0 1 = cc in absurd (omega arith)
  record_stays n (refused k) e = let same : n ≡ k = cc in rw same

-- Where no address waits, none waits after a step over categories.
module _ (w : Walk) (l : List ℕ) (h : w.waiting ≡ 0) where
  record_waits_none : {A : Type 0} (on : ℕ → Walk) (new : List ℕ) → (on 0).waiting ≡ 0 → (o : Outcome A) → (by_record w l (λ c. 0) on new o).walk.waiting ≡ 0
  record_waits_none on new e (value a) = e
  record_waits_none on new e (absent r) = e
  record_waits_none on new e (refused k) = h

  slot_waits_none : {A : Type 0} (f : ℕ → Left A) → ((a : ℕ) → (f a).walk.waiting ≡ 0) → (x : TakenSlot) → (by_slot w l f x).walk.waiting ≡ 0
  slot_waits_none f e (address a) = e a
  slot_waits_none f e slot_dropped = refl
  slot_waits_none f e no_slot = h
  slot_waits_none f e (slot_refused k) = h

  pub category_waits_none : (t : Tables) → (step_of categories t w l).walk.waiting ≡ 0
  unfolding take_new
  category_waits_none t =
      rw (← step_slot categories t w l Categories refl h refl refl)
      (slot_waits_none (take_new categories t w l) (λ a. record_waits_none (walk (w.slot + 1) (w.used + 1) (max w.highest a)) (set l w.used a) refl (category_at t a)) (next_new t (slots_in categories t) w.slot w.used w.highest l))

-- The highest address met stands in for a look at the ledger: where it is the greatest word in use, the step is that by the ledger alone.
first_met_same : {f g : ℕ → Bool} → ((a : ℕ) → f a ≡ g a) → (x : TakenSlot) → first_met f x ≡ first_met g x
first_met_same e (address a) = rw (e a)
first_met_same e slot_dropped = refl
first_met_same e no_slot = refl
first_met_same e (slot_refused k) = refl

module _ {A : Type 0} (k : Kind A) (t : Tables) (w : Walk) (l : List ℕ) (h : Highest w l) where
  pub step_by_ledger : step_of k t w l ≡ ledger_step_of k t w l
  unfolding step_of ledger_step_of step_by take_slot
  step_by_ledger =
      rw (first_met_same {f = met_below w.highest (met_in w l)} {g = λ a. among a (met_in w l)}
      (λ a. ap (λ (n : ℕ). met_below n (met_in w l) a) h ∙ met_by_greatest (met_in w l) a) (slot_taken t (slots_in k t) w.slot))
      refl

pub highest_at_start : (l : List ℕ) → Highest at_start l
unfolding greatest
highest_at_start l = refl

pub protocol_step_lem : (t : Tables) (slot : ℕ) (l : List ℕ) {x : Left ObjcProtocol}
    → x ≡ by_slot (walk slot 0 0 0) l (take_protocol t (walk slot 0 0 0) l) (next_slot t (slots_of Protocols t.sections) slot)
    → x ≡ protocol_step_of t (walk slot 0 0 0) l
unfolding protocol_step_of next_slot
protocol_step_lem t slot l e =
    e ∙ slot_refuses (walk slot 0 0 0) l (take_protocol t (walk slot 0 0 0) l) (asked_slot t (slots_of Protocols t.sections) slot 0) (slot_taken t (slots_of Protocols t.sections) slot)
