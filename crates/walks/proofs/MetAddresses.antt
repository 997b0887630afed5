-- The words of its ledger that a section walk has in use when it has finished are the addresses that its sections list, each once,
-- decodable or not: over any tables, whatever the ledger held.
use Prim.Native.Nat.{ℕ, zero, suc, ◌+◌, ◌<◌, max}
use mathlib.Core.Path.{◌≡◌, refl, sym, ◌∙◌}
use mathlib.Core.Bool.{true, false}
use mathlib.Core.List.{List, [], ◌∷◌, ◌++◌, append_assoc, append-nil}
use native.Mathlib.Omega.{arith}
use native.Mathlib.Numerals.{add-one}
use lib.Dec.{eqb}
use lib.ListN.{length, get_or, drop, set, drop_of_length-le}
use lib.Seq.{take-suc-set}
use borrow.Author.Tests.{eqb-true, eqb-false}
use Rattle.reads.specs.Outcome.{Outcome, value, absent, refused, and_then, choose}
use Rattle.reads.proofs.Tests.{by_choose}
use Rattle.pointers.specs.Tables.{Tables}
use Rattle.walks.specs.Gather.{joined, gather, present}
use Rattle.walks.specs.Handed.{unless_refused}
use Rattle.walks.specs.Slots.{address_in, among, asked_ledger, TakenSlot, taken_by, slot_taken, first_met}
use Rattle.walks.specs.Sections.{Walk, walk, at_start, met_in, Highest, Step, dropped, finished, Left, leaves, stays, Kind, slots_in, classes, categories, by_record, by_slot, take_waiting, take_new, take_slot, step_by, ledger_step_of, step_of}
use Rattle.walks.specs.PlainSections.{addresses_in, once, listed, left_after, Met}
use Rattle.walks.specs.declared.slots.Lists.TheVariants.{Classes, Categories}
use Rattle.walks.proofs.SlotLaws.{ledger_room, Answered, answered_value, answered_number, ledger_answered}
use Rattle.walks.proofs.SectionLaws.{step_by_ledger, highest_at_start}
use Rattle.walks.proofs.Moves.{highest_kept}
use Rattle.walks.proofs.PlainWalks.{unseen, unseen_none, once_none, once_met, once_new, slots_from_lem}
use Rattle.reads.specs.declared.answer.Question.{Question}

-- The words in use at the end, if these are in use and the slots that are left hold such addresses.
at_end : List ℕ → Outcome (List ℕ) → Outcome (List ℕ)
at_end seen left = and_then left (λ bs. value (seen ++ unseen seen (once bs)))

module _ (seen : List ℕ) where
  end_none : at_end seen (value []) ≡ value seen
  unfolding at_end
  end_none = rw (once_none seen, append-nil seen)

  end_met : (a : ℕ) → among a seen ≡ true → (left : Outcome (List ℕ)) → at_end seen left ≡ at_end seen (joined (value (a ∷ [])) left)
  unfolding at_end
  end_met a m (value bs) = rw (once_met seen a bs m)
  end_met a m (absent r) = refl
  end_met a m (refused k) = refl

  end_new : (a : ℕ) → among a seen ≡ false → (left : Outcome (List ℕ)) → at_end (seen ++ (a ∷ [])) left ≡ at_end seen (joined (value (a ∷ [])) left)
  unfolding at_end
  end_new a m (value bs) = rw (once_new seen a bs m, append_assoc seen (a ∷ []) (unseen (seen ++ (a ∷ [])) (once bs)))
  end_new a m (absent r) = refl
  end_new a m (refused k) = refl

  end_dropped : (left : Outcome (List ℕ)) → at_end seen left ≡ at_end seen (joined (value []) left)
  unfolding at_end
  end_dropped (value bs) = refl
  end_dropped (absent r) = refl
  end_dropped (refused k) = refl

module _ {A : Type 0} (k : Kind A) (t : Tables) where
  abbrev slots : List ℕ
  slots = slots_in k t

  -- The same of a walk with its ledger.
  abbrev ahead : Walk → List ℕ → Outcome (List ℕ)
  ahead w l = at_end (met_in w l) (addresses_in t (drop w.slot slots))

  -- A step leaves it as it is, and it is the words in use once the walk has finished.
  record Keeps (w : Walk) (l : List ℕ) (x : Left A) : Type 0 where
    pub same : ahead x.walk x.ledger ≡ ahead w l
    pub done : x.answer ≡ value finished → ahead x.walk x.ledger ≡ value (met_in x.walk x.ledger)

  module _ (w : Walk) (l : List ℕ) where
    unfinished : {o : Outcome (Step A)} {v : Walk} {m : List ℕ} → (o ≡ value finished → ⊥) → ahead v m ≡ ahead w l → Keeps w l (leaves o v m)
    unfinished n e = record { same = e; done = λ h. absurd (n h) }

    refusing : (n : Question) → Keeps w l (stays w l n)
    refusing n = unfinished (λ h. let z : ◌≡◌ {A = ℕ} 0 1 = cc in omega arith) refl

    record_keeps : (after : A → ℕ) (on : ℕ → Walk) (new : List ℕ) → ((n : ℕ) → ahead (on n) new ≡ ahead w l) → (o : Outcome A) → Keeps w l (by_record w l after on new o)
    record_keeps after on new e (value c) = unfinished (λ h. let z : ◌≡◌ {A = ℕ} 0 1 = cc in omega arith) (e (after c))
    record_keeps after on new e (absent r) = unfinished (λ h. let z : ◌≡◌ {A = ℕ} 0 1 = cc in omega arith) (e 0)
    record_keeps after on new e (refused n) = refusing n

    waiting_keeps : Keeps w l (take_waiting k t w l)
    unfolding take_waiting
    waiting_keeps = record_keeps (λ c. 0) (walk w.slot w.used w.highest) l (λ n. refl) (k.waited t w.waiting)

    end_keeps : w.slot ≡ length slots → Keeps w l (leaves (value finished) w l)
    unfolding addresses_in gather
    end_keeps e = record { same = refl; done = λ h. rw (drop_of_length-le slots {i = w.slot} (omega arith)) (end_none (met_in w l)) }

    -- The next slot, by the address in it.
    module _ (u : w.slot < length slots) where
      abbrev later : Outcome (List ℕ)
      later = addresses_in t (drop (w.slot + 1) slots)

      slot_more : {o : Outcome ℕ} → address_in t (get_or slots w.slot 0) ≡ o → addresses_in t (drop w.slot slots) ≡ joined (present o) later
      unfolding addresses_in gather
      slot_more e = rw (slots_from_lem slots w.slot u, e)

      dropped_keeps : at_end (met_in w l) later ≡ ahead w l → Keeps w l (leaves (value dropped) (walk (w.slot + 1) w.used w.highest 0) l)
      dropped_keeps e = unfinished (λ h. let z : ◌≡◌ {A = ℕ} 0 1 = cc in omega arith) e

      new_keeps : (a : ℕ) → w.used < length l → address_in t (get_or slots w.slot 0) ≡ value a → among a (met_in w l) ≡ false → Keeps w l (take_new k t w l a)
      unfolding take_new
      new_keeps a r e m =
          record_keeps k.after (walk (w.slot + 1) (w.used + 1) (max w.highest a)) (set l w.used a)
          (λ n. rw (add-one, take-suc-set l w.used a r) (rw (← add-one, slot_more e) (end_new (met_in w l) a m later)))
          (k.decoded t a)

      slot_keeps : (o : Outcome ℕ) → w.used < length l → address_in t (get_or slots w.slot 0) ≡ o
          → Keeps w l (by_slot w l (take_new k t w l) (first_met (λ a. among a (met_in w l)) (taken_by o)))
      slot_keeps (value a) r e =
          by_choose (λ (x : TakenSlot). Keeps w l (by_slot w l (take_new k t w l) x))
          (λ m. dropped_keeps (rw (slot_more e) (end_met (met_in w l) a m later)))
          (λ m. new_keeps a r e m)
      slot_keeps (absent why) r e = dropped_keeps (rw (slot_more e) (end_dropped (met_in w l) later))
      slot_keeps (refused n) r e = refusing n

    asked_keeps : {o : Outcome (Unit {0})} → asked_ledger t slots w.slot w.used (length l) ≡ o → Answered o
        → Keeps w l (unless_refused o (stays w l) (choose (eqb w.waiting 0) (take_slot (λ a. among a (met_in w l)) k t w l) (take_waiting k t w l)))
    unfolding take_slot slot_taken
    asked_keeps e (answered_number n) = refusing n
    asked_keeps e (answered_value y) =
        let room = ledger_room slots t w.slot w.used (length l) e in
        by_choose (Keeps w l)
        (λ z. by_choose (λ (x : TakenSlot). Keeps w l (by_slot w l (take_new k t w l) (first_met (λ a. among a (met_in w l)) x)))
        (λ h. end_keeps (eqb-true w.slot (length slots) h))
        (λ h. slot_keeps (omega (arith, eqb-false w.slot (length slots) h, room.0)) (address_in t (get_or slots w.slot 0))
        (omega (arith, eqb-false w.slot (length slots) h, room.0, room.1, room.2)) refl))
        (λ z. waiting_keeps)

    step_keeps : Highest w l → Keeps w l (step_of k t w l)
    unfolding ledger_step_of step_by
    step_keeps h = rw (step_by_ledger k t w l h) (asked_keeps refl (ledger_answered t slots w.slot w.used (length l)))

  -- From any state that steps can leave.
  met_from : (n : ℕ) (w : Walk) (l : List ℕ) → Highest w l → Met (left_after (step_of k t) n w l) (ahead w l)
  unfolding left_after
  met_from zero w l h e = sym (step_keeps w l h).same ∙ (step_keeps w l h).done e
  met_from (suc n) w l h e =
      sym (step_keeps w l h).same ∙ met_from n (step_of k t w l).walk (step_of k t w l).ledger (highest_kept k t w l h) e

  listed_ahead : (l : List ℕ) → listed t k.lists ≡ ahead at_start l
  unfolding listed at_end
  listed_ahead l = go (addresses_in t slots)
    where
      go : (o : Outcome (List ℕ)) → and_then o (λ bs. value (once bs)) ≡ and_then o (λ bs. value (unseen [] (once bs)))
      go (value bs) = rw (unseen_none (once bs))
      go (absent r) = refl
      go (refused n) = refl

  finished_met : (n : ℕ) (l : List ℕ) → Met (left_after (step_of k t) n at_start l) (listed t k.lists)
  finished_met n l e = listed_ahead l ∙ met_from n at_start l (highest_at_start l) e

module _ (t : Tables) (n : ℕ) (ledger : List ℕ) where
  pub classes_met : Met (left_after (step_of classes t) n at_start ledger) (listed t Classes)
  classes_met = finished_met classes t n ledger

  pub categories_met : Met (left_after (step_of categories t) n at_start ledger) (listed t Categories)
  categories_met = finished_met categories t n ledger
