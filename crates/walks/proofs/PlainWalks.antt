-- A section walk gives exactly the records of the plain definition, where that gives records and no number, whatever the ledger held.
use Prim.Native.Nat.{ℕ, zero, suc, ◌+◌, ◌*◌, ◌≤◌, ◌<◌, max}
use mathlib.Core.Path.{◌≡◌, refl, sym, ap, ◌∙◌}
use mathlib.Core.Bool.{Bool, true, false, or-true, or-false}
use mathlib.Core.List.{List, [], ◌∷◌, ◌++◌}
use native.Mathlib.Omega.{arith}
use native.Mathlib.Numerals.{add-one}
use lib.Dec.{eqb}
use lib.ListN.{length, get_or, take, drop, set, length-set, drop_of_length-le}
use lib.Seq.{drop-cons, take-suc-set}
use borrow.Author.Tests.{eq-eqb, ne_eqb, eqb-true, eqb-false}
use Rattle.reads.specs.Outcome.{Outcome, value, absent, refused, and_then, nonzero}
use Rattle.reads.proofs.Tests.{choose_true, choose_false}
use Rattle.reads.proofs.Outcomes.{nonzero_zero, nonzero_else, then_came}
use Rattle.reads.specs.declared.answer.Reason.{Reason}
use Rattle.pointers.specs.Tables.{Tables}
use Rattle.pointers.specs.Question.{asked}
use Rattle.records.specs.Protocol.{protocol_at}
use Rattle.walks.specs.Gather.{joined, gather, of_value, present}
use Rattle.walks.specs.Slots.{slots_of, slot_count, protocol_count, address_in, among, asked_ledger, TakenSlot, address, slot_dropped, taken_by, slot_taken, first_met}
use Rattle.walks.specs.Sections.{Walk, walk, found, passed, dropped, finished, leaves, Kind, slots_in, classes, categories, Highest, by_slot, take_waiting, take_new, take_slot, step_by, ledger_step_of, step_of, take_protocol, protocol_step_of}
use Rattle.walks.specs.PlainSections.{addresses_in, unless, without, once, listed, with_meta, plain_classes, plain_categories, plain_protocols, Gives, ended, passing, dropping, giving, Run}
use Rattle.records.specs.declared.category.ObjcCategory.{ObjcCategory}
use Rattle.records.specs.declared.class.ObjcClass.{ObjcClass}
use Rattle.records.specs.declared.protocol.ObjcProtocol.{ObjcProtocol}
use Rattle.walks.specs.declared.slots.Lists.TheVariants.{Classes, Categories, Protocols}
use Rattle.walks.proofs.Gathers.{joined_parts, gather_none, gather_parts, gather_same, Held, held_one, held_none, present_held}
use Rattle.walks.proofs.SlotLaws.{classes_count, categories_count, protocols_count, among_end, slot_fits_lem, ledger_asked, taken_none, taken_by_lem, next_on}
use Rattle.walks.proofs.SectionLaws.{step_by_ledger, highest_at_start, protocol_step_lem}
use Rattle.walks.proofs.Moves.{highest_after}

-- The addresses that are not among those seen.
pub unseen : List ℕ → List ℕ → List ℕ
unseen seen [] = []
unseen seen (b ∷ bs) = unless (among b seen) b (unseen seen bs)

pub unseen_none : (bs : List ℕ) → unseen [] bs ≡ bs
unfolding unseen among
unseen_none [] = refl
unseen_none (b ∷ bs) = ap (λ (l : List ℕ). b ∷ l) (unseen_none bs)

-- One that is among them need not be left out before.
unseen_without : (seen : List ℕ) (a : ℕ) → among a seen ≡ true → (bs : List ℕ) → unseen seen (without a bs) ≡ unseen seen bs
unfolding unseen without
unseen_without seen a e [] = refl
unseen_without seen a e (b ∷ bs) = go (eqb b a) refl (unseen_without seen a e bs)
  where
    go : (x : Bool) → eqb b a ≡ x → unseen seen (without a bs) ≡ unseen seen bs
        → unseen seen (unless x b (without a bs)) ≡ unless (among b seen) b (unseen seen bs)
    go true g h = let same : b ≡ a = eqb-true b a g in rw (same, e) h
    go false g h = unfold unseen in rw h

-- One left out is as good as seen.
unseen_more : (seen : List ℕ) (a : ℕ) (bs : List ℕ) → unseen seen (without a bs) ≡ unseen (seen ++ (a ∷ [])) bs
unfolding unseen without
unseen_more seen a [] = refl
unseen_more seen a (b ∷ bs) = go (eqb b a) refl (unseen_more seen a bs)
  where
    go : (x : Bool) → eqb b a ≡ x → unseen seen (without a bs) ≡ unseen (seen ++ (a ∷ [])) bs
        → unseen seen (unless x b (without a bs)) ≡ unless (among b (seen ++ (a ∷ []))) b (unseen (seen ++ (a ∷ [])) bs)
    go true g h = rw (among_end b seen a, eq-eqb a b (sym (eqb-true b a g)), or-true (among b seen)) h
    go false g h = unfold unseen in rw (among_end b seen a, ne_eqb a b (λ (u : a ≡ b). eqb-false b a g (sym u)), or-false (among b seen), h)

pub once_none : (seen : List ℕ) → unseen seen (once []) ≡ []
unfolding unseen once
once_none seen = refl

pub once_met : (seen : List ℕ) (a : ℕ) (rest : List ℕ) → among a seen ≡ true → unseen seen (once (a ∷ rest)) ≡ unseen seen (once rest)
unfolding unseen once
once_met seen a rest e = rw e (unseen_without seen a e (once rest))

pub once_new : (seen : List ℕ) (a : ℕ) (rest : List ℕ) → among a seen ≡ false → unseen seen (once (a ∷ rest)) ≡ a ∷ unseen (seen ++ (a ∷ [])) (once rest)
unfolding unseen once
once_new seen a rest e = rw (e, unseen_more seen a (once rest))

-- The slots from one on.
pub slots_from_lem : (slots : List ℕ) (k : ℕ) → k < length slots → drop k slots ≡ get_or slots k 0 ∷ drop (k + 1) slots
slots_from_lem slots k h = rw add-one (drop-cons slots k 0 h)

-- A walk that meets each address once, where no question refuses the tables.
module _ {A : Type 0} (k : Kind A) (t : Tables) (yes : asked t ≡ value tt) where
  -- What slot `at` comes to, with so many words of a ledger in use.
  abbrev taken_new : ℕ → ℕ → List ℕ → TakenSlot
  taken_new at used l = first_met (λ a. among a (take used l)) (taken_by (address_in t (get_or (slots_in k t) at 0)))

  -- What waits after a record, and the records of an address.
  following : A → Outcome (List A)
  following c = present (and_then (nonzero (k.after c)) (k.waited t))

  records_at : ℕ → Outcome (List A)
  records_at a = of_value (k.decoded t a) (λ c. joined (value (c ∷ [])) (following c))

  -- One step, by what it finds.
  module _ (at used highest waiting : ℕ) (l : List ℕ) (g : at ≤ length (slots_in k t)) (h : used ≤ at) (r : length (slots_in k t) ≤ length l) where
    abbrev here : Walk
    here = walk at used highest waiting

    asked_yes : asked_ledger t (slots_in k t) at used (length l) ≡ value tt
    asked_yes = ledger_asked (slots_in k t) t at used yes (length l) g h r

    step_takes_waiting : (waiting ≡ 0 → ⊥) → ledger_step_of k t here l ≡ take_waiting k t here l
    unfolding ledger_step_of step_by
    step_takes_waiting n = rw (asked_yes, choose_false (take_slot (λ a. among a (take used l)) k t here l) (take_waiting k t here l) (ne_eqb waiting 0 n))

    step_takes_slot : waiting ≡ 0 → ledger_step_of k t here l ≡ by_slot here l (take_new k t here l) (first_met (λ a. among a (take used l)) (slot_taken t (slots_in k t) at))
    unfolding ledger_step_of step_by take_slot
    step_takes_slot z = rw (asked_yes, choose_true (take_slot (λ a. among a (take used l)) k t here l) (take_waiting k t here l) (eq-eqb waiting 0 z))

    step_end : waiting ≡ 0 → at ≡ length (slots_in k t) → ledger_step_of k t here l ≡ leaves (value finished) here l
    step_end z e = step_takes_slot z ∙ rw (← taken_none t (slots_in k t) at e)

    module _ (z : waiting ≡ 0) (u : at < length (slots_in k t)) where
      step_taken : ledger_step_of k t here l ≡ by_slot here l (take_new k t here l) (taken_new at used l)
      step_taken = step_takes_slot z ∙ rw (← taken_by_lem t (slots_in k t) at {x = taken_by (address_in t (get_or (slots_in k t) at 0))} (λ e. absurd (omega arith)) refl refl refl)

      step_met : taken_new at used l ≡ slot_dropped → ledger_step_of k t here l ≡ leaves (value dropped) (walk (at + 1) used highest 0) l
      step_met e = step_taken ∙ rw e

      step_undecoded : (a : ℕ) (why : Reason) → taken_new at used l ≡ address a → k.decoded t a ≡ absent why → ledger_step_of k t here l ≡ leaves (value (passed why)) (walk (at + 1) (used + 1) (max highest a) 0) (set l used a)
      unfolding take_new
      step_undecoded a why e d = step_taken ∙ rw (e, d)

      step_found : (a : ℕ) (c : A) → taken_new at used l ≡ address a → k.decoded t a ≡ value c
          → ledger_step_of k t here l ≡ leaves (value (found c)) (walk (at + 1) (used + 1) (max highest a) (k.after c)) (set l used a)
      unfolding take_new
      step_found a c e d = step_taken ∙ rw (e, d)

    step_waited : (waiting ≡ 0 → ⊥) → (c : A) → k.waited t waiting ≡ value c → ledger_step_of k t here l ≡ leaves (value (found c)) (walk at used highest 0) l
    unfolding take_waiting
    step_waited n c e = step_takes_waiting n ∙ rw e

    step_unwaited : (waiting ≡ 0 → ⊥) → (why : Reason) → k.waited t waiting ≡ absent why → ledger_step_of k t here l ≡ leaves (value (passed why)) (walk at used highest 0) l
    unfolding take_waiting
    step_unwaited n why e = step_takes_waiting n ∙ rw e

  -- What an address adds to the list.
  following_none : (c : A) → k.after c ≡ 0 → following c ≡ value []
  unfolding following
  following_none c e = rw (e, nonzero_zero)

  following_one : (c : A) → (k.after c ≡ 0 → ⊥) → following c ≡ present (k.waited t (k.after c))
  unfolding following
  following_one c n = rw (nonzero_else (k.after c) n)

  records_alone : ((c : A) → k.after c ≡ 0) → (a : ℕ) → present (k.decoded t a) ≡ records_at a
  unfolding records_at
  records_alone z a = go (k.decoded t a)
    where
      go : (d : Outcome A) → present d ≡ of_value d (λ c. joined (value (c ∷ [])) (following c))
      go (value c) = rw (following_none c (z c))
      go (absent why) = refl
      go (refused j) = refl

  -- A run of at most so many steps.
  abbrev Runs : ℕ → Walk → List ℕ → List A → Type 0
  Runs most w l rs = (n : ℕ) × (n ≤ most) × Gives (ledger_step_of k t) n w l rs

  pass : {n : ℕ} {w v : Walk} {l m : List ℕ} {why : Reason} {rs : List A} → ledger_step_of k t w l ≡ leaves (value (passed why)) v m → Runs n v m rs → Runs (suc n) w l rs
  pass e r = (suc r.0, omega arith, passing e r.2)

  drops : {n : ℕ} {w v : Walk} {l m : List ℕ} {rs : List A} → ledger_step_of k t w l ≡ leaves (value dropped) v m → Runs n v m rs → Runs (suc n) w l rs
  drops e r = (suc r.0, omega arith, dropping e r.2)

  give : {n : ℕ} {w v : Walk} {l m : List ℕ} {c : A} {rs : List A}
      → ledger_step_of k t w l ≡ leaves (value (found c)) v m → Runs n v m rs → Runs (suc n) w l (c ∷ rs)
  give e r = (suc r.0, omega arith, giving e r.2)

  more : {n m : ℕ} {w : Walk} {l : List ℕ} {rs : List A} → n ≤ m → Runs n w l rs → Runs m w l rs
  more h r = (r.0, omega arith, r.2)

  -- What waits is taken, then the walk goes on.
  module _ (n at used highest : ℕ) (l : List ℕ) (rs : List A) (g : at ≤ length (slots_in k t)) (h : used ≤ at) (r : length (slots_in k t) ≤ length l) (later : Runs n (walk at used highest 0) l rs) where
    waited_run : (waiting : ℕ) → (waiting ≡ 0 → ⊥) → {o : Outcome A} {ms : List A} → k.waited t waiting ≡ o → Held o ms
        → Runs (suc n) (walk at used highest waiting) l (ms ++ rs)
    waited_run waiting z e (held_one c) = give (step_waited at used highest waiting l g h r z c e) later
    waited_run waiting z e (held_none why) = pass (step_unwaited at used highest waiting l g h r z why e) later

    after_run : (c : A) (ms : List A) → following c ≡ value ms → Runs (suc n) (walk at used highest (k.after c)) l (ms ++ rs)
    after_run c ms f = go (eqb (k.after c) 0) refl
      where
        go : (b : Bool) → eqb (k.after c) 0 ≡ b → Runs (suc n) (walk at used highest (k.after c)) l (ms ++ rs)
        go true e =
            let z : k.after c ≡ 0 = eqb-true (k.after c) 0 e in
            let none : ms ≡ [] = cc (following_none c z) in
            rw (none, z) (more (omega arith) later)
        go false e =
            let z : k.after c ≡ 0 → ⊥ = eqb-false (k.after c) 0 e in
            waited_run (k.after c) z refl (present_held (k.waited t (k.after c)) (sym (following_one c z) ∙ f))

  -- One slot is taken, then the walk goes on with slots that hold the addresses bs.
  module _ (n at used highest : ℕ) (l : List ℕ) (u : at < length (slots_in k t)) (h : used ≤ at) (r : length (slots_in k t) ≤ length l) (bs : List ℕ)
      (later : (used' highest' : ℕ) (l' : List ℕ) → used' ≤ at + 1 → length (slots_in k t) ≤ length l'
      → (rs : List A) → gather records_at (unseen (take used' l') (once bs)) ≡ value rs → Runs (2 * n) (walk (at + 1) used' highest' 0) l' rs) where
    abbrev here_slot : ℕ
    here_slot = get_or (slots_in k t) at 0

    abbrev seen : List ℕ
    seen = take used l

    -- The records of addresses that are not seen are given.
    abbrev Slot : List ℕ → Type 0
    Slot cs = (rs : List A) → gather records_at (unseen seen (once cs)) ≡ value rs → Runs (2 * suc n) (walk at used highest 0) l rs

    dropped_slot : taken_new at used l ≡ slot_dropped → Slot bs
    dropped_slot e rs f = more (omega arith) (drops (step_met at used highest 0 l (omega arith) h r refl u e) (later used highest l (omega arith) r rs f))

    -- The ledger has the address at the end of its words in use.
    later_new : (a : ℕ) (rs : List A) → gather records_at (unseen (seen ++ (a ∷ [])) (once bs)) ≡ value rs
        → Runs (2 * n) (walk (at + 1) (used + 1) (max highest a) 0) (set l used a) rs
    later_new a rs f =
        let e : take (used + 1) (set l used a) ≡ seen ++ (a ∷ []) = rw add-one (take-suc-set l used a (omega arith)) in
        later (used + 1) (max highest a) (set l used a) (omega arith) (rw (length-set l used a) r) rs (rw e f)

    decoded_slot : (a : ℕ) → taken_new at used l ≡ address a → (o : Outcome A) → k.decoded t a ≡ o → (first rest : List A)
        → of_value o (λ c. joined (value (c ∷ [])) (following c)) ≡ value first
        → Runs (2 * n) (walk (at + 1) (used + 1) (max highest a) 0) (set l used a) rest → Runs (2 * suc n) (walk at used highest 0) l (first ++ rest)
    decoded_slot a e (value c) d first rest f on =
        let parts = joined_parts (value (c ∷ [])) (following c) f in
        let own : first ≡ c ∷ parts.second = let g = parts.of_first in parts.whole ∙ cc in
        rw own
        (more (omega arith)
        (give (step_found at used highest 0 l (omega arith) h r refl u a c e d)
        (after_run (2 * n) (at + 1) (used + 1) (max highest a) (set l used a) rest (omega arith) (omega arith) (rw (length-set l used a) r) on c parts.second parts.of_second)))
    decoded_slot a e (absent why) d first rest f on =
        let none : first ≡ [] = cc in
        rw none (more (omega arith) (pass (step_undecoded at used highest 0 l (omega arith) h r refl u a why e d) on))
    decoded_slot a e (refused j) d first rest f on = let z : ◌≡◌ {A = ℕ} 0 1 = cc in absurd (omega arith)

    address_slot : (a : ℕ) → address_in t here_slot ≡ value a → (b : Bool) → among a seen ≡ b → Slot (a ∷ bs)
    unfolding records_at
    address_slot a e true m rs f = dropped_slot (rw e (choose_true _ _ m)) rs (rw (once_met seen a bs m) at f)
    address_slot a e false m rs f =
        let parts = gather_parts records_at a (unseen (seen ++ (a ∷ [])) (once bs)) (rw (once_new seen a bs m) at f) in
        rw parts.whole
        (decoded_slot a (rw e (choose_false _ _ m)) (k.decoded t a) refl parts.first parts.second parts.of_first (later_new a parts.second parts.of_second))

    any_slot : {o : Outcome ℕ} {first : List ℕ} → address_in t here_slot ≡ o → Held o first → Slot (first ++ bs)
    any_slot e (held_one a) = address_slot a e (among a seen) refl
    any_slot e (held_none why) = dropped_slot (rw e)

  -- All slots from one on, which hold the addresses bs.
  walk_runs : (n at used highest : ℕ) (l : List ℕ) → at + n ≡ length (slots_in k t) → used ≤ at → length (slots_in k t) ≤ length l
      → (bs : List ℕ) → addresses_in t (drop at (slots_in k t)) ≡ value bs
      → (rs : List A) → gather records_at (unseen (take used l) (once bs)) ≡ value rs → Runs (2 * n) (walk at used highest 0) l rs
  unfolding addresses_in
  walk_runs zero at used highest l e h r bs b rs f =
      let z : at ≡ length (slots_in k t) = omega arith in
      let none : bs ≡ [] = gather_none (λ a. present (address_in t a)) (rw (drop_of_length-le (slots_in k t) {i = at} (omega arith)) at b) in
      let nothing : rs ≡ [] = gather_none records_at (rw (none, once_none (take used l)) at f) in
      rw nothing (0, omega arith, ended (step_end at used highest 0 l (omega arith) h r refl z))
  walk_runs (suc n) at used highest l e h r bs b rs f =
      let parts = gather_parts (λ a. present (address_in t a)) (get_or (slots_in k t) at 0) (drop (at + 1) (slots_in k t)) (rw (slots_from_lem (slots_in k t) at (omega arith)) at b) in
      any_slot n at used highest l (omega arith) h r parts.second
      (λ used' highest' l' h' r'. walk_runs n (at + 1) used' highest' l' (omega arith) h' r' parts.second parts.of_second)
      refl (present_held (address_in t (get_or (slots_in k t) at 0)) parts.of_first) rs (rw parts.whole at f)

  -- A run by the ledger alone is one with the highest address met, where that is the greatest word in use.
  ledger_run : {n : ℕ} {w : Walk} {l : List ℕ} {rs : List A} → Highest w l → Gives (ledger_step_of k t) n w l rs → Gives (step_of k t) n w l rs
  ledger_run h (ended e) = ended (step_by_ledger k t _ _ h ∙ e)
  ledger_run h (passing e g) = let s = step_by_ledger k t _ _ h ∙ e in passing s (ledger_run (highest_after k t _ _ h s) g)
  ledger_run h (dropping e g) = let s = step_by_ledger k t _ _ h ∙ e in dropping s (ledger_run (highest_after k t _ _ h s) g)
  ledger_run h (giving e g) = let s = step_by_ledger k t _ _ h ∙ e in giving s (ledger_run (highest_after k t _ _ h s) g)

  -- The whole walk, from the first slot on.
  once_run : (l : List ℕ) → length (slots_in k t) ≤ length l → (bs : List ℕ) → listed t k.lists ≡ value bs
      → {rs : List A} → gather records_at bs ≡ value rs → Run (step_of k t) (2 * length (slots_in k t)) l rs
  unfolding listed
  once_run l r bs b {rs} f =
      let slots = then_came (addresses_in t (slots_in k t)) _ bs b in
      let same : once slots.0 ≡ bs = let g = slots.2 in cc in
      let run = walk_runs (length (slots_in k t)) 0 0 0 l (omega arith) (omega arith) r slots.0 slots.1 rs (rw (unseen_none (once slots.0), same) f) in
      (run.0, run.1, ledger_run (highest_at_start l) run.2)

-- The protocol walk: a step for each slot.
module _ (t : Tables) (yes : asked t ≡ value tt) where
  abbrev slots_there : List ℕ
  slots_there = slots_of Protocols t.sections

  module _ (at : ℕ) (l : List ℕ) (g : at ≤ length slots_there) where
    abbrev there : Walk
    there = walk at 0 0 0

    protocol_slot : protocol_step_of t there l ≡ by_slot there l (take_protocol t there l) (slot_taken t slots_there at)
    protocol_slot =
        sym (protocol_step_lem t at l (ap (by_slot there l (take_protocol t there l)) (next_on t slots_there at yes (slot_fits_lem slots_there at 0 g (omega arith)) refl)))

    protocol_end : at ≡ length slots_there → protocol_step_of t there l ≡ leaves (value finished) there l
    protocol_end e = protocol_slot ∙ rw (← taken_none t slots_there at e)

    module _ (u : at < length slots_there) where
      protocol_taken_lem : protocol_step_of t there l ≡ by_slot there l (take_protocol t there l) (taken_by (address_in t (get_or slots_there at 0)))
      protocol_taken_lem = protocol_slot ∙ rw (← taken_by_lem t slots_there at {x = taken_by (address_in t (get_or slots_there at 0))} (λ e. absurd (omega arith)) refl refl refl)

      protocol_dropped : (why : Reason) → address_in t (get_or slots_there at 0) ≡ absent why → protocol_step_of t there l ≡ leaves (value dropped) (walk (at + 1) 0 0 0) l
      protocol_dropped why e = protocol_taken_lem ∙ rw e

      protocol_found : (a : ℕ) (p : ObjcProtocol) → address_in t (get_or slots_there at 0) ≡ value a → protocol_at t a ≡ value p
          → protocol_step_of t there l ≡ leaves (value (found p)) (walk (at + 1) 0 0 0) l
      unfolding take_protocol
      protocol_found a p e d = protocol_taken_lem ∙ rw (e, d)

      protocol_passed : (a : ℕ) (why : Reason) → address_in t (get_or slots_there at 0) ≡ value a → protocol_at t a ≡ absent why
          → protocol_step_of t there l ≡ leaves (value (passed why)) (walk (at + 1) 0 0 0) l
      unfolding take_protocol
      protocol_passed a why e d = protocol_taken_lem ∙ rw (e, d)

  -- The protocol that slot a gives.
  protocol_in : ℕ → Outcome (List ObjcProtocol)
  protocol_in a = of_value (address_in t a) (λ p. present (protocol_at t p))

  -- One slot is taken, then the walk goes on and gives the records rs.
  module _ (n at : ℕ) (l : List ℕ) (u : at < length slots_there) (rs : List ObjcProtocol) (later : Gives (protocol_step_of t) n (walk (at + 1) 0 0 0) l rs) where
    abbrev Next : List ObjcProtocol → Type 0
    Next ps = Gives (protocol_step_of t) (suc n) (walk at 0 0 0) l (ps ++ rs)

    by_protocol : (a : ℕ) → address_in t (get_or slots_there at 0) ≡ value a → {o : Outcome ObjcProtocol} {ps : List ObjcProtocol} → protocol_at t a ≡ o → Held o ps → Next ps
    by_protocol a e d (held_one p) = giving (protocol_found at l (omega arith) u a p e d) later
    by_protocol a e d (held_none why) = passing (protocol_passed at l (omega arith) u a why e d) later

    next_protocol : (o : Outcome ℕ) → address_in t (get_or slots_there at 0) ≡ o → (ps : List ObjcProtocol) → of_value o (λ p. present (protocol_at t p)) ≡ value ps → Next ps
    next_protocol (value a) e ps f = by_protocol a e refl (present_held (protocol_at t a) f)
    next_protocol (absent why) e ps f = let none : ps ≡ [] = cc in rw none (dropping (protocol_dropped at l (omega arith) u why e) later)
    next_protocol (refused k) e ps f = let z : ◌≡◌ {A = ℕ} 0 1 = cc in absurd (omega arith)

  -- All slots from one on.
  protocol_runs : (n at : ℕ) (l : List ℕ) → at + n ≡ length slots_there → (rs : List ObjcProtocol) → gather protocol_in (drop at slots_there) ≡ value rs
      → Gives (protocol_step_of t) n (walk at 0 0 0) l rs
  unfolding protocol_in
  protocol_runs zero at l e rs f =
      let none : rs ≡ [] = gather_none protocol_in (rw (drop_of_length-le slots_there {i = at} (omega arith)) at f) in
      rw none (ended (protocol_end at l (omega arith) (omega arith)))
  protocol_runs (suc n) at l e rs f =
      let parts = gather_parts protocol_in (get_or slots_there at 0) (drop (at + 1) slots_there) (rw (slots_from_lem slots_there at (omega arith)) at f) in
      rw parts.whole
      (next_protocol n at l (omega arith) parts.second (protocol_runs n (at + 1) l (omega arith) parts.second parts.of_second)
      (address_in t (get_or slots_there at 0)) refl parts.first parts.of_first)

-- Where no question refuses the tables and the plain definition gives records, no number, the walk is a run that gives exactly these.
module _ (t : Tables) (yes : asked t ≡ value tt) (l : List ℕ) where
  pub class_run : slot_count t.sections 0 1 ≤ length l → (cs : List ObjcClass) → plain_classes t ≡ value cs
      → Run (step_of classes t) (2 * slot_count t.sections 0 1) l cs
  unfolding plain_classes with_meta records_at following
  class_run r cs e =
      let addresses = then_came (listed t Classes) _ cs e in
      rw (← classes_count t.sections)
      (once_run classes t yes l (rw (classes_count t.sections) r) addresses.0 addresses.1 addresses.2)

  pub category_run : slot_count t.sections 2 3 ≤ length l → (cs : List ObjcCategory) → plain_categories t ≡ value cs
      → Run (step_of categories t) (2 * slot_count t.sections 2 3) l cs
  unfolding plain_categories
  category_run r cs e =
      let addresses = then_came (listed t Categories) _ cs e in
      rw (← categories_count t.sections)
      (once_run categories t yes l (rw (categories_count t.sections) r) addresses.0 addresses.1
      (sym (gather_same _ _ (records_alone categories t yes (λ c. refl)) addresses.0) ∙ addresses.2))

  pub protocol_run : (ps : List ObjcProtocol) → plain_protocols t ≡ value ps → Run (protocol_step_of t) (protocol_count t.sections) l ps
  unfolding plain_protocols protocol_in
  protocol_run ps e =
      let slots = slots_of Protocols t.sections in
      rw (← protocols_count t.sections) (length slots, omega arith, protocol_runs t yes (length slots) 0 l (omega arith) ps e)
