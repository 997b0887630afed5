-- Laws of the slots of the section lists, by the tests and the answers that the code goes by.
use Prim.Native.Nat.{ℕ, zero, suc, ◌+◌, ◌-◌, ◌*◌, ◌^◌, ◌≤◌, ◌<◌, max}
use mathlib.Core.Path.{◌≡◌, refl, sym, ap, ◌∙◌}
use mathlib.Core.Bool.{Bool, true, false, ◌&&◌, ◌||◌, or-true, or-false, true≢false}
use mathlib.Core.List.{List, [], ◌∷◌, ◌++◌}
use native.Mathlib.Omega.{arith}
use native.Mathlib.Numerals.{add-one}
use lib.Dec.{leb, eqb}
use lib.ListN.{length, get_or, take, length-append, get_or-append}
use lib.Seq.{take-suc, take-length, get_or-append-add}
use borrow.Author.Tests.{leb-true, leb-false, le-leb, lt-leb, eq-eqb, ne_eqb, eqb-false}
use Rattle.std.specs.Prelude.{Result, Ok, Err}
use Rattle.std.specs.Cmp.{ranked}
use Rattle.std.specs.List.{HoldsAt}
use Rattle.std.specs.List.Sorted.{IsSearchInRange}
use Rattle.std.specs.Ordering.{nat_cmp}
use Rattle.std.specs.Result.{IfOk, is_ok}
use Rattle.std.specs.declared.cmp.Ordering.TheVariants.{Equal}
use Rattle.reads.specs.Outcome.{Outcome, value, absent, refused, and_then}
use Rattle.reads.specs.Relative.{slot_address}
use Rattle.reads.proofs.Tests.{by_choose, choose_true, choose_false, both_true}
use Rattle.reads.proofs.Outcomes.{then_came}
use Rattle.reads.specs.declared.answer.Reason.{Reason}
use Rattle.pointers.specs.Tables.{Tables}
use Rattle.pointers.specs.Question.{question, asked_tables, asked_index, asked_lent, asked}
use Rattle.pointers.specs.Section.{section_at}
use Rattle.pointers.specs.declared.section.ObjcSection.{ObjcSection}
use Rattle.pointers.proofs.Questions.{question_yes, question_no, question_came}
use Rattle.walks.specs.Handed.{unless_refused}
use Rattle.walks.specs.Slots.{slots_from, section_slots, slots_of, slot_count, protocol_count, address_in, among, slot_fits, ledger_fits, asked_slot, asked_ledger, TakenSlot, address, slot_dropped, no_slot, slot_refused, taken_by, slot_taken, met_below, greatest, first_met, next_slot, next_new, slot_outcome, Room}
use Rattle.walks.specs.declared.slots.Lists.{Lists}
use Rattle.walks.specs.declared.slots.Lists.TheVariants.{Classes, Categories, Protocols}
use Rattle.walks.specs.declared.slots.SlotStep.{SlotStep}
use Rattle.walks.specs.declared.slots.SlotWalk.{SlotWalk}
use Rattle.reads.specs.declared.answer.Question.{Question}
use Rattle.reads.specs.declared.answer.Question.TheVariants.{WalkState, LedgerLength, FileLength, SegmentTable, SectionTable, ImageInfoLength, RebaseTable, BindTable, IndexLength, FileLent}

-- The slots of a section, one by one.
slots_length : (v k n : ℕ) → length (slots_from v k n) ≡ n
unfolding slots_from
slots_length v k zero = refl
slots_length v k (suc n) = ap suc (slots_length v (suc k) n)

slots_at : (v k n i : ℕ) → i < n → get_or (slots_from v k n) i 0 ≡ slot_address v (k + i)
unfolding slots_from
slots_at v k zero i h = absurd (omega arith)
slots_at v k (suc n) zero h = let e : k + 0 ≡ k = omega arith in rw e
slots_at v k (suc n) (suc i) h = let e : k + suc i ≡ suc k + i = omega arith in rw e (slots_at v (suc k) n i (omega arith))

module _ (ws : List ℕ) where
  pub section_length : (i : ℕ) → length (section_slots ws i) ≡ (section_at ws i).slots
  unfolding section_slots
  section_length i = slots_length _ 0 _

  pub section_at_lem : (i k : ℕ) → k < (section_at ws i).slots → slot_address (section_at ws i).vmaddr k ≡ get_or (section_slots ws i) k 0
  unfolding section_slots
  section_at_lem i k h =
      let e : 0 + k ≡ k = omega arith in
      sym (rw e at (slots_at (section_at ws i).vmaddr 0 (section_at ws i).slots k h))

  -- Those of two sections: a slot is in the first, or as far in the second as it is past the first.
  module _ (first second : ℕ) where
    abbrev both : List ℕ
    both = section_slots ws first ++ section_slots ws second

    pub pair_length : (section_at ws first).slots + (section_at ws second).slots ≡ length both
    pair_length = rw (length-append (section_slots ws first) (section_slots ws second), section_length first, section_length second)

    pub pair_first : (k : ℕ) → k < (section_at ws first).slots → slot_address (section_at ws first).vmaddr k ≡ get_or both k 0
    pair_first k h =
        section_at_lem first k h
        ∙ sym (get_or-append (section_slots ws first) (section_slots ws second) 0 k (rw (section_length first) h))

    pub pair_second : (k : ℕ) → (section_at ws first).slots ≤ k → k < length both
        → slot_address (section_at ws second).vmaddr (k - (section_at ws first).slots) ≡ get_or both k 0
    pair_second k g h =
        let e : length (section_slots ws first) + (k - (section_at ws first).slots) ≡ k = omega (arith, section_length first) in
        section_at_lem second (k - (section_at ws first).slots) (omega (arith, pair_length))
        ∙ sym (get_or-append-add (section_slots ws first) (section_slots ws second) (k - (section_at ws first).slots) 0)
        ∙ ap (λ (j : ℕ). get_or both j 0) e

  pub classes_count : length (slots_of Classes ws) ≡ slot_count ws 0 1
  unfolding slot_count
  classes_count = sym (pair_length 0 1)

  pub categories_count : length (slots_of Categories ws) ≡ slot_count ws 2 3
  unfolding slot_count
  categories_count = sym (pair_length 2 3)

  pub protocols_count : length (slots_of Protocols ws) ≡ protocol_count ws
  unfolding protocol_count
  protocols_count = section_length 4

-- A section of words of 64 bits has fewer than 2^61 slots.
pub slots_fit : (ws : List ℕ) (i : ℕ) (a : ObjcSection) → a ≡ section_at ws i → ((j : ℕ) → get_or ws j 0 < 2 ^ 64) → a.slots < 2 ^ 61
slots_fit ws i a e h = rw e (fits ws i h)
  where
    fits : (ws : List ℕ) (i : ℕ) → ((j : ℕ) → get_or ws j 0 < 2 ^ 64) → (section_at ws i).slots < 2 ^ 61
    fits ws i h = unfold section_at in by_choose (λ (s : ObjcSection). s.slots < 2 ^ 61) (λ e. omega (arith, h (i * 3 + 2))) (λ e. omega arith)

pub slots_few : (lists : Lists) (ws : List ℕ) → ((j : ℕ) → get_or ws j 0 < 2 ^ 64) → length (slots_of lists ws) < 2 ^ 62
slots_few Classes ws h = omega (arith, pair_length ws 0 1, slots_fit ws 0 _ refl h, slots_fit ws 1 _ refl h)
slots_few Categories ws h = omega (arith, pair_length ws 2 3, slots_fit ws 2 _ refl h, slots_fit ws 3 _ refl h)
slots_few Protocols ws h = omega (arith, section_length ws 4, slots_fit ws 4 _ refl h)

-- The first words of a list, one by one.
pub among_end : (a : ℕ) (bs : List ℕ) (b : ℕ) → among a (bs ++ (b ∷ [])) ≡ (among a bs || eqb b a)
unfolding among
among_end a [] b = last (eqb b a)
  where
    last : (x : Bool) → (x || false) ≡ x
    last true = refl
    last false = refl
among_end a (x ∷ bs) b = go (eqb x a) (among_end a bs b)
  where
    go : (y : Bool) → among a (bs ++ (b ∷ [])) ≡ (among a bs || eqb b a) → (y || among a (bs ++ (b ∷ []))) ≡ ((y || among a bs) || eqb b a)
    go true e = refl
    go false e = e

-- One word more is looked at.
module _ (a : ℕ) (l : List ℕ) (i : ℕ) (h : i < length l) where
  pub among_more : (among a (take i l) || eqb (get_or l i 0) a) ≡ among a (take (i + 1) l)
  among_more = sym (rw (add-one, take-suc l i 0 h) (among_end a (take i l) (get_or l i 0)))

  pub among_other : (get_or l i 0 ≡ a → ⊥) → among a (take i l) ≡ among a (take (i + 1) l)
  among_other n = sym (rw (← among_more, ne_eqb (get_or l i 0) a n) (or-false (among a (take i l))))

-- A word in use.
pub among_word : (a : ℕ) (l : List ℕ) (i n : ℕ) → i < n → i < length l → get_or l i 0 ≡ a → among a (take n l) ≡ true
unfolding among
among_word a [] i n p q e = absurd (omega arith)
among_word a (b ∷ l) i zero p q e = absurd (omega arith)
among_word a (b ∷ l) zero (suc n) p q e = rw (eq-eqb b a e)
among_word a (b ∷ l) (suc i) (suc n) p q e = rw (among_word a l i n (omega arith) (omega arith) e) (or-true (eqb b a))

-- A word that a search has found.
pub among_searched : (a : ℕ) (l : List ℕ) (r : Result ℕ ℕ) → IsSearchInRange r (length l) → IfOk r (HoldsAt (λ b. nat_cmp b a ≡ Equal) l) → is_ok r ≡ true → among a l ≡ true
among_searched a l (Ok i) b h e = rw take-length at (among_word a l i (length l) b b (ranked (get_or l i 0) a Equal (sym (h 0))))
among_searched a l (Err i) b h e = absurd (true≢false (sym e))

-- The greatest of some addresses, one by one, and what lies above it.
pub greatest_end : (bs : List ℕ) (b : ℕ) → greatest (bs ++ (b ∷ [])) ≡ max (greatest bs) b
unfolding greatest
greatest_end [] b = omega arith
greatest_end (x ∷ bs) b = let e = greatest_end bs b in omega (arith, e)

above_greatest : (a : ℕ) (bs : List ℕ) → greatest bs < a → among a bs ≡ false
unfolding greatest among
above_greatest a [] h = refl
above_greatest a (b ∷ bs) h = rw (ne_eqb b a (λ (e : b ≡ a). absurd (omega arith)), above_greatest a bs (omega arith))

-- Above the highest address met none was met: then the words in use need not be looked at.
pub met_by_greatest : (bs : List ℕ) (a : ℕ) → met_below (greatest bs) bs a ≡ among a bs
met_by_greatest bs a = go (leb a (greatest bs)) refl
  where
    go : (x : Bool) → leb a (greatest bs) ≡ x → (x && among a bs) ≡ among a bs
    go true e = refl
    go false e = sym (above_greatest a bs (leb-false a (greatest bs) e))

pub met_above : (highest : ℕ) (bs : List ℕ) (a : ℕ) → highest < a → false ≡ met_below highest bs a
met_above highest bs a h = simp (lt-leb a highest h)

pub met_found : (highest : ℕ) (bs : List ℕ) (a : ℕ) → a ≤ highest → among a bs ≡ true → true ≡ met_below highest bs a
met_found highest bs a h e = rw (le-leb a highest h, e)

pub met_look : (highest : ℕ) (bs : List ℕ) (a : ℕ) → a ≤ highest → among a bs ≡ met_below highest bs a
met_look highest bs a h = simp (le-leb a highest h)

-- The questions 10 and 11.
module _ (slots : List ℕ) where
  pub slot_past : (slot used : ℕ) → length slots < slot → false ≡ slot_fits slots slot used
  unfolding slot_fits
  slot_past slot used h = simp (lt-leb slot (length slots) h)

  pub slot_by : (slot used : ℕ) → slot ≤ length slots → leb used slot ≡ slot_fits slots slot used
  unfolding slot_fits
  slot_by slot used h = simp (le-leb slot (length slots) h)

  pub slot_fits_lem : (slot used : ℕ) → slot ≤ length slots → used ≤ slot → slot_fits slots slot used ≡ true
  unfolding slot_fits
  slot_fits_lem slot used h g = rw (le-leb slot (length slots) h, le-leb used slot g)

  pub slot_within : (slot used : ℕ) → slot_fits slots slot used ≡ true → (slot ≤ length slots) × (used ≤ slot)
  unfolding slot_fits
  slot_within slot used e =
      let h = both_true (leb slot (length slots)) (leb used slot) e in
      (leb-true slot (length slots) h.0, leb-true used slot h.1)

  pub ledger_fits_lem : (words : ℕ) → length slots ≤ words → ledger_fits slots words ≡ true
  unfolding ledger_fits
  ledger_fits_lem words h = le-leb (length slots) words h

  module _ (t : Tables) (slot used : ℕ) where
    slot_asked : asked t ≡ value tt → slot ≤ length slots → used ≤ slot → asked_slot t slots slot used ≡ value tt
    unfolding asked_slot
    slot_asked e h g = rw (e, question_yes WalkState _ (slot_fits_lem slot used h g))

    pub ledger_asked : asked t ≡ value tt → (words : ℕ) → slot ≤ length slots → used ≤ slot → length slots ≤ words
        → asked_ledger t slots slot used words ≡ value tt
    unfolding asked_ledger
    ledger_asked e words h g r = rw (slot_asked e h g, question_yes LedgerLength _ (ledger_fits_lem words r))

    -- What they say of a walk.
    pub slot_room : asked_slot t slots slot used ≡ value tt → (slot ≤ length slots) × (used ≤ slot)
    unfolding asked_slot
    slot_room e =
        let a = then_came (asked t) _ tt e in
        slot_within slot used (question_came WalkState _ tt a.2)

    pub ledger_room : (words : ℕ) → asked_ledger t slots slot used words ≡ value tt → (slot ≤ length slots) × (used ≤ slot) × (length slots ≤ words)
    unfolding asked_ledger ledger_fits
    ledger_room words e =
        let a = then_came (asked_slot t slots slot used) _ tt e in
        let h = slot_room a.1 in
        (h.0, h.1, leb-true (length slots) words (question_came LedgerLength _ tt a.2))

-- The questions of a walk with a ledger, by those before.
module _ (t : Tables) (slots : List ℕ) (slot : ℕ) where
  module _ (used words : ℕ) where
    pub ask_10 : asked t ≡ value tt → slot_fits slots slot used ≡ false → refused WalkState ≡ asked_ledger t slots slot used words
    unfolding asked_ledger asked_slot
    ask_10 e h = rw (e, question_no WalkState _ h)

    pub ask_11 : asked t ≡ value tt → slot_fits slots slot used ≡ true → ledger_fits slots words ≡ false → refused LedgerLength ≡ asked_ledger t slots slot used words
    unfolding asked_ledger asked_slot
    ask_11 e h g = rw (e, question_yes WalkState _ h, question_no LedgerLength _ g)

    pub ask_yes : asked t ≡ value tt → slot_fits slots slot used ≡ true → ledger_fits slots words ≡ true → value tt ≡ asked_ledger t slots slot used words
    unfolding asked_ledger asked_slot
    ask_yes e h g = rw (e, question_yes WalkState _ h, question_yes LedgerLength _ g)

    pub ask_no : {k : Question} → asked t ≡ refused k → refused k ≡ asked_ledger t slots slot used words
    unfolding asked_ledger asked_slot
    ask_no e = rw e

  -- Slot k, by the address in it.
  pub taken_none : slot ≡ length slots → no_slot ≡ slot_taken t slots slot
  unfolding slot_taken
  taken_none h = sym (choose_true _ _ (eq-eqb slot (length slots) h))

  pub taken_by_lem : {x : TakenSlot} {o : Outcome ℕ} {a : ℕ} → (slot ≡ length slots → ⊥) → a ≡ get_or slots slot 0 → o ≡ address_in t a → x ≡ taken_by o
      → x ≡ slot_taken t slots slot
  unfolding slot_taken
  taken_by_lem h e g f = f ∙ ap taken_by (g ∙ ap (address_in t) e) ∙ sym (choose_false _ _ (ne_eqb slot (length slots) h))

  -- The next slot, by the questions.
  pub next_on : {x : TakenSlot} → asked t ≡ value tt → slot_fits slots slot 0 ≡ true → x ≡ slot_taken t slots slot → x ≡ next_slot t slots slot
  unfolding next_slot asked_slot
  next_on e h g = rw (e, question_yes WalkState _ h) g

  pub next_10 : asked t ≡ value tt → slot_fits slots slot 0 ≡ false → slot_refused WalkState ≡ next_slot t slots slot
  unfolding next_slot asked_slot
  next_10 e h = rw (e, question_no WalkState _ h)

  pub next_no : {k : Question} → asked t ≡ refused k → slot_refused k ≡ next_slot t slots slot
  unfolding next_slot asked_slot
  next_no e = rw e

  module _ (used highest : ℕ) (l : List ℕ) where
    pub new_on : {x : TakenSlot} → asked_ledger t slots slot used (length l) ≡ value tt
        → x ≡ first_met (met_below highest (take used l)) (slot_taken t slots slot) → x ≡ next_new t slots slot used highest l
    unfolding next_new
    new_on e g = rw e g

    pub new_no : {k : Question} → asked_ledger t slots slot used (length l) ≡ refused k → slot_refused k ≡ next_new t slots slot used highest l
    unfolding next_new
    new_no e = rw e

-- No question is absent.
pub data Answered {A : Type 0} : Outcome A → Type 0 where
  answered_value : (a : A) → Answered (value a)
  answered_number : (k : Question) → Answered (refused k)

answered_question : (k : Question) (b : Bool) → Answered (question k b)
unfolding question
answered_question k b = by_choose Answered (λ e. answered_value tt) (λ e. answered_number k)

answered_then : {A B : Type 0} {o : Outcome A} (f : A → Outcome B) → Answered o → ((a : A) → Answered (f a)) → Answered (and_then o f)
answered_then f (answered_value a) v = v a
answered_then f (answered_number k) v = answered_number k

asked_answered : (t : Tables) → Answered (asked t)
unfolding asked_lent asked_tables asked_index
asked_answered t =
    answered_then _
    (answered_then _ (answered_question FileLength _) (λ a. answered_then _ (answered_question SegmentTable _) (λ g. answered_then _ (answered_question FileLent _)
    (λ b. answered_then _ (answered_question SectionTable _) (λ c. answered_then _ (answered_question ImageInfoLength _) (λ d. answered_then _ (answered_question RebaseTable _)
    (λ e. answered_question BindTable _)))))))
    (λ f. answered_question IndexLength _)

asked_never_absent : {o : Outcome (Unit {0})} (r : Reason) → Answered o → absent r ≡ o → ⊥
asked_never_absent r (answered_value u) e = let z : ◌≡◌ {A = ℕ} 0 1 = cc in omega arith
asked_never_absent r (answered_number k) e = let z : ◌≡◌ {A = ℕ} 0 1 = cc in omega arith

pub no_question_absent : (t : Tables) (r : Reason) → absent r ≡ asked t → ⊥
no_question_absent t r e = asked_never_absent r (asked_answered t) e

module _ (t : Tables) (slots : List ℕ) (slot used : ℕ) where
  pub slot_answered : Answered (asked_slot t slots slot used)
  unfolding asked_slot
  slot_answered = answered_then _ (asked_answered t) (λ a. answered_question WalkState _)

  pub ledger_answered : (words : ℕ) → Answered (asked_ledger t slots slot used words)
  unfolding asked_ledger
  ledger_answered words = answered_then _ slot_answered (λ a. answered_question LedgerLength _)

-- A slot that comes to an address or is dropped is there, and a ledger that was asked for has a word for it.
abbrev pub takes : TakenSlot → Bool
takes (address a) = true
takes slot_dropped = true
takes no_slot = false
takes (slot_refused k) = false

first_met_takes : (met : ℕ → Bool) (x : TakenSlot) → takes (first_met met x) ≡ takes x
first_met_takes met (address a) = by_choose (λ (y : TakenSlot). takes y ≡ true) (λ e. refl) (λ e. refl)
first_met_takes met slot_dropped = refl
first_met_takes met no_slot = refl
first_met_takes met (slot_refused k) = refl

module _ (t : Tables) (slots : List ℕ) (slot : ℕ) where
  taken_there : takes (slot_taken t slots slot) ≡ true → slot ≡ length slots → ⊥
  unfolding slot_taken
  taken_there = by_choose (λ (x : TakenSlot). takes x ≡ true → slot ≡ length slots → ⊥) (λ e h. absurd (true≢false (sym h))) (λ e h. eqb-false slot (length slots) e)

  next_there : {r v : Result SlotStep Question} → slot_outcome r ≡ next_slot t slots slot → r ≡ v → takes (slot_outcome v) ≡ true → slot < length slots
  unfolding next_slot
  next_there e f g = go refl (slot_answered t slots slot 0) (rw (← e, f) g)
    where
      go : {o : Outcome (Unit {0})} → asked_slot t slots slot 0 ≡ o → Answered o
          → takes (unless_refused o slot_refused (slot_taken t slots slot)) ≡ true → slot < length slots
      go e (answered_value u) h = let r = slot_room slots t slot 0 e in let n = taken_there h in omega (arith, r.0, n)
      go e (answered_number k) h = absurd (true≢false (sym h))

  new_there : (used highest : ℕ) (l : List ℕ) {r v : Result SlotStep Question} → slot_outcome r ≡ next_new t slots slot used highest l → r ≡ v → takes (slot_outcome v) ≡ true
      → (slot < length slots) × (used ≤ slot) × (length slots ≤ length l)
  unfolding next_new
  new_there used highest l e f g = go refl (ledger_answered t slots slot used (length l)) (rw (← e, f) g)
    where
      go : {o : Outcome (Unit {0})} → asked_ledger t slots slot used (length l) ≡ o → Answered o
          → takes (unless_refused o slot_refused (first_met (met_below highest (take used l)) (slot_taken t slots slot))) ≡ true
          → (slot < length slots) × (used ≤ slot) × (length slots ≤ length l)
      go e (answered_value u) h =
          let r = ledger_room slots t slot used (length l) e in
          let n = taken_there (sym (first_met_takes (met_below highest (take used l)) (slot_taken t slots slot)) ∙ h) in
          (omega (arith, r.0, n), r.1, r.2)
      go e (answered_number k) h = absurd (true≢false (sym h))

-- So there is room to go on, where the lists have so few slots.
pub new_room : (t : Tables) (lists : Lists) (w : SlotWalk) (l : List ℕ) {r v : Result SlotStep Question}
    → slot_outcome r ≡ next_new t (slots_of lists t.sections) w.slot w.used w.highest l → r ≡ v → takes (slot_outcome v) ≡ true
    → length (slots_of lists t.sections) < 2 ^ 62 → Room w (length l)
new_room t lists w l e f g few =
    let there = new_there t (slots_of lists t.sections) w.slot w.used w.highest l e f g in
    record { further = omega (arith, there.0, few); in_use = there.1; free = omega (arith, there.0, there.1, there.2) }

pub next_room : (t : Tables) (lists : Lists) (slot : ℕ) {r v : Result SlotStep Question} → slot_outcome r ≡ next_slot t (slots_of lists t.sections) slot → r ≡ v
    → takes (slot_outcome v) ≡ true → length (slots_of lists t.sections) < 2 ^ 62 → slot + 1 < 2 ^ 64
next_room t lists slot e f g few = omega (arith, next_there t (slots_of lists t.sections) slot e f g, few)
