-- The lookup by a chain: its rule, for any contents of the index, and that over the words of an index it finds the last record.
use Prim.Native.Nat.{ℕ, zero, suc, ◌+◌, ◌-◌, ◌*◌, ◌≤◌, ◌<◌}
use mathlib.Core.Path.{◌≡◌, refl, sym, ap, ◌∙◌}
use mathlib.Core.List.{List}
use mathlib.Core.Logic.{⊎_elim}
use native.Mathlib.Omega.{arith}
use native.Mathlib.Decide.{ℕ_discrete}
use native.Mathlib.Nat.{eq-or-lt_of_le, le_of_suc-le-suc}
use lib.Dec.{eqb}
use lib.ListN.{get_or}
use borrow.Author.Tests.{eq-eqb, ne_eqb, eqb-true}
use Rattle.reads.specs.Outcome.{Outcome, value, absent, refused, and_then, choose}
use Rattle.reads.specs.declared.answer.Reason.TheVariants.{NoRecord}
use Rattle.reads.specs.Table.{records}
use Rattle.reads.proofs.Tests.{by_choose, choose_true, choose_false}
use Rattle.pointers.specs.Tables.{slot_of, rebase_words, bind_words, chains}
use Rattle.pointers.specs.Index.{chain_of, latest, indexed, Words, bind_nexts}
use Rattle.pointers.specs.Chain.{follow_from, follow, row_of, last_among, last_record, Last}
use Rattle.pointers.proofs.IndexWords.{latest_in, latest_not_in, latest_bound, indexed_rebases, indexed_binds}
use Rattle.std.specs.Prelude.{Result, Ok}
use Rattle.reads.specs.Answer.{outcome}
use Rattle.reads.specs.declared.answer.Missing.{Missing}
use Rattle.reads.specs.declared.answer.Question.TheVariants.{ChainOrder}
use Rattle.reads.specs.declared.answer.Question.{Question}

-- The rule of question ChainOrder, for any contents of the index.
module _ (width : ℕ) (table : List ℕ) (nexts slot : ℕ) (index : List ℕ) where
  -- Zero is the end.
  pub follow_end : (limit : ℕ) → follow_from width table nexts slot index limit 0 ≡ absent NoRecord
  unfolding follow_from
  follow_end zero = choose_true _ _ refl
  follow_end (suc limit) = choose_false _ _ (ne_eqb 0 (suc limit) (omega arith)) ∙ follow_end limit

  -- A record number above the limit is refused.
  pub follow_above : (limit n : ℕ) → limit < n → follow_from width table nexts slot index limit n ≡ refused ChainOrder
  unfolding follow_from
  follow_above zero n h = choose_false _ _ (ne_eqb n 0 (omega arith))
  follow_above (suc limit) n h = choose_false _ _ (ne_eqb n (suc limit) (omega arith)) ∙ follow_above limit n (omega arith)

  -- One at most the limit is the slot's record, or the chain goes on below it.
  pub follow_at : (limit n : ℕ) → n < limit
      → follow_from width table nexts slot index limit (suc n)
      ≡ choose (eqb (slot_of width table n) slot) (value (suc n)) (follow_from width table nexts slot index n (get_or index (nexts + n) 0))
  unfolding follow_from
  follow_at zero n h = absurd (omega arith)
  follow_at (suc limit) n h =
      ⊎_elim
      (λ e. rw (← e) (choose_true _ _ (eq-eqb (suc n) (suc n) refl)))
      (λ less. choose_false _ _ (ne_eqb (suc n) (suc limit) (omega arith)) ∙ follow_at limit n less)
      (eq-or-lt_of_le (le_of_suc-le-suc h))

  -- The same of a number that need not be written as a successor, as the code has it.
  follow_step : (limit n : ℕ) → (n ≡ 0 → ⊥) → n ≤ limit
      → follow_from width table nexts slot index limit n
      ≡ choose (eqb (slot_of width table (n - 1)) slot) (value n)
      (follow_from width table nexts slot index (n - 1) (get_or index (nexts + (n - 1)) 0))
  follow_step limit zero some h = absurd (some refl)
  follow_step limit (suc n) some h =
      let e : suc n - 1 ≡ n = omega arith in
      rw e (follow_at limit n h)

  module _ (limit n : ℕ) (some : n ≡ 0 → ⊥) (low : n ≤ limit) where
    pub follow_found : slot_of width table (n - 1) ≡ slot → follow_from width table nexts slot index limit n ≡ value n
    follow_found e = follow_step limit n some low ∙ choose_true _ _ (eq-eqb _ _ e)

    pub follow_on : (slot_of width table (n - 1) ≡ slot → ⊥)
        → follow_from width table nexts slot index limit n
        ≡ follow_from width table nexts slot index (n - 1) (get_or index (nexts + (n - 1)) 0)
    follow_on ne = follow_step limit n some low ∙ choose_false _ _ (ne_eqb _ _ ne)

  -- A record that is found is one of the table.
  from_value : (limit m n : ℕ) → follow_from width table nexts slot index limit m ≡ value n → (1 ≤ n) × (n ≤ limit)
  unfolding follow_from
  from_value zero m n =
      by_choose (λ (o : Outcome ℕ). o ≡ value n → (1 ≤ n) × (n ≤ 0))
      (λ t e. let z : ◌≡◌ {A = ℕ} 0 1 = cc in omega arith)
      (λ t e. let z : ◌≡◌ {A = ℕ} 0 1 = cc in omega arith)
  from_value (suc limit) m n =
      by_choose (λ (o : Outcome ℕ). o ≡ value n → (1 ≤ n) × (n ≤ suc limit))
      (λ met. by_choose (λ (o : Outcome ℕ). o ≡ value n → (1 ≤ n) × (n ≤ suc limit))
      (λ t e. let same : m ≡ n = cc in omega (arith, eqb-true m (suc limit) met))
      (λ t e. let r = from_value limit _ n e in (r.0, omega arith)))
      (λ t e. let r = from_value limit m n e in (r.0, omega arith))

pub follow_value : (width : ℕ) (table : List ℕ) (heads nexts slot : ℕ) (index : List ℕ) (n : ℕ)
    → follow width table heads nexts slot index ≡ value n → (1 ≤ n) × (n ≤ records width table)
unfolding follow
follow_value width table heads nexts slot index n e =
    from_value width table nexts slot index (records width table) (get_or index (heads + chain_of slot) 0) n e

-- What is made of a record's row.
pub then_row : {A : Type 0} (number : Outcome ℕ) (f : ℕ → Outcome A) → and_then (row_of number) f ≡ and_then number (λ n. f (n - 1))
then_row (value n) f = refl
then_row (absent r) f = refl
then_row (refused k) f = refl

-- A row that was found is below a bound of the numbers.
pub row_within : (most i : ℕ) (number : Outcome ℕ) → ((n : ℕ) → number ≡ value n → (1 ≤ n) × (n ≤ most)) → row_of number ≡ value i → i < most
row_within most i (value n) f e = let same : n - 1 ≡ i = cc in let b = f n refl in omega (arith, b.0, b.1)
row_within most i (absent r) f e = let z : ◌≡◌ {A = ℕ} 0 1 = cc in absurd (omega arith)
row_within most i (refused k) f e = let z : ◌≡◌ {A = ℕ} 0 1 = cc in absurd (omega arith)

-- The same, of the code's answer.
pub found_row : (width : ℕ) (table : List ℕ) (heads nexts slot : ℕ) (index : List ℕ) {w : (Result ℕ Missing)} {i : ℕ}
    → outcome w ≡ row_of (follow width table heads nexts slot index) → w ≡ Ok i → i < records width table
found_row width table heads nexts slot index {i = i} e g =
    row_within (records width table) i (follow width table heads nexts slot index) (λ n h. follow_value width table heads nexts slot index n h)
    (sym e ∙ ap outcome g)

-- Over the words of an index, a lookup finds the slot's last record, so never 9.
module _ (width : ℕ) (table : List ℕ) (heads nexts : ℕ) (index : List ℕ) (words : Words width table heads nexts index) (slot : ℕ) where
  -- of the first n records
  chain_last : (n : ℕ) → n ≤ records width table
      → follow_from width table nexts slot index n (latest width table n (chain_of slot)) ≡ last_among width table n slot
  unfolding follow_from last_among latest
  chain_last zero h = choose_true _ _ refl
  chain_last (suc n) h =
      elim (ℕ_discrete (chain_of (slot_of width table n)) (chain_of slot)) [
        | yes e ↦ rw (latest_in width table n (chain_of slot) e) (
            choose_true _ _ (eq-eqb (suc n) (suc n) refl)
            ∙ rw (words.next n (omega arith), e, chain_last n (omega arith)))
        | no ne ↦ rw (latest_not_in width table n (chain_of slot) ne) (
            choose_false _ _ (ne_eqb (latest width table n (chain_of slot)) (suc n) (λ q. omega (arith, latest_bound width table n (chain_of slot))))
            ∙ chain_last n (omega arith)
            ∙ sym (choose_false _ _ (ne_eqb (slot_of width table n) slot (λ q. ne (ap chain_of q)))))
      ]

  pub follow_last : follow width table heads nexts slot index ≡ last_record width table slot
  unfolding follow
  follow_last = rw (words.head (chain_of slot) (omega arith)) (chain_last (records width table) (omega arith))

-- Over the index that opening leaves, a slot's last record wins, and no lookup gives 9.
module _ (rebases binds index : List ℕ) (slot : ℕ) where
  pub rebase_last_wins : follow rebase_words rebases 0 (2 * chains) slot (indexed rebases binds index) ≡ last_record rebase_words rebases slot
  rebase_last_wins = follow_last rebase_words rebases 0 (2 * chains) (indexed rebases binds index) (indexed_rebases rebases binds index) slot

  pub bind_last_wins : follow bind_words binds chains (bind_nexts rebases) slot (indexed rebases binds index) ≡ last_record bind_words binds slot
  bind_last_wins =
      follow_last bind_words binds chains (bind_nexts rebases) (indexed rebases binds index) (indexed_binds rebases binds index) slot

-- What `last_record` says.
module _ (width : ℕ) (table : List ℕ) (slot : ℕ) where
  pub last_absent : (n : ℕ) → last_among width table n slot ≡ absent NoRecord → (j : ℕ) → j < n → slot_of width table j ≡ slot → ⊥
  unfolding last_among
  last_absent zero e j h q = omega arith
  last_absent (suc n) e j h q =
      elim (ℕ_discrete (slot_of width table n) slot) [
        | yes here ↦ (let e' = sym (choose_true _ _ (eq-eqb _ _ here)) ∙ e in let z : ◌≡◌ {A = ℕ} 0 1 = cc in omega arith)
        | no other ↦ ⊎_elim
            (λ same. other (rw same at q))
            (λ less. last_absent n (sym (choose_false _ _ (ne_eqb _ _ other)) ∙ e) j less q)
            (eq-or-lt_of_le (le_of_suc-le-suc h))
      ]

  pub last_value : (n k : ℕ) → last_among width table n slot ≡ value k → Last width table n slot k
  unfolding last_among
  last_value zero k e = let z : ◌≡◌ {A = ℕ} 0 1 = cc in absurd (omega arith)
  last_value (suc n) k e =
      elim (ℕ_discrete (slot_of width table n) slot) [
        | yes here ↦ (
            let e' = sym (choose_true _ _ (eq-eqb _ _ here)) ∙ e in
            let last : suc n ≡ k = cc in
            let before : k - 1 ≡ n = omega arith in
            record { first = omega arith; counted = omega arith; has = rw before here; later = λ j a b q. omega arith }
            )
        | no other ↦ (
            let r = last_value n k (sym (choose_false _ _ (ne_eqb _ _ other)) ∙ e) in
            record {
              first = r.first;
              counted = omega arith;
              has = r.has;
              later = λ j a b q. ⊎_elim
                  (λ same. other (rw same at q))
                  (λ less. r.later j a less q)
                  (eq-or-lt_of_le (le_of_suc-le-suc b));
            }
            )
      ]

  pub last_no_number : (n : ℕ) (k : Question) → last_among width table n slot ≡ refused k → ⊥
  unfolding last_among
  last_no_number zero k e = let z : ◌≡◌ {A = ℕ} 0 1 = cc in omega arith
  last_no_number (suc n) k e =
      by_choose (λ (o : Outcome ℕ). o ≡ refused k → ⊥)
      (λ t q. let z : ◌≡◌ {A = ℕ} 0 1 = cc in omega arith)
      (λ t. last_no_number n k)
      e
