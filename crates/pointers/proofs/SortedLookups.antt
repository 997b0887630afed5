-- The lookup by halves: where slots ascend it finds the slot's only record, and so the last one.
use Prim.Native.Nat.{ℕ, zero, suc, ◌+◌, ◌-◌, ◌*◌, ◌%◌, ◌^◌, ◌≤◌, ◌<◌}
use mathlib.Core.Path.{◌≡◌, refl, sym, ap, ◌∙◌}
use mathlib.Core.Bool.{Bool, true, false, ◌&&◌}
use mathlib.Core.List.{List}
use mathlib.Core.Logic.{◌⊎◌, inl, inr, ⊎_elim}
use native.Mathlib.Omega.{arith}
use native.Mathlib.Decide.{ℕ_discrete}
use native.Mathlib.Nat.{eq-or-lt_of_le, le_of_suc-le-suc, pow-suc}
use Rattle.std.proofs.Math.Pow.{pow-lt}
use lib.Dec.{eqb, leb, ltb}
use borrow.Author.Tests.{eq-eqb, ne_eqb, eqb-true, ltb-true, ltb-false, lt-ltb, le-ltb, leb-true, leb-false}
use Rattle.reads.specs.Outcome.{Outcome, value, absent, Unrefused, a_value, an_absence}
use Rattle.reads.specs.Table.{records}
use Rattle.reads.specs.declared.answer.Reason.TheVariants.{NoRecord}
use Rattle.reads.proofs.Tests.{by_choose, choose_true, choose_false, both_true}
use Rattle.reads.proofs.Unrefused.{unrefused_choose}
use Rattle.pointers.specs.Tables.{rebase_words, slot_of}
use Rattle.pointers.specs.Chain.{last_among, last_record}
use Rattle.pointers.specs.Sorted.{rises, ascending, at_most, climb, halvings, sorted_at, sorted_record}
use Rattle.pointers.proofs.Questions.{every_at}

pub sorted_unrefused : (rebases : List ℕ) (slot : ℕ) → Unrefused (sorted_record rebases slot)
unfolding sorted_at
sorted_unrefused rebases slot = unrefused_choose _ (a_value _) (an_absence NoRecord)

compared : (a b : ℕ) → (a < b) ⊎ (b ≤ a)
compared a b = go (ltb a b) refl
  where
    go : (t : Bool) → ltb a b ≡ t → (a < b) ⊎ (b ≤ a)
    go true e = inl (ltb-true a b e)
    go false e = inr (ltb-false a b e)

-- The last record of a slot, by what the records hold.
module _ (width : ℕ) (table : List ℕ) (slot : ℕ) where
  none_last : (n : ℕ) → ((j : ℕ) → j < n → slot_of width table j ≡ slot → ⊥) → last_among width table n slot ≡ absent NoRecord
  unfolding last_among
  none_last zero f = refl
  none_last (suc n) f =
      choose_false _ _ (ne_eqb (slot_of width table n) slot (f n (omega arith))) ∙ none_last n (λ j h. f j (omega arith))

  one_last : (b n : ℕ) → b < n → slot_of width table b ≡ slot → ((j : ℕ) → b < j → j < n → slot_of width table j ≡ slot → ⊥)
      → last_among width table n slot ≡ value (b + 1)
  unfolding last_among
  one_last b zero h e f = absurd (omega arith)
  one_last b (suc n) h e f =
      ⊎_elim
      (λ same. let k : suc n ≡ b + 1 = omega arith in choose_true _ _ (eq-eqb (slot_of width table n) slot (rw same at e)) ∙ rw k)
      (λ less. choose_false _ _ (ne_eqb (slot_of width table n) slot (f n less (omega arith)))
      ∙ one_last b n less e (λ j a c. f j a (omega arith)))
      (eq-or-lt_of_le (le_of_suc-le-suc h))

-- The step of the code.
shifted : (k : ℕ) → k < 64 → 1 * 2 ^ k % 2 ^ 64 ≡ 2 ^ k
shifted k h = omega (arith, pow-lt h)

module _ (rebases : List ℕ) (slot : ℕ) where
  -- The code's tests.
  pub at_most_there : (i : ℕ) → i < records rebase_words rebases → leb (slot_of rebase_words rebases i) slot ≡ at_most rebases slot i
  unfolding at_most
  at_most_there i h = rw (lt-ltb i (records rebase_words rebases) h)

  pub at_most_below : (i : ℕ) → at_most rebases slot i ≡ true → i < records rebase_words rebases
  unfolding at_most
  at_most_below i e = ltb-true i (records rebase_words rebases) (both_true (ltb i (records rebase_words rebases)) _ e).0

  -- A step of the climb, of 2^(k-1) as the code has it: taken, and not.
  pub climb_taken : (k b : ℕ) → 0 < k → k ≤ 64 → at_most rebases slot (b + 1 * 2 ^ (k - 1) % 2 ^ 64) ≡ true
      → climb rebases slot (k - 1) (b + 1 * 2 ^ (k - 1) % 2 ^ 64) ≡ climb rebases slot k b
  unfolding climb
  climb_taken zero b some few e = absurd (omega arith)
  climb_taken (suc k) b some few e =
      let one : suc k - 1 ≡ k = omega arith in
      let step = shifted k (omega arith) in
      rw (one, step) (sym (ap (climb rebases slot k) (choose_true (b + 2 ^ k) b (rw (one, step) at e))))

  pub climb_left : (k b : ℕ) → 0 < k → k ≤ 64 → at_most rebases slot (b + 1 * 2 ^ (k - 1) % 2 ^ 64) ≡ false
      → climb rebases slot (k - 1) b ≡ climb rebases slot k b
  unfolding climb
  climb_left zero b some few e = absurd (omega arith)
  climb_left (suc k) b some few e =
      let one : suc k - 1 ≡ k = omega arith in
      let step = shifted k (omega arith) in
      rw one (sym (ap (climb rebases slot k) (choose_false (b + 2 ^ k) b (rw (one, step) at e))))

  pub climb_end : (k b : ℕ) → k ≤ 0 → climb rebases slot k b ≡ b
  unfolding climb
  climb_end zero b h = refl
  climb_end (suc k) b h = absurd (omega arith)

  -- A record that is found is one of the table.
  pub sorted_value : (b n : ℕ) → sorted_at rebases slot b ≡ value n → (1 ≤ n) × (n ≤ records rebase_words rebases)
  unfolding sorted_at
  sorted_value b n =
      by_choose (λ (o : Outcome ℕ). o ≡ value n → (1 ≤ n) × (n ≤ records rebase_words rebases))
      (λ t e. let l = ltb-true b (records rebase_words rebases) (both_true (ltb b (records rebase_words rebases)) _ t).0 in
      let same : b + 1 ≡ n = cc in (omega arith, omega arith))
      (λ t e. let z : ◌≡◌ {A = ℕ} 0 1 = cc in absurd (omega arith))

  pub sorted_past : (b : ℕ) → records rebase_words rebases ≤ b → absent NoRecord ≡ sorted_at rebases slot b
  unfolding sorted_at
  sorted_past b h = rw (le-ltb b (records rebase_words rebases) h) (sym (choose_false _ _ refl))

module _ (rebases : List ℕ) (e : ascending rebases ≡ true) where
  rises_at : (i : ℕ) → i + 1 < records rebase_words rebases → slot_of rebase_words rebases i < slot_of rebase_words rebases (i + 1)
  unfolding ascending rises
  rises_at i h =
      ltb-true (slot_of rebase_words rebases i) (slot_of rebase_words rebases (i + 1)) (every_at (rises rebases) (records rebase_words rebases - 1) e i (omega arith))

  pub ascends_to : (i j : ℕ) → i < j → j < records rebase_words rebases → slot_of rebase_words rebases i < slot_of rebase_words rebases j
  ascends_to i zero h l = absurd (omega arith)
  ascends_to i (suc j) h l =
      let next : j + 1 ≡ suc j = omega arith in
      let last : slot_of rebase_words rebases j < slot_of rebase_words rebases (suc j) = rw next at (rises_at j (omega arith)) in
      ⊎_elim
      (λ same. omega (arith, last, ap (slot_of rebase_words rebases) same))
      (λ less. omega (arith, ascends_to i j less (omega arith), last))
      (eq-or-lt_of_le (le_of_suc-le-suc h))

  module _ (slot : ℕ) where
    -- Where the climb stands: record b has a slot that is at most the slot, or it is the first; those 2^k on have greater ones.
    record Bracket (k b : ℕ) : Type 0 where
      under : 0 < b → (b < records rebase_words rebases) × (slot_of rebase_words rebases b ≤ slot)
      above : (j : ℕ) → b + 2 ^ k ≤ j → j < records rebase_words rebases → slot < slot_of rebase_words rebases j

    taken : (k b : ℕ) → Bracket (suc k) b → at_most rebases slot (b + 2 ^ k) ≡ true → Bracket k (b + 2 ^ k)
    unfolding at_most
    taken k b s t =
        let both = both_true (ltb (b + 2 ^ k) (records rebase_words rebases)) _ t in
        record {
          under = λ h. (ltb-true (b + 2 ^ k) (records rebase_words rebases) both.0, leb-true (slot_of rebase_words rebases (b + 2 ^ k)) slot both.1);
          above = λ j h l. s.above j (omega (arith, pow-suc 2 k)) l;
        }

    left : (k b : ℕ) → Bracket (suc k) b → at_most rebases slot (b + 2 ^ k) ≡ false → Bracket k b
    left k b s f = record { under = s.under; above = beyond }
      where
        greater : b + 2 ^ k < records rebase_words rebases → slot < slot_of rebase_words rebases (b + 2 ^ k)
        greater h = leb-false (slot_of rebase_words rebases (b + 2 ^ k)) slot (at_most_there rebases slot (b + 2 ^ k) h ∙ f)

        beyond : (j : ℕ) → b + 2 ^ k ≤ j → j < records rebase_words rebases → slot < slot_of rebase_words rebases j
        beyond j h l =
            ⊎_elim
            (λ same. rw same at (greater (omega arith)))
            (λ less. omega (arith, greater (omega arith), ascends_to (b + 2 ^ k) j less l))
            (eq-or-lt_of_le h)

    climbed : (k b : ℕ) → Bracket k b → Bracket 0 (climb rebases slot k b)
    unfolding climb
    climbed zero b s = s
    climbed (suc k) b s =
        by_choose (λ (x : ℕ). Bracket 0 (climb rebases slot k x))
        (λ t. climbed k (b + 2 ^ k) (taken k b s t))
        (λ f. climbed k b (left k b s f))

    at_last : (b : ℕ) → Bracket 0 b → sorted_at rebases slot b ≡ last_record rebase_words rebases slot
    unfolding sorted_at
    at_last b s =
        by_choose (λ (o : Outcome ℕ). o ≡ last_record rebase_words rebases slot)
        (λ t. let both = both_true (ltb b (records rebase_words rebases)) _ t in
        sym (one_last rebase_words rebases slot b (records rebase_words rebases) (ltb-true b (records rebase_words rebases) both.0)
        (eqb-true (slot_of rebase_words rebases b) slot both.1)
        (λ j h l q. omega (arith, q, s.above j (omega (arith)) l))))
        (λ f. sym (none_last rebase_words rebases slot (records rebase_words rebases) (λ j l q. other j l q f)))
      where
        other : (j : ℕ) → j < records rebase_words rebases → slot_of rebase_words rebases j ≡ slot
            → (ltb b (records rebase_words rebases) && eqb (slot_of rebase_words rebases b) slot) ≡ false → ⊥
        other j l q f =
            elim (ℕ_discrete j b) [
              | yes same ↦ (
                  let here : slot_of rebase_words rebases b ≡ slot = rw same at q in
                  let u = lt-ltb b (records rebase_words rebases) (omega arith) in
                  let v = eq-eqb (slot_of rebase_words rebases b) slot here in
                  let w : (true && true) ≡ false = rw (u, v) at f in
                  let z : ◌≡◌ {A = ℕ} 0 1 = cc in omega arith
                  )
              | no differ ↦ ⊎_elim
                  (λ less. let u = s.under (omega arith) in omega (arith, q, u.1, ascends_to j b less u.0))
                  (λ more. omega (arith, q, s.above j (omega arith) l))
                  (compared j b)
            ]

  pub sorted_last : (slot : ℕ) → records rebase_words rebases ≤ 16777215 → sorted_record rebases slot ≡ last_record rebase_words rebases slot
  sorted_last slot most =
      at_last slot (climb rebases slot halvings 0)
      (climbed slot halvings 0 (record { under = λ h. absurd (omega arith); above = λ j h l. absurd (omega arith) }))
