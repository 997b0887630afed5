-- All classes of a list of addresses: counted, then written, one by one.
use Prim.Native.Nat.{ℕ, suc, ◌+◌, ◌≤◌, ◌<◌}
use mathlib.Core.Path.{◌≡◌, refl, sym, ap, ◌∙◌}
use mathlib.Core.List.{List, [], ◌∷◌, ◌++◌}
use mathlib.Core.Bool.{Bool, true, false}
use native.Mathlib.Omega.{arith}
use native.Mathlib.Numerals.{add-one}
use lib.ListN.{length, get_or, drop, drop_of_length-le}
use lib.Seq.{drop-cons}
use Rattle.std.specs.Prelude.{cond, Option, Some, None, Result, Ok}
use Rattle.std.specs.Option.{is_some}
use Rattle.reads.specs.Outcome.{Outcome, value, absent, refused, and_then, optional}
use Rattle.reads.specs.Answer.{answered}
use Rattle.walks.specs.Gather.{gather, present}
use Rattle.ancestry.specs.Filling.{through, tally}
use Rattle.reads.proofs.Outcomes.{there_is, none_is}
use Rattle.reads.specs.declared.answer.Question.{Question}
use Rattle.reads.specs.declared.answer.Reason.{Reason}

module _ {A : Type 0} (one : ℕ → Outcome A) where
  pub tally_none : (n : ℕ) → tally one n [] ≡ value n
  unfolding tally gather
  tally_none n = let nought : n + 0 ≡ n = omega arith in rw nought

  pub tally_more : (n a : ℕ) (rest : List ℕ)
      → tally one n (a ∷ rest) ≡ and_then (and_then (present (one a)) (λ xs. value (n + length xs))) (λ k. tally one k rest)
  unfolding tally gather
  tally_more n a rest = go (one a) (through one rest)
    where
      go : (o : Outcome A) (r : Outcome (List A))
          → and_then (and_then (present o) (λ xs. and_then r (λ ys. value (xs ++ ys)))) (λ xs. value (n + length xs))
          ≡ and_then (and_then (present o) (λ xs. value (n + length xs))) (λ k. and_then r (λ xs. value (k + length xs)))
      go (value x) (value ys) = let e : n + suc (length ys) ≡ n + 1 + length ys = omega arith in rw e
      go (value x) (absent r) = refl
      go (value x) (refused k) = refl
      go (absent q) (value ys) = let e : n + length ys ≡ n + 0 + length ys = omega arith in rw e
      go (absent q) (absent r) = refl
      go (absent q) (refused k) = refl
      go (refused j) r = refl

  -- One class counted.
  module _ (addresses : List ℕ) (n i : ℕ) (h : i < length addresses) (inv : tally one n (drop i addresses) ≡ tally one 0 addresses) where
    goes : and_then (and_then (present (one (get_or addresses i 0))) (λ xs. value (n + length xs))) (λ k. tally one k (drop (i + 1) addresses)) ≡ tally one 0 addresses
    goes =
        rw add-one (sym (tally_more n (get_or addresses i 0) (drop (suc i) addresses)))
        ∙ ap (tally one n) (sym (drop-cons addresses i 0 h))
        ∙ inv

    count_some : {a : A} → one (get_or addresses i 0) ≡ value a → tally one (n + 1) (drop (i + 1) addresses) ≡ tally one 0 addresses
    count_some e = rw e at goes

    count_none : {r : Reason} → one (get_or addresses i 0) ≡ absent r → tally one n (drop (i + 1) addresses) ≡ tally one 0 addresses
    count_none e = let nought : n + 0 ≡ n = omega arith in rw (e, nought) at goes

    pub count_refused : {k : Question} → one (get_or addresses i 0) ≡ refused k → refused k ≡ tally one 0 addresses
    count_refused e = rw e at goes

    -- The same, as the code asks: one more if there is a record.
    module _ {r : Result (Option A) Question} (found : answered r ≡ optional (one (get_or addresses i 0))) where
      pub count_more : (f : Option A) → r ≡ Ok f → {b : Bool} → b ≡ is_some f → b ≡ true → tally one (n + 1) (drop (i + 1) addresses) ≡ tally one 0 addresses
      count_more (Some a) was s t = count_some (there_is found was refl)
      count_more None was s t = let z : ◌≡◌ {A = ℕ} 1 0 = ap (λ b. cond b 1 0) (sym t ∙ s) in absurd (omega arith)

      pub count_same : (f : Option A) → r ≡ Ok f → {b : Bool} → b ≡ is_some f → b ≡ false → tally one n (drop (i + 1) addresses) ≡ tally one 0 addresses
      count_same (Some a) was s t = let z : ◌≡◌ {A = ℕ} 0 1 = ap (λ b. cond b 1 0) (sym t ∙ s) in absurd (omega arith)
      count_same None was s t = count_none (none_is found was refl).1

  pub count_end : (addresses : List ℕ) (n i : ℕ) → length addresses ≤ i → tally one n (drop i addresses) ≡ tally one 0 addresses → value n ≡ tally one 0 addresses
  count_end addresses n i h inv = sym (tally_none n) ∙ ap (tally one n) (sym (drop_of_length-le addresses {i = i} h)) ∙ inv
