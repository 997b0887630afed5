-- Tests of every head and of every next word, as iterators make them.
use Prim.Native.Nat.{ℕ, zero, suc, ◌+◌, ◌*◌, ◌<◌, ◌≤◌}
use mathlib.Core.Path.{◌≡◌, refl, sym, ap, ◌∙◌}
use mathlib.Core.Bool.{Bool}
use mathlib.Core.List.{List}
use native.Mathlib.Numerals.{add-one}
use native.Mathlib.Omega.{arith}
use lib.Dec.{leb}
use lib.ListN.{length, get_or, take, drop, length-take, length-drop}
use lib.Seq.{take_all}
use Rattle.std.proofs.lemmas.List.{get_or-take, get_or-drop}
use Rattle.std.proofs.lemmas.List.Folds.{list_all_more}
use Rattle.std.proofs.lemmas.List.FromFn.{length-enumerate_from, get_or-enumerate_from}
use Rattle.std.specs.List.{list_all, enumerate_from}
use Rattle.pointers.specs.Tables.{chains}
use Rattle.pointers.specs.Question.{every}
use Rattle.ancestry.specs.Rebases.{heads_fall, nexts_fall}

module _ {X : Type 0} (test : X → Bool) (at : ℕ → Bool) (xs : List X) (d : X) (same : (i : ℕ) → i < length xs → test (get_or xs i d) ≡ at i) where
  first_tests : (n : ℕ) → n ≤ length xs → list_all test (take n xs) ≡ every at n
  unfolding every
  first_tests zero h = refl
  first_tests (suc n) h =
      let l : n < length xs = omega arith in
      rw (← add-one, list_all_more test xs n d l, first_tests n (omega arith), same n l) refl

  all_tests : (n : ℕ) → length xs ≡ n → list_all test xs ≡ every at n
  all_tests n e = ap (list_all test) (sym (take_all n xs (omega arith))) ∙ first_tests n (omega arith)

-- The heads stand in front.
pub heads_tested : (index : List ℕ) (count : ℕ) → chains ≤ length index → list_all (λ x. leb x count) (take chains index) ≡ heads_fall index count
unfolding heads_fall
heads_tested index count h =
    all_tests (λ x. leb x count) (λ c. leb (get_or index c 0) count) (take chains index) 0
    (λ i l. ap (λ x. leb x count) (get_or-take chains index i 0 (omega (arith, length-take chains index))))
    chains (omega (arith, length-take chains index))

-- The next words stand behind the heads.
pub nexts_tested : (index : List ℕ) (count n : ℕ) → n ≡ count → 2 * chains + count ≤ length index
    → list_all (λ (p : ℕ × ℕ). leb p.1 p.0) (enumerate_from 0 (take n (drop (2 * chains) index))) ≡ nexts_fall index count
unfolding nexts_fall
nexts_tested index count n same h =
    let nexts : List ℕ = take n (drop (2 * chains) index) in
    let size : length nexts ≡ count = omega (arith, length-take n (drop (2 * chains) index), length-drop (2 * chains) index) in
    all_tests (λ (p : ℕ × ℕ). leb p.1 p.0) (λ k. leb (get_or index (2 * chains + k) 0) k) (enumerate_from 0 nexts) (0, 0)
    (λ i l.
    let below : i < n = omega (arith, length-enumerate_from 0 nexts) in
    let nought : 0 + i ≡ i = omega arith in
    rw (get_or-enumerate_from 0 nexts i (0, 0) (omega arith), nought, get_or-take n (drop (2 * chains) index) i 0 below, get_or-drop (2 * chains) index i 0) refl)
    count (length-enumerate_from 0 nexts ∙ size)
