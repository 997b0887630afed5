-- The rows of the result buffer, three words each, and what a search among them finds.
use Prim.Native.Nat.{ℕ, zero, suc, ◌+◌, ◌*◌, ◌<◌}
use mathlib.Core.Path.{◌≡◌, refl, sym, ap, ◌∙◌}
use mathlib.Core.List.{List, []}
use native.Mathlib.Omega.{arith}
use lib.Dec.{eqb}
use lib.ListN.{length, get_or, drop}
use borrow.Author.Tests.{eqb-true}
use Rattle.std.proofs.lemmas.List.{get_or-take, get_or-drop}
use Rattle.std.specs.Prelude.{Option, Some, None, Result, Ok, Err, IfSome}
use Rattle.std.specs.List.{position}
use Rattle.std.specs.List.Sorted.{IsBinarySearchResult, IsSearchInRange}
use Rattle.std.specs.Ordering.{nat_cmp}
use Rattle.std.specs.Cmp.{ranked}
use Rattle.std.specs.Result.{result_ok}
use Rattle.std.specs.Simd.{first_chunks}
use Rattle.std.proofs.lemmas.List.Quantifiers.{position-Some}
use Rattle.ancestry.specs.Doubling.{node_at}

module _ (n : ℕ) where
  length_chunks : (k : ℕ) (xs : List ℕ) → length (first_chunks n k xs) ≡ k
  length_chunks zero xs = refl
  length_chunks (suc k) xs = ap suc (length_chunks k (drop n xs))

-- The last word of a row.
node_of : (k i : ℕ) (out : List ℕ) (d : List ℕ) → i < k → get_or (get_or (first_chunks 3 k out) i d) 2 0 ≡ node_at out i
node_of zero i out d h = absurd (omega arith)
node_of (suc k) zero out d h = get_or-take 3 out 2 0 (omega arith)
node_of (suc k) (suc i) out d h =
    let e : 3 + (i * 3 + 2) ≡ suc i * 3 + 2 = omega arith in
    node_of k i (drop 3 out) d (omega arith) ∙ get_or-drop 3 out (i * 3 + 2) 0 ∙ ap (λ j. get_or out j 0) e

abbrev IsRow : List ℕ → ℕ → ℕ → ℕ → Type 0
IsRow out listed address row = (row < listed) × (node_at out row ≡ address)

module _ (out : List ℕ) (listed address : ℕ) where
  pub by_bisection : (r : Result ℕ ℕ) → IsSearchInRange r (length (first_chunks 3 listed out))
      → IsBinarySearchResult (λ row. nat_cmp (get_or row 2 0) address) (first_chunks 3 listed out) r → IfSome (result_ok r) (IsRow out listed address)
  by_bisection (Ok row) range found =
      let h : row < listed = omega (arith, length_chunks 3 listed out) in
      (h, sym (node_of listed row out [] h) ∙ ranked _ address _ (sym (found [])))
  by_bisection (Err at) range found = tt

  pub one_by_one : (o : Option ℕ) → o ≡ position (λ row. eqb (get_or row 2 0) address) (first_chunks 3 listed out) → IfSome o (IsRow out listed address)
  one_by_one (Some row) e =
      let f = position-Some (λ row. eqb (get_or row 2 0) address) (first_chunks 3 listed out) row [] (sym e) in
      let h : row < listed = omega (arith, f.0, length_chunks 3 listed out) in
      (h, sym (node_of listed row out [] h) ∙ eqb-true _ _ f.1)
  one_by_one None e = tt
