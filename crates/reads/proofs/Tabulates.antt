-- Laws of lists that are made by a function of the number.
use Rattle.std.proofs.Common.{◌≡◌, ℕ, zero, suc, ◌+◌, ◌-◌, ◌<◌, ◌≤◌, [], ◌∷◌, length, get_or, refl, ap, ◌∙◌, add-one, arith}
use Rattle.reads.specs.Table.{tabulate}

module _ {A : Type 0} (f : ℕ → A) where
  pub length_tabulate : (i n : ℕ) → length (tabulate f i n) ≡ n
  unfolding tabulate
  length_tabulate i zero = refl
  length_tabulate i (suc n) = ap suc (length_tabulate (suc i) n)

  pub get_d_tabulate : (i n k : ℕ) (d : A) → k < n → get_or (tabulate f i n) k d ≡ f (i + k)
  unfolding tabulate
  get_d_tabulate i zero k d h = absurd (omega arith)
  get_d_tabulate i (suc n) zero d h = ap f (omega arith)
  get_d_tabulate i (suc n) (suc k) d h = get_d_tabulate (suc i) n k d (omega arith) ∙ ap f (omega arith)

  -- From number i on, up to n.
  pub tabulate_more : (i n : ℕ) → i < n → tabulate f i (n - i) ≡ f i ∷ tabulate f (i + 1) (n - (i + 1))
  unfolding tabulate
  tabulate_more i n h =
      let e : n - i ≡ suc (n - (i + 1)) = omega arith in
      rw e (rw add-one)

  pub tabulate_none : (i n : ℕ) → n ≤ i → tabulate f i (n - i) ≡ []
  unfolding tabulate
  tabulate_none i n h = let e : n - i ≡ 0 = omega arith in rw e
