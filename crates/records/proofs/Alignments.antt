-- An aligned offset in other words: 2 to the alignment divides it.
use Prim.Native.Nat.{ℕ, zero, suc, ◌+◌, ◌*◌, ◌/◌, ◌%◌, ◌^◌, ◌<◌}
use mathlib.Core.Path.{◌≡◌, sym, ap, ◌∙◌}
use native.Mathlib.Nat.{mod-one, zero-mod}
use native.Mathlib.Numerals.{add-one}
use native.Mathlib.Omega.{arith}
use lib.Count.{count_trailing_zeros, under}
use lib.Dec.{leb, eqb, leb-zero, leb-suc-zero, leb-suc-suc, eqb-suc-zero}
use lib.Pow.{mod-pow-add, shr_lt}
use borrow.Author.Tests.{eq-eqb, ne_eqb}
use Rattle.records.specs.Row.{aligned_of}
use Rattle.std.specs.Prelude.{Some}

-- The remainder by 2 ^ (k + 1): that of the number's half by 2 ^ k, and the lowest bit.
lowest_apart : (n k : ℕ) → n % 2 ^ suc k ≡ n / 2 % 2 ^ k * 2 + n % 2
lowest_apart n k = ap (λ (j : ℕ). n % 2 ^ j) (sym (add-one k)) ∙ mod-pow-add n k 1

doubled : (x : ℕ) → eqb x 0 ≡ eqb (x * 2) 0
doubled zero = eq-eqb 0 0 (omega arith)
doubled (suc x) = ne_eqb (suc x) 0 (λ e. omega arith) ∙ sym (ne_eqb (suc x * 2) 0 (λ e. omega arith))

-- A number other than 0 has at least k trailing zero bits exactly where 2 ^ k divides it.
zeros_divide : (d k n : ℕ) → 0 < n → n < 2 ^ d → leb k (count_trailing_zeros d n) ≡ eqb (n % 2 ^ k) 0
unfolding count_trailing_zeros
zeros_divide zero k n p h = absurd (omega arith)
zeros_divide (suc d) zero n p h = leb-zero (count_trailing_zeros (suc d) n) ∙ sym (eq-eqb (n % 1) 0 (mod-one n))
zeros_divide (suc d) (suc k) n p h = go (n % 2) (omega arith) (λ q. zeros_divide d k (n / 2) q (shr_lt d 1 (rw (add-one d) h)))
  where
    go : (r : ℕ) → n % 2 ≡ r → (0 < n / 2 → leb k (count_trailing_zeros d (n / 2)) ≡ eqb (n / 2 % 2 ^ k) 0)
        → leb (suc k) (under r (count_trailing_zeros d (n / 2))) ≡ eqb (n % 2 ^ suc k) 0
    go zero e half =
        let even : n / 2 % 2 ^ k * 2 ≡ n % 2 ^ suc k = omega (arith, lowest_apart n k) in
        leb-suc-suc k (count_trailing_zeros d (n / 2)) ∙ half (omega arith) ∙ doubled (n / 2 % 2 ^ k) ∙ ap (λ (x : ℕ). eqb x 0) even
    go (suc r) e half = leb-suc-zero k ∙ sym (ne_eqb (n % 2 ^ suc k) 0 (λ z. omega (arith, lowest_apart n k)))

pub aligned_divides : (n k : ℕ) → n < 2 ^ 32 → aligned_of (Some n) (Some k) ≡ Some (eqb (n % 2 ^ k) 0)
unfolding aligned_of
aligned_divides zero k h = rw (zero-mod (2 ^ k))
aligned_divides (suc n) k h = rw (eqb-suc-zero n, zeros_divide 32 k (suc n) (omega arith) h)
