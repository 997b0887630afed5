-- Laws of the bits of a word.
use Prim.Native.Nat.{ℕ, zero, suc, ◌*◌, ◌/◌, ◌%◌, ◌^◌, ◌<◌}
use mathlib.Core.Path.{◌≡◌, refl}
use mathlib.Core.Bool.{Bool, true, false, ◌||◌, not}
use native.Mathlib.Omega.{arith}
use native.Mathlib.Nat.{pow-le-pow_right, pow-suc, one-le-pow, div-eq_of_lt, mul-div-mul_right}
use lib.Bits.{bit_and, bit_or, and_mask, or_shr, or_mod, or_zero_r}
use lib.Dec.{eqb, eqb-zero-suc, eqb-suc-zero, eqb-suc-suc}
use Rattle.reads.specs.Outcome.{choose}
use Rattle.ranges.specs.Sheet.{bit_of}

low_bit : (w : ℕ) (t : ℕ) → w % 2 ≡ t → not (eqb t 0) ≡ eqb t 1
low_bit w zero h = refl
low_bit w (suc zero) h = refl
low_bit w (suc (suc t)) h = absurd (omega arith)

-- The code's test of bit i.
pub bit_tested : (w i : ℕ) → not (eqb (bit_and (w / 2 ^ i) 1) 0) ≡ bit_of w i
unfolding bit_of
bit_tested w i = rw (and_mask (w / 2 ^ i) 1) (low_bit (w / 2 ^ i) (w / 2 ^ i % 2) refl)

-- The code's word with bit i alone.
pub bit_alone : (i : ℕ) → i < 64 → 1 * 2 ^ i % 18446744073709551616 ≡ 2 ^ i
bit_alone i h = let le = pow-le-pow_right {n = 2} (omega arith) {i = i} {j = 63} (omega arith) in omega (arith, le)

-- Bit j of a power of two.
powers : (i j : ℕ) → 2 ^ i / 2 ^ j % 2 ≡ choose (eqb j i) 1 0
unfolding choose
powers zero zero = refl
powers zero (suc j) =
    let le = pow-le-pow_right {n = 2} (omega arith) {i = 1} {j = suc j} (omega arith) in
    rw (div-eq_of_lt {n = 1} {m = 2 ^ suc j} (omega (arith, le)), eqb-suc-zero j) refl
powers (suc i) zero = rw (pow-suc 2 i, eqb-zero-suc i) (omega arith)
powers (suc i) (suc j) =
    let pos = one-le-pow j 2 (omega arith) in
    rw (pow-suc 2 i, pow-suc 2 j, mul-div-mul_right {m = 2} (2 ^ i) (2 ^ j) (omega arith), eqb-suc-suc j i) (powers i j)

or_one : (x : ℕ) → x % 2 ≡ x → bit_or x 1 ≡ 1
or_one zero h = refl
or_one (suc zero) h = refl
or_one (suc (suc x)) h = absurd (omega arith)

-- A word with bit i set has that bit and those that it had.
pub bit_set : (w i j : ℕ) → bit_of (bit_or w (2 ^ i)) j ≡ (eqb j i || bit_of w j)
unfolding bit_of choose
bit_set w i j =
    rw (or_shr w (2 ^ i) j, or_mod (w / 2 ^ j) (2 ^ i / 2 ^ j) 1, powers i j) (go (eqb j i))
  where
    go : (t : Bool) → eqb (bit_or (w / 2 ^ j % 2) (choose t 1 0)) 1 ≡ (t || eqb (w / 2 ^ j % 2) 1)
    go true = rw (or_one (w / 2 ^ j % 2) (omega arith)) refl
    go false = rw (or_zero_r (w / 2 ^ j % 2)) refl
