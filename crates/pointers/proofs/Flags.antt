-- The j bits of a word of flags from bit k on, as the code takes them: with a mask of those bits.
use Prim.Native.Nat.{ℕ, zero, suc, ◌+◌, ◌-◌, ◌*◌, ◌/◌, ◌%◌, ◌^◌, ◌<◌}
use mathlib.Core.Path.{◌≡◌, refl, ap, sym, ◌∙◌}
use mathlib.Core.Bool.{not}
use native.Mathlib.Nat.{zero-mul, one-mul, suc-mul}
use native.Mathlib.Omega.{arith}
use borrow.Author.Tests.{ne_eqb}
use lib.Bits.{bit_and, and_high}
use lib.Dec.{eqb}
use lib.Pow.{pow_pos, high_ones, shl-shr}
use Rattle.pointers.specs.ImageInfo.{bit, swift_unstable, swift_stable}

scaled_zero : (d m : ℕ) → 0 < m → eqb (d * m) 0 ≡ eqb d 0
scaled_zero zero m p = rw zero-mul
scaled_zero (suc d) m p = rw suc-mul (ne_eqb (d * m + m) 0 (λ e. omega arith) ∙ sym (ne_eqb (suc d) 0 (λ e. omega arith)))

digit_test : (d : ℕ) → d < 2 → not (eqb d 0) ≡ eqb d 1
digit_test zero h = refl
digit_test (suc zero) h = refl
digit_test (suc (suc d)) h = absurd (omega arith)

module _ (j k flags : ℕ) where
  -- Masked and moved to the right, they are the digits.
  pub field_by : bit_and flags (2 ^ (j + k) - 2 ^ k) / 2 ^ k ≡ flags / 2 ^ k % 2 ^ j
  field_by = ap (λ n. n / 2 ^ k) (and_high flags j k) ∙ shl-shr (flags / 2 ^ k % 2 ^ j) k

  -- The mask leaves 0 where they are 0.
  pub field_zero : eqb (bit_and flags (2 ^ (j + k) - 2 ^ k)) 0 ≡ eqb (flags / 2 ^ k % 2 ^ j) 0
  field_zero = rw (and_high flags j k) (scaled_zero (flags / 2 ^ k % 2 ^ j) (2 ^ k) (pow_pos k))

pub bit_by : (k flags : ℕ) → not (eqb (bit_and flags (2 ^ k)) 0) ≡ bit k flags
unfolding bit
bit_by k flags =
    ap (λ mask. not (eqb (bit_and flags mask) 0)) (sym (high_ones 1 k ∙ one-mul (2 ^ k)))
    ∙ ap not (field_zero 1 k flags)
    ∙ digit_test (flags / 2 ^ k % 2) (omega arith)

-- The same, from what the code's test says.
pub bit_is : (k flags : ℕ) → bit k flags ≡ not (eqb (bit_and flags (2 ^ k)) 0)
bit_is k flags = sym (bit_by k flags)

pub unstable_is : (flags : ℕ) → swift_unstable flags ≡ bit_and flags 65280 / 256
unfolding swift_unstable
unstable_is flags = sym (field_by 8 8 flags)

pub swift_is : (flags : ℕ) → eqb (swift_unstable flags) 0 ≡ eqb (bit_and flags 65280) 0
unfolding swift_unstable
swift_is flags = sym (field_zero 8 8 flags)

pub stable_is : (flags : ℕ) → swift_stable flags ≡ bit_and flags 4294901760 / 65536
unfolding swift_stable
stable_is flags = sym (field_by 16 16 flags)

pub ruleset flag_tests = (bit_is, unstable_is, swift_is, stable_is)
