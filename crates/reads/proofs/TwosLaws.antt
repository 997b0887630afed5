-- Laws of two's complement, over the width.
use Rattle.std.proofs.Common.{◌≡◌, ℕ, zero, suc, ◌-◌, ◌^◌, ◌<◌, ◌≤◌, Bool, true, false, ltb, pos, negsuc, ◌-ℤ◌, sym, refl, ◌∙◌, arith, w32, to_z, ltb-false, ltb-true, lt-ltb, le-leb}
use borrow.Author.Tests.{lt-leb}
use mir.Facts.{to_z_pos}
use Rattle.reads.specs.Outcome.{choose}
use Rattle.reads.specs.Signed.{twos}
use Rattle.reads.specs.Relative.{signed32}

-- A number below another, less that, is below zero.
less_greater : (n size : ℕ) → n < size → pos n -ℤ pos size ≡ negsuc (size - suc n)
less_greater n zero h = absurd (omega arith)
less_greater n (suc m) h = simp (lt-ltb n (suc m) h)

pub twos_negative : (n size : ℕ) → n < size → twos true n size ≡ negsuc (size - suc n)
unfolding twos choose
twos_negative n size h = less_greater n size h

pub twos_positive : (n size : ℕ) → twos false n size ≡ pos n
unfolding twos choose
twos_positive n size = refl

signed32_low : (n : ℕ) → n < 2 ^ 31 → signed32 n ≡ pos n
unfolding signed32
signed32_low n h = rw (lt-leb (2 ^ 31) n h) (twos_positive n (2 ^ 32))

signed32_high : (n : ℕ) → 2 ^ 31 ≤ n → n < 2 ^ 32 → signed32 n ≡ negsuc (2 ^ 32 - suc n)
unfolding signed32
signed32_high n h f = rw (le-leb (2 ^ 31) n h) (twos_negative n (2 ^ 32) f)

-- What the cast of 32 bits gives.
pub cast_signed32 : (n : ℕ) → n < 2 ^ 32 → to_z w32 n ≡ signed32 n
cast_signed32 n f = go (ltb n (2 ^ 31)) refl
  where
    go : (t : Bool) → ltb n (2 ^ 31) ≡ t → to_z w32 n ≡ signed32 n
    go true e = let h : n < 2 ^ 31 = ltb-true n (2 ^ 31) e in to_z_pos w32 h ∙ sym (signed32_low n h)
    go false e = simp e (sym (signed32_high n (ltb-false n (2 ^ 31) e) f))
