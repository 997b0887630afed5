-- Laws of sums modulo 2^64.
use Rattle.std.proofs.Common.{◌≡◌, ℕ, suc, ◌+◌, ◌-◌, ◌*◌, ◌/◌, ◌%◌, ◌^◌, ◌<◌, Bool, true, false, ltb, ℤ, pos, negsuc, ◌+ℤ◌, sym, refl, ap, ◌∙◌, mod-lt, mod-eq_of_lt, arith, to_z-of_z, w32, w64, SFits, to_z, of_z, ltb-false, ltb-true}
use native.Mathlib.Nat.{add-mod-mod, add-mul-mod_self_left, div-add-mod}
use Rattle.reads.specs.Relative.{modulo64, slot_address}

-- n is a multiple of 2^64 and a rest below it.
module _ (n : ℕ) where
  parts : 2 ^ 64 * (n / 2 ^ 64) + n % 2 ^ 64 ≡ n
  parts = div-add-mod n (2 ^ 64)

  rest_below : n % 2 ^ 64 < 2 ^ 64
  rest_below = mod-lt n (omega arith)

-- A multiple of 2^64 does not count.
multiple : (n k q : ℕ) → n ≡ k + 2 ^ 64 * q → n % 2 ^ 64 ≡ k % 2 ^ 64
multiple n k q e = rw e (add-mul-mod_self_left k (2 ^ 64) q)

-- (va + z modulo 2^64) modulo 2^64 is (va + z) modulo 2^64.
pub modulo64_of_sum : (a : ℕ) (z : ℤ) → (a + modulo64 z) % 2 ^ 64 ≡ modulo64 (pos a +ℤ z)
unfolding modulo64
modulo64_of_sum a (pos n) = add-mod-mod a n (2 ^ 64)
modulo64_of_sum a (negsuc n) = go (ltb a (suc n)) refl
  where
    go : (t : Bool) → ltb a (suc n) ≡ t → (a + (2 ^ 64 - 1 - n % 2 ^ 64)) % 2 ^ 64 ≡ modulo64 (pos a +ℤ negsuc n)
    go true e =
        simp e
        (multiple _ (2 ^ 64 - 1 - (suc n - suc a) % 2 ^ 64) (n / 2 ^ 64 - (suc n - suc a) / 2 ^ 64)
        (omega (arith, parts n, rest_below n, parts (suc n - suc a), rest_below (suc n - suc a), ltb-true a (suc n) e))
        ∙ mod-eq_of_lt (omega arith))
    go false e =
        simp e
        (multiple _ (a - suc n) (suc (n / 2 ^ 64)) (omega (arith, parts n, rest_below n, ltb-false a (suc n) e)))

-- A signed number of 32 bits, as one of 64.
wide : (z : ℤ) → SFits w32 z → SFits w64 z
wide (pos n) f = record { sfits = omega (arith, f.sfits) }
wide (negsuc n) f = record { sfits = omega (arith, f.sfits) }

bits_of : (z : ℤ) → SFits w64 z → of_z w64 z ≡ modulo64 z
unfolding modulo64
bits_of (pos n) f = sym (mod-eq_of_lt (omega (arith, f.sfits)))
bits_of (negsuc n) f =
    let e : n % 2 ^ 64 ≡ n = mod-eq_of_lt (omega (arith, f.sfits)) in
    rw e (omega arith)

pub extended : (z : ℤ) → SFits w32 z → of_z w64 (to_z w64 (of_z w64 (to_z w32 (of_z w32 z)))) ≡ modulo64 z
extended z f = rw (to_z-of_z f, to_z-of_z (wide z f)) (bits_of z (wide z f))

pub slot_modulo : (vmaddr k : ℕ) → (vmaddr + k * 8 % 2 ^ 64) % 2 ^ 64 ≡ slot_address vmaddr k
unfolding slot_address
slot_modulo vmaddr k =
    let e : k * 8 ≡ 8 * k = omega arith in
    add-mod-mod vmaddr (k * 8) (2 ^ 64) ∙ ap (λ (n : ℕ). (vmaddr + n) % 2 ^ 64) e
