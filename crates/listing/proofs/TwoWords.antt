-- Numbers of two words of 64 bits, high x 2^64 + low, as which a number of 128 bits was counted: their words, and one more.
use Rattle.std.proofs.Common.{◌≡◌, ℕ, ◌+◌, ◌*◌, ◌/◌, ◌%◌, ◌^◌, ◌<◌, Bool, true, false, ltb, sym, refl, ap, ◌∙◌, mod-eq_of_lt, arith, ltb-false, ltb-true, eqb, eq-eqb, ne_eqb, ◌≤◌}
use lib.Arith.{digits_div, digits_mod, mod-mul}
use Rattle.reads.proofs.Tests.{choose_true, choose_false}
use Rattle.reads.specs.Outcome.{choose}

-- A high word, after the low word became `low` by one more.
abbrev pub carried : ℕ → ℕ → ℕ
carried high low = choose (eqb low 0) ((high + 1) % 2 ^ 64) high

-- The words of a number modulo 2^128.
words_modulo : (n q r : ℕ) → n ≡ q * 2 ^ 64 + r → r < 2 ^ 64 → n % 2 ^ 128 ≡ q % 2 ^ 64 * 2 ^ 64 + r
words_modulo n q r e h =
    let parts : n % 2 ^ 128 ≡ n / 2 ^ 64 % 2 ^ 64 * 2 ^ 64 + n % 2 ^ 64 = mod-mul n {m = 2 ^ 64} {c = 2 ^ 64} (omega arith) (omega arith) in
    parts ∙ rw (e, digits_div q {m = 2 ^ 64} {r = r} h, digits_mod q {m = 2 ^ 64} {r = r} h)

-- One more: the low word does not become 0, or it does and the high word is one more.
next_low : (high low : ℕ) → high < 2 ^ 64 → low + 1 < 2 ^ 64 → high * 2 ^ 64 + (low + 1) ≡ (high * 2 ^ 64 + low + 1) % 2 ^ 128
next_low high low h g =
    ap (λ (q : ℕ). q * 2 ^ 64 + (low + 1)) (sym (mod-eq_of_lt h))
    ∙ sym (words_modulo (high * 2 ^ 64 + low + 1) high (low + 1) (omega arith) g)

next_high : (high low : ℕ) → low + 1 ≡ 2 ^ 64 → (high + 1) % 2 ^ 64 * 2 ^ 64 + 0 ≡ (high * 2 ^ 64 + low + 1) % 2 ^ 128
next_high high low g = sym (words_modulo (high * 2 ^ 64 + low + 1) (high + 1) 0 (omega arith) (omega arith))

-- The two words after one more.
pub one_more : (high low : ℕ) → high < 2 ^ 64 → low < 2 ^ 64
    → carried high ((low + 1) % 2 ^ 64) * 2 ^ 64 + (low + 1) % 2 ^ 64 ≡ (high * 2 ^ 64 + low + 1) % 2 ^ 128
one_more high low h g = go (ltb (low + 1) (2 ^ 64)) refl
  where
    go : (t : Bool) → ltb (low + 1) (2 ^ 64) ≡ t
        → carried high ((low + 1) % 2 ^ 64) * 2 ^ 64 + (low + 1) % 2 ^ 64 ≡ (high * 2 ^ 64 + low + 1) % 2 ^ 128
    go true e =
        let fits = ltb-true (low + 1) (2 ^ 64) e in
        let same : (low + 1) % 2 ^ 64 ≡ low + 1 = mod-eq_of_lt fits in
        rw (same, choose_false _ high (ne_eqb (low + 1) 0 (λ z. omega arith))) (next_low high low h fits)
    go false e =
        let full : low + 1 ≡ 2 ^ 64 = omega (arith, ltb-false (low + 1) (2 ^ 64) e) in
        let zero : (low + 1) % 2 ^ 64 ≡ 0 = rw full in
        rw (zero, choose_true _ high (eq-eqb 0 0 refl)) (next_high high low full)

-- A number of at least k that is not k is above k.
pub past_key : (k n : ℕ) → k ≤ n → (n ≡ k → ⊥) → k + 1 ≤ n
past_key k n h e = omega arith
