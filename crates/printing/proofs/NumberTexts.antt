-- Numbers as text: the fewest digits that hold a number, and a number of two words.
use Prim.Native.Nat.{ℕ, zero, suc, ◌+◌, ◌-◌, ◌*◌, ◌/◌, ◌%◌, ◌^◌, ◌≤◌, ◌<◌}
use mathlib.Core.Path.{◌≡◌, refl, sym, ap, ◌∙◌}
use mathlib.Core.Bool.{Bool, true, false}
use mathlib.Core.List.{[], ◌∷◌, ◌++◌, append-nil, append_assoc}
use native.Mathlib.Nat.{zero-add, add-zero, suc-add, add-suc, add_comm, pow-zero, pow-suc, one-mul, mul-le-mul_right, pow-le-pow_right, le-div_iff_mul-le, div-lt_iff_lt-mul, mul_assoc, lt_of_lt_of_le}
use native.Mathlib.Omega.{arith}
use lib.Dec.{leb, ltb, lit≤}
use borrow.Author.Tests.{leb-true, leb-false, lt-ltb, le-ltb}
use Rattle.io.specs.Digits.{hex_digit_ascii, last_digits, IsDigitCount}
use Rattle.reads.proofs.Tests.{choose_true, choose_false, choose_same}
use Rattle.printing.specs.Buffer.{places, hex_text, hex_word, decimal_text}

module _ (b : ℕ) (base : 1 < b) where
  positive : 0 < b
  positive = omega arith

  first_power : b ^ 1 ≡ b
  first_power = pow-suc b zero ∙ rw (pow-zero, one-mul)

  at_least : (n j : ℕ) → IsDigitCount b 1 n (suc (suc j)) → b ^ suc j ≤ n
  at_least n j f = let e : suc (suc j) - 1 ≡ suc j = omega arith in rw e at (f.2 (omega arith))

  -- A number below the base has one digit.
  one_digit : (n k : ℕ) → n < b → IsDigitCount b 1 n k → k ≡ 1
  one_digit n zero h f = absurd (omega (arith, f.0))
  one_digit n (suc zero) h f = refl
  one_digit n (suc (suc j)) h f =
      let p : b ^ 1 ≤ b ^ suc j = pow-le-pow_right positive (omega arith) in
      let q = first_power in
      absurd (omega (arith, p, q, at_least n j f, h))

  -- One that is not has one more than the number without its last digit.
  fewer_digits : (n k : ℕ) → IsDigitCount b 1 n (suc (suc k)) → IsDigitCount b 1 (n / b) (suc k)
  fewer_digits n k f = (omega arith, (div-lt_iff_lt-mul positive).1 (rw (sym (pow-suc b (suc k))) f.1), least k f)
    where
      least : (k : ℕ) → IsDigitCount b 1 n (suc (suc k)) → 1 < suc k → b ^ (suc k - 1) ≤ n / b
      least k f h = let e : suc k - 1 ≡ k = omega arith in rw e ((le-div_iff_mul-le positive).1 (rw (sym (pow-suc b k)) (at_least n k f)))

  pub fewest_places : (m n k : ℕ) → n < b ^ suc m → IsDigitCount b 1 n k → k ≡ places b m n
  unfolding places
  fewest_places zero n k h f = let q = first_power in one_digit n k (rw q at h) f
  fewest_places (suc m) n zero h f = absurd (omega (arith, f.0))
  fewest_places (suc m) n (suc zero) h f =
      let q = first_power in sym (choose_true _ _ (lt-ltb n b (omega (arith, f.1, q))))
  fewest_places (suc m) n (suc (suc j)) h f =
      let q : b ^ 1 ≤ b ^ suc j = pow-le-pow_right positive (omega arith) in
      let e = first_power in
      let less : n / b < b ^ suc m = (div-lt_iff_lt-mul positive).1 (rw (sym (pow-suc b (suc m))) h) in
      rw (choose_false {A = ℕ} 1 (suc (places b m (n / b))) (le-ltb n b (omega (arith, q, e, at_least n j f))))
      (ap suc (fewest_places m (n / b) (suc j) less (fewer_digits n j f)))

-- A number's last k digits in hex, l, and the others.
low_zero : (h l : ℕ) → l < 16 ^ 0 → h * 16 ^ 0 + l ≡ h
low_zero h l g = omega arith

others : (h k l : ℕ) → (h * 16 ^ suc k + l) / 16 ≡ h * 16 ^ k + l / 16
others h k l = rw (pow-suc 16 k, sym (mul_assoc h (16 ^ k) 16)) (omega arith)

last_digit : (h k l : ℕ) → (h * 16 ^ suc k + l) % 16 ≡ l % 16
last_digit h k l = rw (pow-suc 16 k, sym (mul_assoc h (16 ^ k) 16)) (omega arith)

low_digits : (k l : ℕ) → l < 16 ^ suc k → l / 16 < 16 ^ k
low_digits k l g = let e = pow-suc 16 k in omega (arith, e, g)

sixteen_least : (h k l : ℕ) → 0 < h → 16 ≤ h * 16 ^ suc k + l
sixteen_least h k l p =
    let q : 16 ^ 1 ≤ 16 ^ suc k = pow-le-pow_right (omega arith) {i = 1} {j = suc k} (omega arith) in
    let r : 1 * 16 ^ suc k ≤ h * 16 ^ suc k = mul-le-mul_right (16 ^ suc k) p in
    omega (arith, q, r)

places_beyond : (m k h l : ℕ) → 0 < h → l < 16 ^ k → places 16 (k + m) (h * 16 ^ k + l) ≡ k + places 16 m h
unfolding places
places_beyond m zero h l p g = rw (low_zero h l g, zero-add m, zero-add (places 16 m h))
places_beyond m (suc k) h l p g =
    let more = choose_false {A = ℕ} 1 (suc (places 16 (k + m) ((h * 16 ^ suc k + l) / 16))) (le-ltb _ 16 (sixteen_least h k l p)) in
    rw (suc-add k m, more, others h k l, suc-add k (places 16 m h)) (ap suc (places_beyond m k h (l / 16) p (low_digits k l g)))

digits_beyond : (p k h l : ℕ) → l < 16 ^ k → last_digits 16 (p + k) (h * 16 ^ k + l) ≡ last_digits 16 p h ++ last_digits 16 k l
digits_beyond p zero h l g = rw (low_zero h l g, add-zero, append-nil)
digits_beyond p (suc k) h l g =
    rw (add-suc, others h k l, last_digit h k l, digits_beyond p k h (l / 16) (low_digits k l g))
    (append_assoc (last_digits 16 p h) (last_digits 16 k (l / 16)) (hex_digit_ascii (l % 16) ∷ []))

-- More digits than a number has change nothing.
places_enough : (m j n : ℕ) → n < 16 ^ suc m → places 16 (m + j) n ≡ places 16 m n
unfolding places
places_enough zero zero n h = refl
places_enough zero (suc j) n h = rw zero-add (choose_true _ _ (lt-ltb n 16 (omega (arith, h))))
places_enough (suc m) j n h =
    rw (suc-add)
    (choose_same (λ (k : ℕ). k) {t = ltb n 16} {a = 1} {b = suc (places 16 (m + j) (n / 16))} (λ e. refl)
    (λ e. ap suc (places_enough m j (n / 16) (low_digits (suc m) n h))))

-- The text of a number of two words.
pub two_words : (h l : ℕ) → 0 < h → h < 2 ^ 64 → l < 2 ^ 64 → hex_text h ++ hex_word l ≡ hex_text (h * 2 ^ 64 + l)
unfolding hex_text hex_word
two_words h l p g f =
    let beyond : places 16 31 (h * 2 ^ 64 + l) ≡ 16 + places 16 15 h = places_beyond 15 16 h l p f in
    let enough : places 16 31 h ≡ places 16 15 h = places_enough 15 16 h g in
    rw (beyond, enough, add_comm 16 (places 16 15 h)) (sym (digits_beyond (places 16 15 h) 16 h l f))

pub zero_high : (h l : ℕ) → h ≡ 0 → hex_text l ≡ hex_text (h * 2 ^ 64 + l)
zero_high h l e = let z : l ≡ h * 2 ^ 64 + l = omega (arith, e) in ap hex_text z

-- The digits of io, by their count.
pub hex_digits : (n k : ℕ) → n < 2 ^ 64 → IsDigitCount 16 1 n k → last_digits 16 k n ≡ hex_text n
unfolding hex_text
hex_digits n k h f =
    ap (λ (j : ℕ). last_digits 16 j n)
    (fewest_places 16 (omega arith) 31 n k (lt_of_lt_of_le h (lit≤ tt)) f)

pub decimal_digits : (n k : ℕ) → n < 2 ^ 64 → IsDigitCount 10 1 n k → last_digits 10 k n ≡ decimal_text n
unfolding decimal_text
decimal_digits n k h f =
    ap (λ (j : ℕ). last_digits 10 j n)
    (fewest_places 10 (omega arith) 19 n k (omega arith) f)

pub word_digits : (n k : ℕ) → n < 2 ^ 64 → IsDigitCount 16 16 n k → last_digits 16 k n ≡ hex_word n
unfolding hex_word
word_digits n k h f = go (leb k 16) refl
  where
    go : (t : Bool) → leb k 16 ≡ t → last_digits 16 k n ≡ last_digits 16 16 n
    go true e = let same : k ≡ 16 = omega (arith, f.0, leb-true k 16 e) in ap (λ (j : ℕ). last_digits 16 j n) same
    go false e =
        let more = leb-false k 16 e in
        let p : 16 ^ 16 ≤ 16 ^ (k - 1) = pow-le-pow_right (omega arith) {i = 16} {j = k - 1} (omega (arith, more)) in
        absurd (omega (arith, p, h, f.2 more))
