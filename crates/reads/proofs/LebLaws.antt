-- Laws of LEB128 numbers.
use Rattle.std.proofs.Common.{◌≡◌, ℕ, suc, ◌+◌, ◌-◌, ◌*◌, ◌%◌, ◌^◌, ◌<◌, ◌≤◌, Bool, true, false, ltb, List, [], ◌∷◌, length, ℤ, negsuc, sym, refl, ap, ◌∙◌, mod-lt, zero-add, arith, to_z-of_z, w64, SFits, to_z, of_z, ltb-false, le-ltb, lt-ltb}
use native.Mathlib.Nat.{pow-succ'}
use Rattle.reads.specs.Answer.{missed, outcome}
use Rattle.reads.specs.Outcome.{Outcome, value, absent, refused, and_then, choose}
use Rattle.reads.specs.Signed.{twos}
use Rattle.reads.specs.Leb128.{digit_count, unsigned_digits, negative, signed_digits, within64, within_signed64, by_sign, magnitude, digit, leb, sleb_of}
use Rattle.reads.specs.declared.answer.Reason.TheVariants.{Unreadable, Malformed}
use Rattle.reads.specs.declared.answer.Missing.{Missing}
use Rattle.reads.specs.declared.answer.Missing.TheVariants.{Absent, Refused}
use Rattle.reads.proofs.TwosLaws.{twos_negative, twos_positive}
use Rattle.std.specs.Prelude.{Result, Ok, Err, Option, Some, None, cond, nat_lt}
use mathlib.Core.List.{◌++◌, append-nil, append_assoc}
use Rattle.std.specs.List.{position, position_from, push}
use Rattle.std.proofs.lemmas.Iterator.Adapters.{position_from-zero}

low_below : (b : ℕ) → b % 128 < 128
low_below b = mod-lt b (omega arith)

-- k digits say a number below 128^k.
pub unsigned_below : (ds : List ℕ) → unsigned_digits ds < 128 ^ length ds
unfolding unsigned_digits
unsigned_below [] = omega arith
unsigned_below (b ∷ bs) = rw (pow-succ' 128 (length bs)) (omega (arith, low_below b, unsigned_below bs))

pub digit_below : (sign : Bool) (b n : ℕ) → n ≡ digit sign b → n < 128
unfolding digit
digit_below true b n e = omega arith
digit_below false b n e = omega (arith, low_below b)

magnitude_cons : (sign : Bool) (b : ℕ) (bs : List ℕ) → magnitude sign (b ∷ bs) ≡ digit sign b + 128 * magnitude sign bs
unfolding magnitude digit unsigned_digits
magnitude_cons true b bs =
    rw (pow-succ' 128 (length bs)) (omega (arith, low_below b, unsigned_below bs))
magnitude_cons false b bs = refl

pub magnitude_nil : (sign : Bool) → magnitude sign [] ≡ 0
unfolding magnitude unsigned_digits
magnitude_nil true = refl
magnitude_nil false = refl

-- Later digits never say more than all.
magnitude_behind : (sign : Bool) (ds es : List ℕ) → magnitude sign es ≤ magnitude sign (ds ++ es)
magnitude_behind sign [] es = omega arith
magnitude_behind sign (b ∷ bs) es = omega (arith, magnitude_behind sign bs es, magnitude_cons sign b (bs ++ es))

-- n is what the digits say that were read, those behind the rest.
pub record Behind (sign : Bool) (ds rest : List ℕ) (n : ℕ) : Type 0 where
  pub seen : List ℕ
  pub all : ds ≡ rest ++ seen
  pub number : n ≡ magnitude sign seen

module _ (sign : Bool) (ds : List ℕ) where
  pub behind_start : (rest : List ℕ) → rest ≡ ds → Behind sign ds rest 0
  behind_start rest e = record { seen = []; all = sym (append-nil rest ∙ e); number = sym (magnitude_nil sign) }

  module _ (rest fewer : List ℕ) (b n : ℕ) (read : Behind sign ds rest n) (e : rest ≡ push fewer b) where
    -- One digit more.
    one_more : ds ≡ fewer ++ (b ∷ read.seen)
    one_more = read.all ∙ ap (λ xs. xs ++ read.seen) e ∙ append_assoc fewer (b ∷ []) read.seen

    pub behind_more : (d : ℕ) → d ≡ digit sign b → Behind sign ds fewer (n * 128 + d)
    behind_more d f = record { seen = b ∷ read.seen; all = one_more; number = omega (arith, read.number, f, magnitude_cons sign b read.seen) }

    -- Where the digits that were read say 2^57 or more, all say 2^64 or more.
    pub behind_over : 2 ^ 57 ≤ n → absent Malformed ≡ within64 (magnitude sign ds)
    unfolding within64 choose
    behind_over g =
        let all : magnitude sign ds ≡ magnitude sign (fewer ++ (b ∷ read.seen)) = ap (magnitude sign) one_more in
        sym (simp (le-ltb (magnitude sign ds) (2 ^ 64) (omega (arith, all, read.number, magnitude_behind sign fewer (b ∷ read.seen), magnitude_cons sign b read.seen))))

  pub behind_all : (rest : List ℕ) (n : ℕ) → Behind sign ds rest n → length rest ≡ 0 → n < 2 ^ 64 → value n ≡ within64 (magnitude sign ds)
  unfolding within64 choose
  behind_all [] n read e h =
      let m : magnitude sign ds ≡ n = ap (magnitude sign) read.all ∙ sym read.number in
      sym (rw m (simp (lt-ltb n (2 ^ 64) h)))
  behind_all (b ∷ bs) n read e h = absurd (omega arith)

-- A signed number by its sign and magnitude.
twos_by_sign : (sign : Bool) (ds : List ℕ) → twos sign (unsigned_digits ds) (128 ^ length ds) ≡ by_sign sign (magnitude sign ds)
unfolding by_sign magnitude
twos_by_sign true ds =
    let e : 128 ^ length ds - suc (unsigned_digits ds) ≡ 128 ^ length ds - 1 - unsigned_digits ds = omega arith in
    twos_negative (unsigned_digits ds) (128 ^ length ds) (unsigned_below ds) ∙ ap negsuc e
twos_by_sign false ds = twos_positive (unsigned_digits ds) (128 ^ length ds)

pub signed_by_sign : (ds : List ℕ) → signed_digits ds ≡ by_sign (negative ds) (magnitude (negative ds) ds)
unfolding signed_digits
signed_by_sign ds = twos_by_sign (negative ds) ds

value_fits : (fits : Bool) (n m : ℕ) → value m ≡ choose fits (value n) (absent Malformed) → n ≡ m
unfolding choose
value_fits true n m e = cc
value_fits false n m e = cc

missing_over : (fits : Bool) (n : ℕ) (m : Missing) → missed m ≡ choose fits (value n) (absent Malformed) → (fits ≡ false) × (m ≡ Absent Malformed)
unfolding choose
missing_over true n (Absent r) e = (cc, cc)
missing_over true n (Refused k) e = (cc, cc)
missing_over false n (Absent r) e = (refl, cc)
missing_over false n (Refused k) e = (refl, cc)

by_sign_fits : (sign : Bool) (m : ℕ) → m < 2 ^ 63 → SFits w64 (by_sign sign m)
unfolding by_sign
by_sign_fits true m h = record { sfits = h }
by_sign_fits false m h = record { sfits = h }

-- What the code has of it, in 64 bits.
pub code_by_sign : (sign : Bool) (m : ℕ) (z : ℤ) → z ≡ by_sign sign m → m < 2 ^ 63 → to_z w64 (of_z w64 z) ≡ by_sign sign m
code_by_sign sign m z e h = rw e (to_z-of_z (by_sign_fits sign m h))

within_signed : (sign : Bool) (m : ℕ) → within_signed64 (by_sign sign m) ≡ choose (ltb m (2 ^ 63)) (value (by_sign sign m)) (absent Malformed)
unfolding within_signed64 by_sign
within_signed true m = refl
within_signed false m = refl

sleb_beyond : (ds : List ℕ) → 2 ^ 63 ≤ magnitude (negative ds) ds → absent Malformed ≡ sleb_of ds
unfolding sleb_of choose
sleb_beyond ds h = simp (signed_by_sign ds, within_signed, le-ltb _ (2 ^ 63) h)

-- The signed number of digits of which the code has the magnitude.
module _ (ds : List ℕ) (w : Result ℕ Missing) (said : outcome w ≡ within64 (magnitude (negative ds) ds)) where
  magnitude_is : (m : ℕ) → w ≡ Ok m → magnitude (negative ds) ds ≡ m
  unfolding within64
  magnitude_is m g = value_fits (ltb (magnitude (negative ds) ds) (2 ^ 64)) _ m (cc (ap outcome g))

  pub sleb_fits : (m : ℕ) → w ≡ Ok m → m < 2 ^ 63 → value (leb (by_sign (negative ds) m) (length ds)) ≡ sleb_of ds
  unfolding sleb_of choose
  sleb_fits m g h = simp (signed_by_sign ds, magnitude_is m g, within_signed, lt-ltb m (2 ^ 63) h)

  pub sleb_over : (m : ℕ) → w ≡ Ok m → 2 ^ 63 ≤ m → absent Malformed ≡ sleb_of ds
  sleb_over m g h = sleb_beyond ds (rw (magnitude_is m g) h)

  pub sleb_missing : (m : Missing) → w ≡ Err m → missed m ≡ sleb_of ds
  unfolding within64
  sleb_missing m g =
      let n : ℕ = magnitude (negative ds) ds in
      let a = missing_over (ltb n (2 ^ 64)) n m (cc (ap outcome g)) in
      rw a.1 (sleb_beyond ds (omega (arith, ltb-false n (2 ^ 64) a.0)))

-- The digits of all bytes, where i bytes that are not the last digit come before.
abbrev pub shifted : ℕ → Outcome ℕ → Outcome ℕ
shifted i o = and_then o (λ k. value (i + k))

shifted_zero : (o : Outcome ℕ) → o ≡ shifted 0 o
shifted_zero (value k) = ap value (sym (zero-add k))
shifted_zero (absent r) = refl
shifted_zero (refused k) = refl

shifted_suc : (i : ℕ) (o : Outcome ℕ) → shifted i (and_then o (λ k. value (suc k))) ≡ shifted (suc i) o
shifted_suc i (value k) = ap value (omega arith)
shifted_suc i (absent r) = refl
shifted_suc i (refused k) = refl

-- The count of the digits, by where the last of them stands.
digits_by : Option ℕ → Outcome ℕ
digits_by (Some k) = value (k + 1)
digits_by None = absent Unreadable

counted_from : (i : ℕ) (bs : List ℕ) → shifted i (digit_count bs) ≡ digits_by (position_from (λ b. nat_lt b 128) i bs)
unfolding digits_by digit_count choose
counted_from i [] = refl
counted_from i (b ∷ bs) =
    let e : suc i ≡ i + 1 = omega arith in
    go (nat_lt b 128) (shifted_suc i (digit_count bs) ∙ ap (λ n. shifted n (digit_count bs)) e ∙ counted_from (i + 1) bs)
  where
    go : (t : Bool) → shifted i (and_then (digit_count bs) (λ k. value (suc k))) ≡ digits_by (position_from (λ x. nat_lt x 128) (i + 1) bs)
        → shifted i (choose t (value 1) (and_then (digit_count bs) (λ k. value (suc k)))) ≡ digits_by (cond t (Some i) (position_from (λ x. nat_lt x 128) (i + 1) bs))
    go true later = refl
    go false later = later

module _ (bs : List ℕ) (r : Option ℕ) (e : r ≡ position (λ b. nat_lt b 128) bs) where
  counted : digit_count bs ≡ digits_by r
  counted = shifted_zero (digit_count bs) ∙ counted_from 0 bs ∙ ap digits_by (sym (position_from-zero (λ b. nat_lt b 128) bs) ∙ sym e)

  pub counted_last : (k : ℕ) → r ≡ Some k → value (k + 1) ≡ digit_count bs
  unfolding digits_by
  counted_last k g = sym (counted ∙ ap digits_by g)

  pub counted_none : r ≡ None → absent Unreadable ≡ digit_count bs
  unfolding digits_by
  counted_none g = sym (counted ∙ ap digits_by g)

count_bounds : (bs : List ℕ) (k : ℕ) → digit_count bs ≡ value k → (0 < k) × (k ≤ length bs)
unfolding digit_count choose
count_bounds [] k e = let z : ◌≡◌ {A = ℕ} 0 1 = cc in absurd (omega arith)
count_bounds (b ∷ bs) k e = go (count_bounds bs) (ltb b 128) refl (digit_count bs) refl
  where
    go : ((j : ℕ) → digit_count bs ≡ value j → (0 < j) × (j ≤ length bs))
        → (t : Bool) → ltb b 128 ≡ t → (o : Outcome ℕ) → digit_count bs ≡ o → (0 < k) × (k ≤ length (b ∷ bs))
    go rest true t o d =
        let g : value 1 ≡ value k = rw t at e in
        let one : 1 ≡ k = cc in
        (omega arith, omega arith)
    go rest false t (value j) d =
        let g : value (suc j) ≡ value k = rw (t, d) at e in
        let more : suc j ≡ k = cc in
        (omega arith, omega (arith, rest j d))
    go rest false t (absent r) d =
        let g : absent r ≡ value k = rw (t, d) at e in
        let z : ◌≡◌ {A = ℕ} 0 1 = cc in
        absurd (omega arith)
    go rest false t (refused j) d =
        let g : refused j ≡ value k = rw (t, d) at e in
        let z : ◌≡◌ {A = ℕ} 0 1 = cc in
        absurd (omega arith)

-- There is a digit, and the digits are among the bytes.
pub digit_count_bounds : (w : Result ℕ Missing) (bs : List ℕ) (k : ℕ) → outcome w ≡ digit_count bs → w ≡ Ok k
    → (0 < k) × (k ≤ length bs)
digit_count_bounds w bs k e g = count_bounds bs k (cc (ap outcome g))
