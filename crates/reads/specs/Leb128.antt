-- LEB128 numbers (DWARF 5, section 7.6): digits of seven bits, the least first, bit 7 set in every digit but the last.
use Rattle.std.specs.Prelude.{ℕ, suc, ◌+◌, ◌-◌, ◌*◌, ◌/◌, ◌%◌, ◌^◌, Bool, true, false, List, [], ◌∷◌, length, take, ℤ, pos, negsuc, ◌==◌, nat_lt, slice_index}
use Rattle.reads.specs.Outcome.{Outcome, value, absent, and_then, choose}
use Rattle.reads.specs.Signed.{twos}
use Rattle.reads.specs.declared.answer.Reason.TheVariants.{Unreadable, Malformed}
use Rattle.reads.specs.declared.leb128.Leb.{Leb}

-- A number, and how many bytes it took.
abbrev pub leb : {A : Type 0} → A → ℕ → Leb A
leb n consumed = record { value = n; consumed = consumed }

-- How many digits there are: the bytes up to and including the first below 0x80; where there is none the last cannot be read.
unfoldable pub digit_count : List ℕ → Outcome ℕ
digit_count [] = absent Unreadable
digit_count (b ∷ bs) = choose (nat_lt b 128) (value 1) (and_then (digit_count bs) (λ k. value (suc k)))

-- The number that digits say: the sum of (b_i % 128) * 128^i.
unfoldable pub unsigned_digits : List ℕ → ℕ
unsigned_digits [] = 0
unsigned_digits (b ∷ bs) = b % 128 + 128 * unsigned_digits bs

-- Bit 6 of the last digit is the sign.
unfoldable pub negative : List ℕ → Bool
negative ds = slice_index ds (length ds - 1) / 64 % 2 == 1

-- The signed number that k digits say: the same sum, less 128^k where it is negative.
unfoldable pub signed_digits : List ℕ → ℤ
signed_digits ds = twos (negative ds) (unsigned_digits ds) (128 ^ length ds)

-- A number, absent at 2^64 and above.
unfoldable pub within64 : ℕ → Outcome ℕ
within64 n = choose (nat_lt n (2 ^ 64)) (value n) (absent Malformed)

-- A signed number, absent outside -2^63 .. 2^63 - 1; negsuc n is -1 - n.
unfoldable pub within_signed64 : ℤ → Outcome ℤ
within_signed64 (pos n) = choose (nat_lt n (2 ^ 63)) (value (pos n)) (absent Malformed)
within_signed64 (negsuc n) = choose (nat_lt n (2 ^ 63)) (value (negsuc n)) (absent Malformed)

unfoldable pub uleb_of : List ℕ → Outcome (Leb ℕ)
uleb_of ds = and_then (within64 (unsigned_digits ds)) (λ n. value (leb n (length ds)))

unfoldable pub sleb_of : List ℕ → Outcome (Leb ℤ)
sleb_of ds = and_then (within_signed64 (signed_digits ds)) (λ z. value (leb z (length ds)))

-- Unsigned LEB128: the number that the digits say and how many there are, absent where it needs more than 64 bits.
unfoldable pub uleb128 : List ℕ → Outcome (Leb ℕ)
uleb128 bytes = and_then (digit_count bytes) (λ k. uleb_of (take k bytes))

-- Signed LEB128, likewise.
unfoldable pub sleb128 : List ℕ → Outcome (Leb ℤ)
sleb128 bytes = and_then (digit_count bytes) (λ k. sleb_of (take k bytes))

-- The code splits a signed number into its sign and m: it is -1 - m or m.
unfoldable pub by_sign : Bool → ℕ → ℤ
by_sign true m = negsuc m
by_sign false m = pos m

unfoldable pub magnitude : Bool → List ℕ → ℕ
magnitude true ds = 128 ^ length ds - 1 - unsigned_digits ds
magnitude false ds = unsigned_digits ds

-- What a digit adds to it.
unfoldable pub digit : Bool → ℕ → ℕ
digit true b = 127 - b % 128
digit false b = b % 128
