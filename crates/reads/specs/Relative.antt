-- Signed 32-bit numbers and the addresses that they are relative to (document 01, Reading rules; util.rs, read_i32_le_at and
-- relative_pointer).
use Rattle.std.specs.Prelude.{ℕ, ◌+◌, ◌-◌, ◌*◌, ◌%◌, ◌^◌, List, length, ℤ, pos, negsuc, ◌+ℤ◌, nat_le}
use Rattle.reads.specs.Outcome.{Outcome, value, and_then}
use Rattle.reads.specs.Segment.{place_at}
use Rattle.reads.specs.Place.{le, part, readable_at, word_in}
use Rattle.reads.specs.Signed.{twos}
use Rattle.reads.specs.declared.place.Place.{Place}

-- The signed number of 32 bits.
unfoldable pub signed32 : ℕ → ℤ
signed32 n = twos (nat_le (2 ^ 31) n) n (2 ^ 32)

-- The signed number of four bytes at i bytes from a place, 0 where they do not lie in its file; and at an offset of one slice.
unfoldable pub signed_in : List (List ℕ) → Place → ℕ → ℤ
signed_in files p i = signed32 (word_in files 4 p i)

unfoldable pub signed_at : List ℕ → ℕ → Outcome ℤ
signed_at bytes offset =
    and_then (readable_at (length bytes) (place_at 0 offset) 4) (λ p. value (signed32 (le (part bytes p.offset 4))))

-- A signed number modulo 2^64; negsuc n is -1 - n.
unfoldable pub modulo64 : ℤ → ℕ
modulo64 (pos n) = n % 2 ^ 64
modulo64 (negsuc n) = 2 ^ 64 - 1 - n % 2 ^ 64

-- An address plus a signed offset, modulo 2^64.
unfoldable pub relative : ℕ → ℤ → ℕ
relative va offset = modulo64 (pos va +ℤ offset)

-- The address of slot k, of 8 bytes each, modulo 2^64.
unfoldable pub slot_address : ℕ → ℕ → ℕ
slot_address vmaddr k = (vmaddr + 8 * k) % 2 ^ 64
