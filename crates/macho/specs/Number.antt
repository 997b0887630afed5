-- Numbers in bytes, in little-endian order: at an offset, 0 where they do not lie in the bytes.
use Rattle.std.specs.Prelude.{ℕ, List}
use Rattle.reads.specs.Place.{le_in}

abbrev pub u16_at : List ℕ → ℕ → ℕ
u16_at bytes at = le_in bytes 2 at

abbrev pub u32_at : List ℕ → ℕ → ℕ
u32_at bytes at = le_in bytes 4 at

abbrev pub u64_at : List ℕ → ℕ → ℕ
u64_at bytes at = le_in bytes 8 at
