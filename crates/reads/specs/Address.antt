-- Pointers and their masks (document 01, Reading rules and Class; ptrauth.rs, class.rs). Each mask is written as the
-- arithmetic that it does; proofs/Masks.antt shows that each is the mask that document 01 prints.
use Rattle.std.specs.Prelude.{ℕ, ◌+◌, ◌*◌, ◌/◌, ◌%◌, ◌^◌, List}
use Rattle.reads.specs.Outcome.{Outcome, value, and_then, because, or_else, nonzero}
use Rattle.reads.specs.Segment.{rows, lookup}
use Rattle.reads.specs.declared.answer.Reason.TheVariants.{NoData}

-- & 0x0000FFFFFFFFFFFF: the low 48 bits.
unfoldable pub stripped : ℕ → ℕ
stripped raw = raw % 2 ^ 48

-- & 0x0F007FFFFFFFFFF8: bits 3 to 46 and 56 to 59.
unfoldable pub data_arm64e : ℕ → ℕ
data_arm64e w = w / 2 ^ 56 % 2 ^ 4 * 2 ^ 56 + w / 2 ^ 3 % 2 ^ 44 * 2 ^ 3

-- & 0x0000007FFFFFFFF8: bits 3 to 38.
unfoldable pub data64 : ℕ → ℕ
data64 w = w / 2 ^ 3 % 2 ^ 36 * 2 ^ 3

-- An address that looks up.
unfoldable pub mapped : List ℕ → ℕ → Outcome ℕ
mapped words va = and_then (lookup (rows words) va) (λ p. value va)

-- The pick of a word (document 01, Class): the wide mask if it is nonzero and looks up, else the other if nonzero, else absent: no data.
unfoldable pub picked_wide : List ℕ → ℕ → Outcome ℕ
picked_wide words w = and_then (nonzero (data_arm64e w)) (mapped words)

abbrev pub picked_either : List ℕ → ℕ → Outcome ℕ
picked_either words w = or_else (picked_wide words w) (nonzero (data64 w))

unfoldable pub picked : List ℕ → ℕ → Outcome ℕ
picked words w = because NoData (picked_either words w)
