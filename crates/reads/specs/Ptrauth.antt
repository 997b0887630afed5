-- The keys that sign a pointer (ARMv8.3; ptrauth.rs).
use Rattle.std.specs.Prelude.{ℕ, ◌%◌, List, [], ◌∷◌, slice_index_or}
use Rattle.reads.specs.declared.ptrauth.PacKey.{PacKey}
use Rattle.reads.specs.declared.ptrauth.PacKey.TheVariants.{IA, IB, DA, DB}

-- The keys in the order of their numbers (fixup-chains.h, the field `key` of two bits).
abbrev pub keys : List PacKey
keys = IA ∷ IB ∷ DA ∷ DB ∷ []

unfoldable pub key_of : ℕ → PacKey
key_of bits = slice_index_or keys (bits % 4) IA
