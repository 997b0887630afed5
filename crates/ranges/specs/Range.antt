-- Ranges of the bytes of an image's files, and the bytes that lie in them (document 02, note 13).
use Rattle.std.specs.Prelude.{ℕ, ◌+◌, Bool, false, ◌&&◌, ◌||◌, List, [], ◌∷◌, leb, ltb, eqb}

pub record Range : Type 0 where
  pub file : ℕ
  pub offset : ℕ
  pub len : ℕ

abbrev pub range : ℕ → ℕ → ℕ → Range
range file offset len = record { file = file; offset = offset; len = len }

-- Byte b of file f lies in a range.
unfoldable pub lies : Range → ℕ → ℕ → Bool
lies r f b = eqb r.file f && (leb r.offset b && ltb b (r.offset + r.len))

-- Byte b of file f lies in one of the ranges.
unfoldable pub covers : List Range → ℕ → ℕ → Bool
covers [] f b = false
covers (r ∷ rs) f b = lies r f b || covers rs f b

-- Ranges as words, three each.
unfoldable pub range_words : List Range → List ℕ
range_words [] = []
range_words (r ∷ rs) = r.file ∷ r.offset ∷ r.len ∷ range_words rs
