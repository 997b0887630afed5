-- When a declared property that is written out and decoded again is the same (note 1).
use Rattle.std.specs.Prelude.{ℕ, ◌%◌, ◌<◌, ◌≡◌, false, List, [], ◌∷◌, length, take}
use Rattle.reads.specs.Outcome.{value}
use Rattle.attributes.specs.Attributes.{quotes, splits}
use Rattle.attributes.specs.Property.{letters, among, declared_of, unknown_left}
use Rattle.attributes.specs.Written.{Part, Declaration, declaration_in, in_order, items_in, written_of, written_left}
use Rattle.attributes.specs.declared.property.Declared.{Declared}

-- Double quotes only in pairs, and no comma outside them.
pub record Closed (v : List ℕ) : Type 0 where
  pub pairs : quotes v % 2 ≡ 0
  pub commas : (p : ℕ) → p < length v → splits v p ≡ false

-- A condition on each of some parts.
abbrev pub Each : (Part → Type 0) → List Part → Type 0
Each P [] = Unit {0}
Each P (p ∷ ps) = P p × Each P ps

-- The conditions of note 1: values hold double quotes only in pairs and no comma outside them, and unknown letters are ASCII. That
-- no unknown letter is a comma, which the note asks too, is not needed.
pub record Writable (d : Declaration) : Type 0 where
  pub closed : Each (λ p. Closed p.value) (in_order d)
  pub ascii : Each (λ p. p.key < 0x80) d.unknown

-- What holds of every decoded property: a place for each front letter, and no unknown letter among Apple's.
pub record Shaped (d : Declaration) : Type 0 where
  pub front : length d.front ≡ 11
  pub unknown : Each (λ p. among letters p.key ≡ false) d.unknown

-- The property d that decode_attributes gave of a text, with the rows that it left in a buffer.
unfoldable pub decoded_as : List ℕ → List ℕ → Declared → Declaration
decoded_as text buffer d = declaration_in text d (items_in d.unknown_count (unknown_left text buffer))

-- The n bytes that write_attributes, lent the same text and rows, left in front of another buffer.
unfoldable pub written_by : List ℕ → List ℕ → Declared → List ℕ → ℕ → List ℕ
written_by text buffer d out n = take n (written_left text d (unknown_left text buffer) out)

-- decode_attributes gave d, and write_attributes then n.
pub record Rewritten (text buffer : List ℕ) (d : Declared) (out : List ℕ) (n : ℕ) : Type 0 where
  pub decoded : declared_of text (length buffer) ≡ value d
  pub wrote : written_of text d (unknown_left text buffer) (length out) ≡ value n

-- Of a text with a buffer decode_attributes gives a property, and it is r.
pub record DecodesTo (text buffer : List ℕ) (r : Declaration) : Type 0 where
  pub given : Declared
  pub decoded : declared_of text (length buffer) ≡ value given
  pub same : decoded_as text buffer given ≡ r
