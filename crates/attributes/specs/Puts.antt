-- What the functions that put bytes into a buffer promise each other.
use Rattle.std.specs.Prelude.{ℕ, zero, suc, ◌+◌, ◌-◌, ◌%◌, ◌≤◌, min, ◌≡◌, List, [], ◌∷◌, length, get_or}
use Rattle.std.proofs.lemmas.List.Edits.{sets}
use Rattle.attributes.specs.Attributes.{value_of}
use Rattle.attributes.specs.Written.{Part, following, joined}
use Rattle.attributes.specs.declared.items.Item.{Item}
use Rattle.attributes.specs.declared.written.Out.{Out}

-- Bytes are put at `at` of a buffer: `to` is where they end, or would, 2^64 - 1 at most; where they fit, the buffer holds them.
pub record Put (bytes : List ℕ) (at : ℕ) (out : List ℕ) (to : ℕ) (left : List ℕ) : Type 0 where
  pub ends : to ≡ at + min (length bytes) (0xFFFFFFFFFFFFFFFF - at)
  pub holds : at + length bytes ≤ length out → left ≡ sets out at bytes
  pub same : length left ≡ length out

-- The same of a lent buffer with its place: it is the same buffer.
pub record Puts (o : Out) (bytes : List ℕ) (p : Out) : Type 0 where
  pub same : p.to.ghost_name ≡ o.to.ghost_name
  pub put : Put bytes o.at o.to.now p.at p.to.now

-- The comma behind `at` bytes: none in front of the first item.
abbrev pub comma_at : ℕ → List ℕ
comma_at zero = []
comma_at (suc at) = 0x2C ∷ []

-- The text of parts behind `at` bytes.
abbrev pub behind : ℕ → List Part → List ℕ
behind zero ps = joined ps
behind (suc at) ps = following ps

-- The item of a row.
abbrev pub item_at : List ℕ → Item
item_at row = record { key = get_or row 0 0 % 256; value = value_of (get_or row 1 0) (get_or row 2 0) }
