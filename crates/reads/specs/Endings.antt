-- Strings that a zero byte ends: those which both readings give alike (document 02, note 12).
use Rattle.std.specs.Prelude.{◌≡◌, ℕ, ◌<◌, ◌≤◌, List, length, ◌≢◌, slice_index}
use Rattle.reads.specs.Outcome.{value}
use Rattle.reads.specs.Files.{file_of}
use Rattle.reads.specs.Segment.{rows, lookup}
use Rattle.reads.specs.Place.{Image}
use Rattle.reads.specs.declared.place.Place.{Place}

-- A byte at an offset or behind it is 0.
abbrev pub ZeroFrom : List ℕ → ℕ → Type 0
ZeroFrom bytes offset = (i : ℕ) × (offset ≤ i) × (i < length bytes) × (slice_index bytes i ≡ 0)

-- The string at an address, if it begins at its file's end or before it, malformed or not, is ended by a zero byte. Nothing is said of address
-- 0, of one that is not mapped, and of one that leads past the file's end: no reading gives a string there.
abbrev pub StringEnds : Image → ℕ → Type 0
StringEnds m va =
    (p : Place) → (va ≢ 0) → lookup (rows m.words) va ≡ value p → p.offset ≤ length (file_of m.files p.file)
    → ZeroFrom (file_of m.files p.file) p.offset
