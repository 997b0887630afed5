-- Breakpoints: the addresses at which it may change whether bytes can be read, and the least of them above an address
-- (document 01, Steps: a search tries at most 3 x S + 1 indices).
use Rattle.std.specs.Prelude.{ℕ, ◌+◌, ◌-◌, ◌^◌, min, Bool, true, false, List, [], ◌∷◌, length, nat_lt, Option, Some, None}
use Rattle.reads.specs.Outcome.{Outcome, value, absent, refused, choose}
use Rattle.reads.specs.Files.{file_of}
use Rattle.reads.specs.Segment.{rows, ends}
use Rattle.reads.specs.Place.{Image, readable}
use Rattle.reads.specs.declared.segment.Segment.{Segment}

abbrev pub is_value : {A : Type 0} → Outcome A → Bool
is_value (value a) = true
is_value (absent r) = false
is_value (refused k) = false

-- k bytes can be read at an address.
unfoldable pub can_read : Image → ℕ → ℕ → Bool
can_read m k va = is_value (readable m va k)

-- How many of a segment's addresses, from its first on, lie in its file part and have k bytes from there on in a file of n
-- bytes, at an offset of 64 bits.
unfoldable pub readable_part : ℕ → ℕ → Segment → ℕ
readable_part n k s = min (min s.vmsize s.filesize) (min (2 ^ 64) (n + 1 - k) - s.fileoff)

-- Three for each segment before the one that ends the lookup: its first address, the end of its readable part in its own file, its end.
unfoldable pub breaks : List (List ℕ) → ℕ → List Segment → List ℕ
breaks files k [] = []
breaks files k (s ∷ ss) =
    choose (ends s) []
    (s.vmaddr ∷ (s.vmaddr + readable_part (length (file_of files s.file)) k s) ∷ (s.vmaddr + s.vmsize) ∷ breaks files k ss)

-- The breakpoints of an image, for k bytes.
abbrev pub breaks_of : Image → ℕ → List ℕ
breaks_of m k = breaks m.files k (rows m.words)

-- The lesser of b and a breakpoint, if there is one.
abbrev pub lesser : ℕ → Option ℕ → Option ℕ
lesser b None = Some b
lesser b (Some a) = Some (min b a)

-- The same if b lies above va, else only the other.
unfoldable pub lower : ℕ → Option ℕ → ℕ → Option ℕ
lower va other b = choose (nat_lt va b) (lesser b other) other

-- The least of a list above va.
unfoldable pub next_break : List ℕ → ℕ → Option ℕ
next_break [] va = None
next_break (b ∷ bs) va = lower va (next_break bs va) b

-- How many of a list lie above va.
unfoldable pub above : List ℕ → ℕ → ℕ
above [] va = 0
above (b ∷ bs) va = choose (nat_lt va b) 1 0 + above bs va
