-- Spots: the place of an address together with its room, so that what lies near it is read without another lookup. No definition of a record
-- or row names them: proofs/Spots.antt says that what is read near a spot is what a lookup gives.
use Rattle.std.specs.Prelude.{ℕ, ◌+◌, ◌-◌, ◌^◌, min, max, ◌||◌, List, [], ◌∷◌, length, nat_le, Option, None, Some}
use Rattle.reads.specs.Outcome.{Outcome, value, absent, and_then, choose}
use Rattle.reads.specs.declared.answer.Reason.TheVariants.{Unreadable}
use Rattle.reads.specs.Files.{file_of}
use Rattle.reads.specs.Segment.{ends, holds, mapped_size, place_at, rows}
use Rattle.reads.specs.Place.{Image, readable_at}
use Rattle.reads.specs.declared.segment.Segment.{Segment}
use Rattle.reads.specs.declared.spot.Spot.{Spot}

abbrev pub spot : ℕ → ℕ → ℕ → Spot
spot file offset room = record { place = place_at file offset; room = room }

-- How far an address lies past the segment's first one, modulo 2^64.
unfoldable pub distance : Segment → ℕ → ℕ
distance s va = choose (nat_le s.vmaddr va) (va - s.vmaddr) (2 ^ 64 + va - s.vmaddr)

-- In a segment that holds the address: its bytes in the file reach so far, the offset stays within 64 bits, and a segment before it that lies
-- `far` behind the address begins again 2^64 less that further on.
unfoldable pub spot_at : Segment → ℕ → ℕ → Option Spot
spot_at s far va =
    choose (nat_le s.filesize (va - s.vmaddr) || nat_le (2 ^ 64) (s.fileoff + (va - s.vmaddr))) None
    (Some (spot s.file (s.fileoff + (va - s.vmaddr)) (min (mapped_size s - (va - s.vmaddr)) (2 ^ 64 - max far (s.fileoff + (va - s.vmaddr))))))

-- Segments in order, as in a lookup; those passed lie at most `far` behind the address.
unfoldable pub spot_from : ℕ → List Segment → ℕ → Option Spot
spot_from far [] va = None
spot_from far (s ∷ ss) va =
    choose (ends s) None (choose (holds s va) (spot_at s far va) (spot_from (max far (distance s va)) ss va))

abbrev pub spot_in : List ℕ → ℕ → Option Spot
spot_in words va = spot_from 0 (rows words) va

-- A spot, if k bytes can be read at its place.
abbrev pub if_readable : Image → ℕ → Option Spot → Outcome Spot
if_readable m k None = absent Unreadable
if_readable m k (Some s) = and_then (readable_at (length (file_of m.files s.place.file)) s.place k) (λ p. value s)

-- The spot of an address, if k bytes can be read there: its place is theirs (proofs/Spots.antt).
unfoldable pub readable_spot : Image → ℕ → ℕ → Outcome Spot
readable_spot m va k = if_readable m k (spot_in m.words va)

-- The spot d bytes on.
abbrev pub moved : Spot → ℕ → Spot
moved s d = spot s.place.file (s.place.offset + d) (s.room - d)

-- The spot d bytes behind one, if it lies in its room and k bytes can be read there: it is that of the address d bytes on (proofs/Spots.antt).
unfoldable pub spot_behind : Image → Spot → ℕ → ℕ → Option Spot
spot_behind m s d k =
    choose (nat_le s.room d) None (choose (nat_le (s.place.offset + d + k) (length (file_of m.files s.place.file))) (Some (moved s d)) None)
