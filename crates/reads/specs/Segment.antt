-- The segment table and the lookup of an address (document 01, Reading rules, first point; document 02, note 6; util.rs,
-- vm_to_file_offset_in).
use Rattle.std.specs.Prelude.{ℕ, ◌+◌, ◌-◌, ◌^◌, min, Bool, ◌&&◌, List, [], ◌∷◌, ◌==◌, nat_le, nat_lt}
use Rattle.reads.specs.Outcome.{Outcome, value, absent, and_then, because, choose, sum64}
use Rattle.reads.specs.Table.{records, word_of, tabulate}
use Rattle.reads.specs.declared.answer.Reason.TheVariants.{Unmapped}
use Rattle.reads.specs.declared.place.Place.{Place}
use Rattle.reads.specs.declared.segment.Segment.{Segment}
use Rattle.reads.specs.declared.segment.Rows.{Rows}

abbrev pub segment : ℕ → ℕ → ℕ → ℕ → ℕ → Segment
segment a b c d f = record { vmaddr = a; vmsize = b; fileoff = c; filesize = d; file = f }

-- The words of a segment.
abbrev pub segment_words : ℕ
segment_words = 5

-- Row i of the table.
abbrev pub segment_at : List ℕ → ℕ → Segment
segment_at ws i =
    segment (word_of segment_words ws i 0) (word_of segment_words ws i 1) (word_of segment_words ws i 2) (word_of segment_words ws i 3)
    (word_of segment_words ws i 4)

-- The rows of the table, in order.
unfoldable pub rows : List ℕ → List Segment
unfolding tabulate
rows ws = tabulate (segment_at ws) 0 (records segment_words ws)

-- Those that are left to an iterator over them.
abbrev pub rows_left : Rows → List Segment
rows_left r = tabulate (segment_at r.segments.now) r.from (records segment_words r.segments.now - r.from)

-- vmaddr + vmsize exceeds 64 bits.
unfoldable pub ends : Segment → Bool
ends s = nat_le (2 ^ 64) (s.vmaddr + s.vmsize)

-- filesize is above 0, and the address is in [vmaddr, vmaddr + vmsize).
unfoldable pub holds : Segment → ℕ → Bool
holds s va = nat_lt 0 s.filesize && (nat_le s.vmaddr va && nat_lt va (s.vmaddr + s.vmsize))

abbrev pub place_at : ℕ → ℕ → Place
place_at file offset = record { file = file; offset = offset }

-- Absent if the distance from vmaddr is at least filesize, else fileoff + distance in the segment's file, absent over 64 bits. A lookup
-- that is absent is Unmapped, whatever ends it.
unfoldable pub placed : Segment → ℕ → Outcome Place
placed s va =
    choose (nat_le s.filesize (va - s.vmaddr)) (absent Unmapped)
    (and_then (because Unmapped (sum64 s.fileoff (va - s.vmaddr))) (λ offset. value (place_at s.file offset)))

-- Segments in order: one that exceeds 64 bits ends the lookup, the first that holds the address decides.
unfoldable pub lookup : List Segment → ℕ → Outcome Place
lookup [] va = absent Unmapped
lookup (s ∷ ss) va = choose (ends s) (absent Unmapped) (choose (holds s va) (placed s va) (lookup ss va))

-- How many bytes of the file are mapped, from fileoff to vmaddr on.
unfoldable pub mapped_size : Segment → ℕ
mapped_size s = min s.filesize s.vmsize

-- fileoff and what is mapped from there exceed 64 bits.
unfoldable pub ends_in_file : Segment → Bool
ends_in_file s = nat_le (2 ^ 64) (s.fileoff + mapped_size s)

-- The file is the segment's, and the offset is among the bytes mapped from it.
unfoldable pub carries : Segment → ℕ → ℕ → Bool
carries s file offset = s.file == file && (nat_le s.fileoff offset && nat_lt offset (s.fileoff + mapped_size s))

-- The address of an offset of a file (util.rs, file_offset_to_vm_in): segments in order, one of any file that exceeds 64 bits ends, the
-- first that maps the offset decides.
unfoldable pub address_of : List Segment → ℕ → ℕ → Outcome ℕ
address_of [] file offset = absent Unmapped
address_of (s ∷ ss) file offset =
    choose (ends_in_file s) (absent Unmapped)
    (choose (carries s file offset) (because Unmapped (sum64 s.vmaddr (offset - s.fileoff))) (address_of ss file offset))
