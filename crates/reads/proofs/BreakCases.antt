-- Worked examples of breakpoints, for reads of 8 bytes.
use Rattle.std.proofs.Common.{◌≡◌, ℕ, ◌-◌, ◌^◌, Bool, true, false, List, [], ◌∷◌, map, replicate, refl}
use Rattle.reads.specs.Outcome.{choose, sum64}
use Rattle.reads.specs.Files.{file_of}
use Rattle.reads.specs.Segment.{segment, rows, ends, holds, placed, lookup}
use Rattle.reads.specs.Place.{image_of, readable_at, readable}
use Rattle.reads.specs.Breaks.{can_read, readable_part, breaks, breaks_of, lower, next_break}
use Rattle.std.specs.Prelude.{Option, Some, None}

-- At each of some addresses, in an image of one file of n bytes: can they be read, and which is the next breakpoint.
abbrev seen_in : List (List ℕ) → List ℕ → List ℕ → List (Bool × (Option ℕ))
seen_in files words = map (λ va. (can_read (image_of files words) 8 va, next_break (breaks_of (image_of files words) 8) va))

abbrev seen : ℕ → List ℕ → List ℕ → List (Bool × (Option ℕ))
seen n words = seen_in (replicate n 0 ∷ []) words

-- One segment of 0x40 addresses: its file part ends at 0x20, and the image has bytes beyond it.
pub one_segment : seen 0x28 (0x1000 ∷ 0x40 ∷ 0 ∷ 0x20 ∷ 0 ∷ []) (0xFFF ∷ 0x1000 ∷ 0x101F ∷ 0x1020 ∷ 0x1040 ∷ [])
    ≡ (false, Some 0x1000) ∷ (true, Some 0x1020) ∷ (true, Some 0x1020) ∷ (false, Some 0x1040) ∷ (false, None) ∷ []
unfolding rows ends holds placed lookup sum64 readable_at file_of readable can_read readable_part breaks lower next_break choose
one_segment = refl

-- The later row has the lower addresses, and the first lies in it: from 0x2000 to 0x2010 the first decides, and the end of
-- the image leaves no 8 bytes there.
pub overlapping_segments : seen 0x40 (0x2000 ∷ 0x10 ∷ 0x3C ∷ 0x10 ∷ 0 ∷ 0x1FF0 ∷ 0x40 ∷ 0 ∷ 0x40 ∷ 0 ∷ []) (0x1FEF ∷ 0x1FF0 ∷ 0x2000 ∷ 0x2010 ∷ 0x2029 ∷ 0x2030 ∷ [])
    ≡ (false, Some 0x1FF0) ∷ (true, Some 0x2000) ∷ (false, Some 0x2010) ∷ (true, Some 0x2029) ∷ (false, Some 0x2030) ∷ (false, None) ∷ []
unfolding rows ends holds placed lookup sum64 readable_at file_of readable can_read readable_part breaks lower next_break choose
overlapping_segments = refl

-- The second row exceeds 64 bits: the third is never reached, and gives no breakpoint.
pub ended_lookup : seen 0x20 (0x1000 ∷ 0x20 ∷ 0 ∷ 0x20 ∷ 0 ∷ (2 ^ 64 - 1) ∷ 1 ∷ 0 ∷ 0 ∷ 0 ∷ 0x3000 ∷ 0x20 ∷ 0 ∷ 0x20 ∷ 0 ∷ []) (0x1000 ∷ 0x1019 ∷ 0x1020 ∷ 0x3000 ∷ [])
    ≡ (true, Some 0x1019) ∷ (false, Some 0x1020) ∷ (false, None) ∷ (false, None) ∷ []
unfolding rows ends holds placed lookup sum64 readable_at file_of readable can_read readable_part breaks lower next_break choose
ended_lookup = refl

-- Two segments of 0x40 addresses, the first in a file of 0x18 bytes, the second in one of 0x30: each part ends by its own file's length.
pub two_files_lem : seen_in (replicate 0x18 0 ∷ replicate 0x30 0 ∷ []) (0x1000 ∷ 0x40 ∷ 0 ∷ 0x40 ∷ 0 ∷ 0x2000 ∷ 0x40 ∷ 0 ∷ 0x40 ∷ 1 ∷ []) (0x1000 ∷ 0x1011 ∷ 0x2000 ∷ 0x2028 ∷ 0x2029 ∷ [])
    ≡ (true, Some 0x1011) ∷ (false, Some 0x1040) ∷ (true, Some 0x2029) ∷ (true, Some 0x2029) ∷ (false, Some 0x2040) ∷ []
unfolding rows ends holds placed lookup sum64 readable_at file_of readable can_read readable_part breaks lower next_break choose
two_files_lem = refl

-- No bytes asked of the longest file: its n + 1 places exceed 64 bits, the part does not.
pub widest_part : readable_part (2 ^ 64 - 1) 0 (segment 0 (2 ^ 64 - 1) 0 (2 ^ 64 - 1) 0) ≡ 2 ^ 64 - 1
unfolding readable_part
widest_part = refl
