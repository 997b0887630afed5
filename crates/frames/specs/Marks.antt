-- Marks as they are computed (document 02, note 11): the possible unslid addresses are all from a lowest to a highest, and of the starts met only
-- the greatest at or before each of these two is kept, its floor.
use Rattle.std.specs.Prelude.{ℕ, ◌-◌, Bool, false, ◌&&◌, leb, ltb, eqb, Option, None, Some}
use mathlib.Core.List.{List, foldl}
use Rattle.reads.specs.Outcome.{Outcome, value, refused, choose}
use Rattle.frames.specs.declared.frames.Mark.{Mark}
use Rattle.frames.specs.declared.frames.Mark.TheVariants.{Unmarked, Marked, Certain}
use Rattle.frames.specs.declared.frames.Ranges.{Ranges}
use Rattle.frames.specs.declared.frames.Frames.{Frames}
use Rattle.reads.specs.declared.answer.Question.TheVariants.{RangeOrder}

-- 23: a range whose first end exceeds its second.
unfoldable pub in_order : Ranges → Bool
in_order x = leb x.first_frame x.last_frame && leb x.first_slide x.last_slide

-- Some pair is not below zero.
abbrev pub any_pair : Ranges → Bool
any_pair x = leb x.first_slide x.last_frame

-- The lowest and the highest possible unslid address: the first frame less the last slide, or 0 where that is below zero, and the last frame
-- less the first slide.
abbrev pub lowest : Ranges → ℕ
lowest x = x.first_frame - x.last_slide

abbrev pub highest : Ranges → ℕ
highest x = x.last_frame - x.first_slide

-- The possible unslid addresses, before any start is met; none where each pair is below zero.
unfoldable pub addresses : Ranges → Option Frames
addresses x =
    choose (any_pair x) (Some (record { low = lowest x; high = highest x; low_floor = None; high_floor = None })) None

-- Of the ranges that are given, if any are.
unfoldable pub frames_of : Option Ranges → Outcome (Option Frames)
frames_of None = value None
frames_of (Some x) = choose (in_order x) (value (addresses x)) (refused RangeOrder)

-- The greater of a floor and a start.
abbrev pub later : Option ℕ → ℕ → Option ℕ
later None start = Some start
later (Some a) start = choose (ltb a start) (Some start) (Some a)

-- One more start, which counts if it is at or before the limit.
unfoldable pub raised : ℕ → Option ℕ → ℕ → Option ℕ
raised limit f start = choose (leb start limit) (later f start) f

-- A start is met.
unfoldable pub met_in : Frames → ℕ → Frames
met_in w start =
    record {
      low = w.low;
      high = w.high;
      low_floor = raised w.low w.low_floor start;
      high_floor = raised w.high w.high_floor start;
    }

abbrev pub met : Option Frames → ℕ → Option Frames
met None start = None
met (Some w) start = Some (met_in w start)

-- Starts are met, one after the other.
abbrev pub met_all : Option Frames → List ℕ → Option Frames
met_all w starts = foldl met w starts

abbrev pub is_at : Option ℕ → ℕ → Bool
is_at None start = false
is_at (Some a) start = eqb a start

-- The mark of a start, once all starts are met.
unfoldable pub mark_in : Frames → ℕ → Mark
mark_in w start =
    choose (ltb w.high start) Unmarked
    (choose (ltb w.low start) Marked
    (choose (is_at w.high_floor start) Certain
    (choose (is_at w.low_floor start) Marked Unmarked)))

-- Without a possible address nothing is marked.
abbrev pub mark_of : Option Frames → ℕ → Mark
mark_of None start = Unmarked
mark_of (Some w) start = mark_in w start

-- The number that a mark is printed as.
abbrev pub mark_number : Mark → ℕ
mark_number Unmarked = 0
mark_number Marked = 1
mark_number Certain = 2
