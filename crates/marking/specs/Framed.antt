-- Opening an image whose methods are to be marked (document 02, note 11): opening's questions, then 23 of the ranges; then the index is written.
use Rattle.std.specs.Prelude.{ℕ, List, Option}
use Rattle.reads.specs.Outcome.{Outcome, value, and_then}
use Rattle.pointers.specs.ImageInfo.{image_info}
use Rattle.pointers.specs.Open.{asked_opening, left_by, opened_index}
use Rattle.pointers.specs.Tables.{Tables}
use Rattle.pointers.specs.declared.imageinfo.ImageInfo.{ImageInfo}
use Rattle.frames.specs.Marks.{frames_of}
use Rattle.frames.specs.declared.frames.Frames.{Frames}
use Rattle.frames.specs.declared.frames.Ranges.{Ranges}
use Rattle.marking.specs.declared.framed.Framed.{Framed}

-- Document 01's outcome of each case of the code's answer.
-- The image info of what opening gave, with frames.
abbrev pub with_frames : Option Frames → Outcome ImageInfo → Outcome Framed
with_frames w o = and_then o (λ info. value (record { info = info; frames = w }))

-- Opening's questions, then 23.
unfoldable pub framed_opening : Option Ranges → Tables → Outcome Framed
framed_opening x t = and_then (asked_opening t) (λ _. and_then (frames_of x) (λ w. with_frames w (image_info t.info)))

-- What is left of the index; with a number, 23 too, it is as it was.
unfoldable pub framed_index : Option Ranges → Tables → List ℕ
framed_index x t = left_by (frames_of x) (opened_index t) t.index
