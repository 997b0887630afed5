-- A listing with marks, step by step (document 02, note 11): first the steps of one listing find the starts and say nothing, then those of
-- another, from its start under the same setting, say its lines with their marks. Without a possible pair the second is all.
use Rattle.std.specs.Prelude.{ℕ, Bool, true, false, List, Option, Result, is_some}
use Rattle.reads.specs.Outcome.{Outcome, value, absent, refused}
use Rattle.reads.specs.declared.answer.Question.{Question}
use Rattle.pointers.specs.Tables.{Tables}
use Rattle.pointers.specs.declared.setting.Setting.{Setting}
use Rattle.frames.specs.declared.frames.Frames.{Frames}
use Rattle.listing.specs.Listing.{State, start, Answer, says, lacks, nothing, ended, Left, listing_step}
use Rattle.listing.specs.ListingAnswer.{state_of, said_of}
use Rattle.listing.specs.declared.listing.Said.{Said}
use Rattle.marking.specs.Marked.{met_line, marked}
use Rattle.marking.specs.declared.marked_listing.MarkedListed.{MarkedListed}
use Rattle.marking.specs.declared.marked_listing.MarkedListing.{MarkedListing}

-- Whether starts are still being found, the frames with the starts met so far, and the state of the listing that is gone over.
pub record Marking : Type 0 where
  pub finding : Bool
  pub frames : Option Frames
  pub state : State

abbrev pub marking : Bool → Option Frames → State → Marking
marking finding w s = record { finding = finding; frames = w; state = s }

-- The start under a setting, for frames that have met no start.
abbrev pub marked_start : Setting → Option Frames → Marking
marked_start u w = marking (is_some w) w (start u)

-- The answer, with the state that the step hands back and the ledger as it leaves it.
pub record MarkedLeft : Type 0 where
  pub answer : Outcome Answer
  pub state : Marking
  pub ledger : List ℕ

abbrev pub marked_leaves : Outcome Answer → Marking → List ℕ → MarkedLeft
marked_leaves answer m l = record { answer = answer; state = m; ledger = l }

-- A step that finds starts, by what the listing's step answers and leaves: a line's start is met; after the last line the other listing comes.
abbrev pub finds_by : Option Frames → State → List ℕ → Outcome Answer → MarkedLeft
finds_by w s l (value (says x)) = marked_leaves (value nothing) (marking true (met_line w x) s) l
finds_by w s l (value (lacks x)) = marked_leaves (value nothing) (marking true w s) l
finds_by w s l (value nothing) = marked_leaves (value nothing) (marking true w s) l
finds_by w s l (value ended) = marked_leaves (value nothing) (marking false w (start s.setting)) l
finds_by w s l (absent r) = marked_leaves (absent r) (marking true w s) l
finds_by w s l (refused k) = marked_leaves (refused k) (marking true w s) l

abbrev pub finds : Option Frames → Left → MarkedLeft
finds w x = finds_by w x.state x.ledger x.answer

-- A step that says lines with their marks.
abbrev pub marked_answer : Option Frames → Outcome Answer → Outcome Answer
marked_answer w (value (says x)) = value (says (marked w x))
marked_answer w (value (lacks x)) = value (lacks x)
marked_answer w (value nothing) = value nothing
marked_answer w (value ended) = value ended
marked_answer w (absent r) = absent r
marked_answer w (refused k) = refused k

abbrev pub tells : Option Frames → Left → MarkedLeft
tells w x = marked_leaves (marked_answer w x.answer) (marking false w x.state) x.ledger

abbrev pub in_pass : Bool → Option Frames → Left → MarkedLeft
in_pass true w x = finds w x
in_pass false w x = tells w x

abbrev pub marked_step : Tables → Marking → List ℕ → MarkedLeft
marked_step t m l = in_pass m.finding m.frames (listing_step t m.state l)

-- What the code's listing and its answers mean.
abbrev pub marking_of : MarkedListing → Marking
marking_of m = marking m.finding m.frames (state_of m.listing)

-- The answer of a step, with the listing then and a ledger.
abbrev pub marked_left_in : MarkedListing → Result Said Question → List ℕ → MarkedLeft
marked_left_in m r l = marked_leaves (said_of r) (marking_of m) l

abbrev pub marked_left_of : MarkedListed → List ℕ → MarkedLeft
marked_left_of r l = marked_left_in r.listing r.said l
