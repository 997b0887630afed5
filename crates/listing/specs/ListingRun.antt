-- The steps of a listing, one after the other, and what demand 3 says of them: no step refuses, the steps end, and what they say and settle
-- is the plain listing.
use Rattle.std.specs.Prelude.{◌≡◌, ℕ, zero, suc, ◌-◌, ◌*◌, ◌/◌, ◌≤◌, List, [], ◌∷◌, ◌++◌, length, ◌≢◌}
use Rattle.reads.specs.Files.{longest}
use Rattle.reads.specs.Segment.{segment_words}
use Rattle.reads.specs.Table.{records}
use Rattle.reads.specs.Outcome.{Outcome, value, refused, and_then}
use Rattle.pointers.specs.Tables.{Tables, under}
use Rattle.pointers.specs.declared.setting.Setting.{Setting}
use Rattle.walks.specs.Gather.{joined, of_value}
use Rattle.walks.specs.Walk.{ReachedRow, row_reached, row_skipped, rows_finished, RowLeft, next_of}
use Rattle.listing.specs.PlainListing.{end_line, with_row, without_row, Event, event, plain_records, plain_events, plain_listing, record_line_count}
use Rattle.listing.specs.Listing.{State, Answer, start, says, lacks, nothing, ended, listing_step}
use Rattle.listing.specs.declared.at.At.{At}
use Rattle.listing.specs.declared.at.At.TheVariants as place
use Rattle.listing.specs.declared.at.FieldWalk.{FieldWalk}
use Rattle.listing.specs.declared.at.FieldWalk.TheVariants as field_walk
use Rattle.listing.specs.declared.at.Record.{Record}
use Rattle.listing.specs.declared.line.Line.{Line}
use Rattle.reads.specs.declared.answer.Question.{Question}

-- What a step over list n of a record settles: the entry whose row it gives, one before the cursor that it leaves, or the one it skips
-- and why.
abbrev pub settled_by : ℕ → ℕ → ℕ → ReachedRow → List Event
settled_by of n cursor (row_reached r) = event of n (with_row (cursor - 1)) ∷ []
settled_by of n cursor (row_skipped j r) = event of n (without_row j r) ∷ []
settled_by of n cursor rows_finished = []

-- The same by its answer: over an absent list nothing, and a number stays.
abbrev pub settled_in : ℕ → ℕ → RowLeft → Outcome (List Event)
settled_in of n x = of_value x.answer (λ a. value (settled_by of n x.walk.cursor a))

abbrev pub settled_over : Tables → ℕ → ℕ → FieldWalk → Outcome (List Event)
settled_over t of n (field_walk.Rows w) = settled_in of n (next_of t w)
settled_over t of n (field_walk.Names w) = value []

-- The settling step as an event, if the step at a place is one; r records have been said, so the record is number r - 1 from 0.
unfoldable pub events_at : Tables → ℕ → At → Outcome (List Event)
events_at t r place.Info = value []
events_at t r place.Section = value []
events_at t r (place.Record x) = value []
events_at t r (place.Ro c) = value []
events_at t r (place.List n x) = settled_over t (r - 1) n x.walk
events_at t r place.End = value []

abbrev pub events_in : Tables → State → Outcome (List Event)
events_in t s = events_at t s.records s.at

-- The line that a step says.
abbrev pub line_in : Answer → List Line
line_in (says x) = x ∷ []
line_in (lacks x) = []
line_in nothing = []
line_in ended = []

abbrev pub line_said : Outcome Answer → Outcome (List Line)
line_said o = and_then o (λ a. value (line_in a))

-- What the step at a state settles, by its answer.
abbrev pub settled_at : Tables → State → Outcome Answer → Outcome (List Event)
settled_at t s o = and_then o (λ _. events_in t s)

-- Steps, each given the state and the ledger that the last left: what step n, counted from 0, answers; and the lines and the events of the
-- first n. The number of a refused step is the outcome of both.
unfoldable pub answer_at : Tables → ℕ → State → List ℕ → Outcome Answer
answer_at t zero s l = (listing_step t s l).answer
answer_at t (suc n) s l = answer_at t n (listing_step t s l).state (listing_step t s l).ledger

unfoldable pub lines_by : Tables → ℕ → State → List ℕ → Outcome (List Line)
lines_by t zero s l = value []
lines_by t (suc n) s l =
    joined (line_said (listing_step t s l).answer) (lines_by t n (listing_step t s l).state (listing_step t s l).ledger)

unfoldable pub events_by : Tables → ℕ → State → List ℕ → Outcome (List Event)
events_by t zero s l = value []
events_by t (suc n) s l =
    joined (settled_at t s (listing_step t s l).answer) (events_by t n (listing_step t s l).state (listing_step t s l).ledger)

-- No step of a listing that began under a setting gives a number.
abbrev pub GivesNoNumber : Setting → Tables → List ℕ → Type 0
GivesNoNumber u t l = (n : ℕ) (k : Question) → answer_at t n (start u) l ≢ refused k

-- A step that no question refuses.
pub data Answered : Outcome Answer → Type 0 where
  is_said : (x : Answer) → Answered (value x)

-- From the start under a setting, with a ledger: no step refuses; from some step on each says that the listing has ended; and where one says so, the steps
-- before it have said exactly these lines and settled exactly these entries.
pub record Lists (u : Setting) (t : Tables) (l : List ℕ) (lines : List Line) (events : List Event) : Type 0 where
  pub most : ℕ
  pub answered : (n : ℕ) → Answered (answer_at t n (start u) l)
  pub ends : (n : ℕ) → most ≤ n → answer_at t n (start u) l ≡ value ended
  pub said_lines : (n : ℕ) → answer_at t n (start u) l ≡ value ended → lines_by t n (start u) l ≡ value lines
  pub settled_events : (n : ℕ) → answer_at t n (start u) l ≡ value ended → events_by t n (start u) l ≡ value events

-- Demand 3 of a listing that began under a setting, with a ledger: under that setting the plain definitions give records, lines and events, no number; the steps say the lines of the
-- plain listing, their settling steps are one for one its events, the last line is E with R and the number of settling steps, R the records, as
-- many as there are record lines; and that number is at most 6 x R x S x floor(n / 12), S the segments and n the length of the longest file.
pub record ListsWhole (u : Setting) (t : Tables) (l : List ℕ) : Type 0 where
  pub records_listed : List Record
  pub lines_before : List Line
  pub events : List Event
  pub plain_recorded : plain_records (under u t) ≡ value records_listed
  pub plain_lines : plain_listing (under u t) ≡ value (lines_before ++ (end_line (length records_listed) (length events) ∷ []))
  pub plain_settling : plain_events (under u t) ≡ value events
  pub steps : Lists u t l (lines_before ++ (end_line (length records_listed) (length events) ∷ [])) events
  pub record_lines : record_line_count lines_before ≡ length records_listed
  pub bound : length events ≤ 6 * (length records_listed * (records segment_words t.segments * (longest t.files / 12)))
