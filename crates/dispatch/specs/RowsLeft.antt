-- What the iterators over the rows have left.
use Rattle.std.specs.Prelude.{ℕ, ◌+◌, ◌≡◌, List, length, Option, None, Some, Result, Ok, Err}
use Rattle.std.specs.Iterator.{Count, at_most}
use Rattle.reads.specs.Outcome.{Outcome, value, absent, refused}
use Rattle.reads.specs.declared.answer.Question.{Question}
use Rattle.pointers.specs.Tables.{Tables}
use Rattle.dispatch.specs.declared.sources.Side.{Side}
use Rattle.dispatch.specs.declared.rows.Appearance.{Appearance}
use Rattle.dispatch.specs.declared.rows.Position.{Position}
use Rattle.dispatch.specs.declared.rows.RowsOf.{RowsOf}
use Rattle.dispatch.specs.declared.rows.Reachable.{Reachable}
use Rattle.dispatch.specs.Appearances.{Rows, ended, refusing, also}
use Rattle.dispatch.specs.Position.{ahead}

-- All rows from a position on, none where there is no position.
abbrev pub from_place : Tables → Side → ℕ → Option Position → Rows
from_place t s class (Some p) = ahead t s class p
from_place t s class None = ended

abbrev pub rows_ahead : RowsOf → Rows
rows_ahead w = from_place w.of.tables.now w.of.side w.of.class w.at

abbrev pub files_in : RowsOf → List (List ℕ)
files_in w = w.of.tables.now.files

-- What is given next: a row, or the question that refuses, which is the last; nothing at the end.
abbrev pub GivesNext : RowsOf → Option (Result Appearance Question) → RowsOf → Type 0
GivesNext w (Some (Ok a)) x = rows_ahead w ≡ also a (rows_ahead x)
GivesNext w (Some (Err k)) x = (rows_ahead w ≡ refusing k) × (rows_ahead x ≡ ended)
GivesNext w None x = (rows_ahead w ≡ ended) × (rows_ahead x ≡ ended)

-- How many come: each row, and the question that refuses.
abbrev pub refusals : Outcome (Unit {0}) → ℕ
refusals (value u) = 0
refusals (absent why) = 0
refusals (refused k) = 1

abbrev pub count_ahead : RowsOf → Count
count_ahead w = at_most (length (rows_ahead w).rows + refusals (rows_ahead w).end)

-- The rows that can be reached.
abbrev pub reached_left : Reachable → List Appearance
reached_left w = (rows_ahead w.rows).rows
