-- A sheet beside the tables that are read, with the bytes noted on it that a definition uses.
use Rattle.std.specs.Prelude.{List}
use Rattle.reads.specs.Outcome.{Outcome}
use Rattle.records.specs.Decode.{Decode, run}
use Rattle.ranges.specs.Range.{Range}
use Rattle.ranges.specs.Sheet.{noted_all}
use Rattle.used.specs.Used.{used}
use Rattle.usage.specs.declared.noting.Noting.{Noting}

-- The same tables and sheet, with some ranges noted.
abbrev pub noted_on : List Range → Noting → Noting
noted_on rs n = record n { sheet = record (n.sheet) { now = noted_all rs n.sheet.now } }

-- With the bytes noted that a definition uses.
unfoldable pub noting : {A : Type 0} → Decode A → Noting → Noting
noting d n = noted_on (used n.tables.now d) n

-- The same, and what the definition gives.
pub record Traced (A : Type 0) : Type 0 where
  pub outcome : Outcome A
  pub noting : Noting

abbrev pub traced : {A : Type 0} → Outcome A → Noting → Traced A
traced o n = record { outcome = o; noting = n }

abbrev pub trace : {A : Type 0} → Decode A → Noting → Traced A
trace d n = traced (run n.tables.now d) (noting d n)
