-- Document 01's outcome of each case of the code's answers.
use Rattle.std.specs.Prelude.{Result, Ok, Err}
use Rattle.reads.specs.Outcome.{Outcome, value, absent, refused}
use Rattle.reads.specs.declared.answer.Reason.{Reason}
use Rattle.reads.specs.declared.answer.Missing.{Missing}
use Rattle.reads.specs.declared.answer.Missing.TheVariants.{Absent, Refused}
use Rattle.reads.specs.declared.answer.Question.{Question}

abbrev pub missed : {A : Type 0} → Missing → Outcome A
missed (Absent r) = absent r
missed (Refused k) = refused k

-- What is missing, an absence for this reason.
abbrev pub missing_because : Reason → Missing → Missing
missing_because why (Absent r) = Absent why
missing_because why (Refused k) = Refused k

abbrev pub outcome : {A : Type 0} → Result A Missing → Outcome A
outcome (Ok a) = value a
outcome (Err m) = missed m

-- The same of an answer that is never absent.
abbrev pub answered : {A : Type 0} → Result A Question → Outcome A
answered (Ok a) = value a
answered (Err q) = refused q
