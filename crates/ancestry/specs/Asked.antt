-- Whether what was asked says yes.
use Rattle.std.specs.Prelude.{Bool, true, false}
use Rattle.reads.specs.Outcome.{Outcome, value, absent, refused}

abbrev pub passes : Outcome (Unit {0}) → Bool
passes (value u) = true
passes (absent why) = false
passes (refused k) = false
