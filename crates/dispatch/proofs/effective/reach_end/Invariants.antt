use Rattle.dispatch.specs.RowsLeft.{rows_ahead}
use Rattle.dispatch.proofs.Scans.{Ending}
use Rattle.dispatch.proofs.effective.reach_end.Given as goal

abbrev pub invariant-loop-row : goal.invariant-loop-row
invariant-loop-row l = Ending (rows_ahead l.rows) l.room (rows_ahead l.row-iterator) l.left
