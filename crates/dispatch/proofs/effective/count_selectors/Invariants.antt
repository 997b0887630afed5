use mathlib.Core.Path.{◌≡◌}
use Rattle.dispatch.specs.RowsLeft.{rows_ahead, files_in, reached_left}
use Rattle.dispatch.proofs.Scans.{Noting}
use Rattle.dispatch.proofs.effective.count_selectors.Given as goal

abbrev pub invariant-loop-b : goal.invariant-loop-b
invariant-loop-b l =
    Noting (files_in l.rows) (rows_ahead l.rows).rows l.fn.scratch (reached_left l.b-iterator) l.table.count l.table.words.now × (l.table.words.ghost_name ≡ l.initial.table.words.ghost_name)
