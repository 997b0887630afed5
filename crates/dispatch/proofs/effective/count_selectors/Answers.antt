use mathlib.Core.Path.{refl}
use native.Mathlib.Omega.{arith}
use Rattle.std.proofs.Common.{ap, ◌∙◌}
use Rattle.dispatch.specs.RowsLeft.{reached_left}
use Rattle.dispatch.proofs.Places.{rows_ordered}
use Rattle.dispatch.proofs.Scans.{noting_start, counting_row, counting_all, counting_least, noting_all}
use Rattle.dispatch.proofs.effective.count_selectors.Goals as goal

pub loop-b-init : goal.loop-b-init
loop-b-init c = (noting_start _ _ _ (rows_ordered c.args.rows.now) (ap reached_left c.into_iter-b-iterator.ensures.into_iter_gives ∙ c.reachable-b-items.ensures), refl)

pub returns-then-table : goal.returns-then-table
returns-then-table c = counting_least _ _ _ c.loop-b.invariant.0

pub loop-b-preserved : goal.loop-b-preserved
loop-b-preserved c = (
  counting_row _ _ _ c.loop-b.invariant.0 c.in-Some.ensures.steps (omega (arith, c.if-table.false)) (rw c.files-files.ensures at c.note.ensures.noted),
  c.note.ensures.kept.words ∙ c.loop-b.invariant.1,
)

pub returns : goal.returns
returns c = counting_all _ _ _ (noting_all _ _ _ c.loop-b.invariant.0 c.in-None.ensures.steps.0)
