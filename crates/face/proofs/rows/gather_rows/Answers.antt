use mathlib.Core.Path.{◌∙◌}
use native.Mathlib.Omega.{arith}
use Rattle.face.proofs.RowLaws.{gather_start, gather_all, gather_ends, gather_on}
use Rattle.face.proofs.rows.gather_rows.Goals as goal

pub loop-n-init : goal.loop-n-init
loop-n-init c = gather_start _ _ _ _

pub returns-in-Err : goal.returns-in-Err
returns-in-Err c =
    gather_ends _ _ _ _ _ c.next-turn.ensures (omega arith) c.in-Err.is ∙ c.loop-n.invariant

pub loop-n-preserved : goal.loop-n-preserved
loop-n-preserved c = rw c.put_row.ensures (gather_on _ _ _ _ _ c.next-turn.ensures (omega arith) c.in-Ok.is ∙ c.loop-n.invariant)

pub returns : goal.returns
returns c = rw c.of.ensures (gather_all _ _ _ _ (omega arith) ∙ c.loop-n.invariant)
