use Rattle.std.proofs.Common.{rules}
use Rattle.dispatch.proofs.Scans.{ending_row, ending_end}
use Rattle.dispatch.proofs.effective.reach_end.Goals as goal

pub loop-row-preserved : goal.loop-row-preserved
loop-row-preserved c = ending_row c.loop-row.row-iterator c.loop-row.invariant c.next.new.self c.in-Some.ensures.steps c.in_ok-row.was c.and_then-left.ensures (λ x p n e. search rules)

pub returns : goal.returns
returns c = ending_end c.loop-row.row-iterator c.loop-row.invariant c.in-None.ensures.steps.0 c.is_some.ensures
