use Rattle.std.proofs.Common.{arith}
use Rattle.reads.proofs.LebLaws.{behind_over, behind_all}
use Rattle.reads.proofs.leb128.magnitude.Goals as goal

pub returns-then-n-ge144115188075855872 : goal.returns-then-n-ge144115188075855872
returns-then-n-ge144115188075855872 c = behind_over c.args.negative c.args.digits.now _ _ c.in-Some.b.now c.loop-b.n c.loop-b.invariant c.in-Some.ensures.steps (omega arith)

pub returns : goal.returns
returns c = behind_all c.args.negative c.args.digits.now _ c.loop-b.n c.loop-b.invariant c.in-None.ensures.steps.0 (omega arith)
