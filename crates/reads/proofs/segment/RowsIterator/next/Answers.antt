use Rattle.std.proofs.Common.{rules, List, ap, length, arith}
use Rattle.reads.specs.declared.segment.Segment.{Segment}
use Rattle.reads.proofs.SegmentRows.{rows_read, rows_none}
use Rattle.reads.proofs.segment.RowsIterator.next.Goals as goal

pub returns-then-i-self-clause-steps : goal.returns-then-i-self-clause-steps
returns-then-i-self-clause-steps c = rows_read _ _ c.if-i-self.true _ c.at.ensures

pub returns-then-i-self-clause-goes : goal.returns-then-i-self-clause-goes
returns-then-i-self-clause-goes c = let fewer = ap (λ (l : List Segment). length l) (returns-then-i-self-clause-steps c) in search rules

pub returns-clause-steps : goal.returns-clause-steps
returns-clause-steps c = let none = rows_none c.args.self.now.segments.now c.args.self.now.from (omega (arith, c.if-i-self.false)) in (none, none)
