-- `reads::text::broken` meets its contract. The invariant: b is the byte at its offset, and what is left of the text there is as long less
-- what was read.
use Rattle.std.proofs.Common.{◌-◌, length}
use Rattle.reads.proofs.Texts.{Ahead}
use Rattle.reads.proofs.text.broken.Given as goal

abbrev pub invariant-loop-b : goal.invariant-loop-b
invariant-loop-b l = Ahead l.s l.bad.at l.b

abbrev pub decreases-loop-b : goal.decreases-loop-b
decreases-loop-b l = length l.s - l.b.at
