-- `reads::text::skip_plain` meets its contract. The invariant: what was gone over is plain.
use Rattle.std.proofs.Common.{◌-◌, length}
use Rattle.reads.specs.Pass.{PlainTo}
use Rattle.reads.proofs.text.skip_plain.Given as goal

abbrev pub invariant-loop-read : goal.invariant-loop-read
invariant-loop-read l = PlainTo l.s l.fn.from l.read

abbrev pub decreases-loop-read : goal.decreases-loop-read
decreases-loop-read l = length l.s - l.read
