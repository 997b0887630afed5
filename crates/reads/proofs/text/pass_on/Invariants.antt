-- `reads::text::pass_on` meets its contract. The invariant: b is the byte at its offset, and what is left of the text there decides the
-- verdict, and is as long less what was read.
use Rattle.std.proofs.Common.{◌≡◌, ◌-◌, true, [], length}
use Rattle.reads.specs.Pass.{byte_after}
use Rattle.reads.proofs.Passes.{Left}
use Rattle.reads.proofs.text.pass_on.Given as goal

abbrev pub invariant-loop-b : goal.invariant-loop-b
invariant-loop-b l = (l.b ≡ byte_after l.s l.b.at) × Left true l.s [] l.b.at

abbrev pub decreases-loop-b : goal.decreases-loop-b
decreases-loop-b l = length l.s - l.b.at
