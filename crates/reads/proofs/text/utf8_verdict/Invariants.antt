-- `reads::text::utf8_verdict` meets its contract. The invariant: what is left decides the verdict.
use Rattle.std.proofs.Common.{◌-◌, false, [], length}
use Rattle.reads.proofs.Passes.{Left}
use Rattle.reads.proofs.text.utf8_verdict.Given as goal

abbrev pub invariant-loop-read : goal.invariant-loop-read
invariant-loop-read l = Left false l.s [] l.read

abbrev pub decreases-loop-read : goal.decreases-loop-read
decreases-loop-read l = length l.s - l.read
