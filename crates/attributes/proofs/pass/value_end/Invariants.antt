use Rattle.attributes.proofs.ValueEnds.{Passed}
use Rattle.attributes.proofs.pass.value_end.Given as goal

abbrev pub invariant-loop-i : goal.invariant-loop-i
invariant-loop-i l = Passed l.rest l.i l.quoted
