use Rattle.reads.proofs.LebLaws.{Behind}
use Rattle.reads.proofs.leb128.magnitude.Given as goal

abbrev pub invariant-loop-b : goal.invariant-loop-b
invariant-loop-b l = Behind l.negative l.digits l.b-iterator.iter.rest.now l.n
