use Rattle.encodings.proofs.Reached.{Reached}
use Rattle.encodings.proofs.reading.read_types.Given as goal

abbrev pub invariant-loop-i : goal.invariant-loop-i
invariant-loop-i l = Reached l.text l.initial.buffer l.buffer l.p l.types l.i
