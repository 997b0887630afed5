-- The invariant: all rows are put but those that are left.
use Rattle.attributes.proofs.PutParts.{Rowing}
use Rattle.attributes.proofs.written.Out.unknown.Given as goal

abbrev pub invariant-loop-row : goal.invariant-loop-row
invariant-loop-row l = Rowing l.text l.rows l.initial.self l.row-iterator.size l.row-iterator.rest.now l.self
