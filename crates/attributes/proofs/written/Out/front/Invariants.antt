-- The invariant: of the letters so many are put.
use Rattle.attributes.proofs.PutParts.{Lettered}
use Rattle.attributes.proofs.written.Out.front.Given as goal

abbrev pub invariant-loop-letter : goal.invariant-loop-letter
invariant-loop-letter l = Lettered l.text l.letter-items l.letter-index l.initial.self l.self
