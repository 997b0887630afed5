use Rattle.ancestry.proofs.Climbs.{Climbing}
use Rattle.ancestry.proofs.class_chain.climb_from.Given as goal

abbrev pub invariant-loop-count : goal.invariant-loop-count
invariant-loop-count l = Climbing l.asked.tables.now l.initial.at.address l.at l.count l.held
