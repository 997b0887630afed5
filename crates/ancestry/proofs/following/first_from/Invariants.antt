use Rattle.ancestry.specs.Doubling.{node_at}
use Rattle.ancestry.proofs.Climbs.{Climbing}
use Rattle.ancestry.proofs.following.first_from.Given as goal

abbrev pub invariant-loop-count : goal.invariant-loop-count
invariant-loop-count l = Climbing l.falling.asked.now.tables.now (node_at l.res l.i) l.at l.count l.held
