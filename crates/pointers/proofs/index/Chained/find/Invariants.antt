use Prim.Native.Nat.{◌≤◌}
use mathlib.Core.Path.{◌≡◌}
use Rattle.pointers.specs.Chain.{follow_from, follow}
use Rattle.reads.specs.Table.{records}
use Rattle.pointers.proofs.index.Chained.find.Given as goal

-- What is left of the chain, below the limit, leads where the whole chain leads.
abbrev pub invariant-loop-number : goal.invariant-loop-number
invariant-loop-number l = (l.limit ≤ records l.self.width l.self.table.now)
    × (follow_from l.self.width l.self.table.now l.self.nexts l.slot l.index l.limit l.number ≡ follow l.self.width l.self.table.now l.self.heads l.self.nexts l.slot l.index)

abbrev pub decreases-loop-number : goal.decreases-loop-number
decreases-loop-number l = l.limit
