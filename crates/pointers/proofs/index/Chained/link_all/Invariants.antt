use mathlib.Core.Path.{◌≡◌}
use Rattle.pointers.specs.IndexFold.{chained}
use Rattle.pointers.proofs.index.Chained.link_all.Given as goal

-- The index is what the first i records make of it.
abbrev pub invariant-loop-i : goal.invariant-loop-i
invariant-loop-i l = l.index ≡ chained l.self.width l.self.table.now l.self.heads l.self.nexts l.i l.initial.index
