use mathlib.Core.Path.{◌≡◌}
use Rattle.encodings.specs.Parser.{kept, levels_of, below_pointers}
use Rattle.encodings.proofs.kept.Parser.below_pointers.Given as goal

abbrev pub invariant-loop-self : goal.invariant-loop-self
invariant-loop-self l =
    kept l.self.mode (below_pointers (levels_of l.self)) l.self.start ≡ kept l.initial.self.mode (below_pointers (levels_of l.initial.self)) l.initial.self.start

abbrev pub decreases-loop-self : goal.decreases-loop-self
decreases-loop-self l = l.self.depth
