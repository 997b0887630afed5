use mathlib.Core.Path.{◌≡◌}
use Rattle.ancestry.specs.Doubling.{finished_to}
use Rattle.ancestry.proofs.doubling.finish_all.Given as goal

abbrev pub invariant-loop-i : goal.invariant-loop-i
invariant-loop-i l = l.out ≡ finished_to l.initial.out l.i
