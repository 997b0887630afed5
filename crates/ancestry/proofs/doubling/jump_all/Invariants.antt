use mathlib.Core.Path.{◌≡◌}
use Prim.Native.Nat.{◌/◌}
use lib.ListN.{length}
use Rattle.ancestry.specs.Doubling.{jumped_to}
use Rattle.ancestry.proofs.doubling.jump_all.Given as goal

abbrev pub invariant-loop-i : goal.invariant-loop-i
invariant-loop-i l = l.out ≡ jumped_to (length l.initial.out / 3) l.limit.classes l.initial.out l.i
