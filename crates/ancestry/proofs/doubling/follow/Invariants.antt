use Prim.Native.Nat.{ℕ, ◌-◌, ◌/◌, ◌<◌}
use mathlib.Core.Path.{◌≡◌}
use mathlib.Core.List.{List}
use lib.ListN.{length}
use Rattle.ancestry.specs.Doubling.{Ground, Following}
use Rattle.ancestry.proofs.doubling.follow.Given as goal

abbrev pub invariant-loop-reach : goal.invariant-loop-reach
invariant-loop-reach l = (0 < l.reach) × (length l.out ≡ length l.initial.out) × ((g : Ground) (base : List ℕ) → g.limit ≡ l.limit.classes → g.listed ≡ length l.initial.out / 3 → Following g 1 base l.initial.out → Following g l.reach base l.out)

abbrev pub decreases-loop-reach : goal.decreases-loop-reach
decreases-loop-reach l = l.limit.classes - l.reach
