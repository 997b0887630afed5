use Prim.Native.Nat.{◌/◌}
use lib.ListN.{length}
use Rattle.ancestry.proofs.Starts.{Starting}
use Rattle.ancestry.proofs.following.first_all.Given as goal

abbrev pub invariant-loop-i : goal.invariant-loop-i
invariant-loop-i l = Starting l.falling.asked.now.tables.now (length l.initial.res / 3) l.initial.res l.i l.res
