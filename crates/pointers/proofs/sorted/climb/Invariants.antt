use Prim.Native.Nat.{◌≤◌}
use mathlib.Core.Path.{◌≡◌}
use Rattle.reads.specs.Table.{records}
use Rattle.pointers.specs.Tables.{rebase_words}
use Rattle.pointers.specs.Sorted.{climb, halvings}
use Rattle.pointers.proofs.sorted.climb.Given as goal

-- The climb from here ends where the whole climb ends.
abbrev pub invariant-loop-k : goal.invariant-loop-k
invariant-loop-k l = (l.b ≤ records rebase_words l.rebases) × (climb l.rebases l.slot l.k l.b ≡ climb l.rebases l.slot halvings 0)
