use mathlib.Core.Path.{◌≡◌}
use Prim.Native.Nat.{◌+◌, ◌<◌}
use Rattle.records.specs.Search.{first_readable}
use Rattle.records.specs.Tries.{ahead}
use Rattle.records.proofs.list.search.Given as goal

-- Fewer breakpoints lie ahead than indices are left to try, and the answer is the search's.
abbrev pub invariant-loop : goal.invariant-loop
invariant-loop l = (l.counter + ahead l.image l.h l.i < l.budget) × (first_readable l.image l.h l.i ≡ first_readable l.image l.h l.from)
