use Rattle.ranges.specs.Sweep.{progress, swept}
use Rattle.ranges.specs.Sheet.{shown}
use Prim.Native.Nat.{◌+◌, ◌-◌}
use mathlib.Core.Path.{◌≡◌}
use Rattle.ranges.proofs.sweep.Sweep.scan.Given as goal

abbrev pub invariant-loop-k : goal.invariant-loop-k
invariant-loop-k l = swept l.self.file (shown l.self.at l.sheet) (l.n - l.k) (l.self.at + l.k) (progress l.run l.out) ≡ swept l.self.file (shown l.self.at l.sheet) l.n l.self.at (progress l.initial.run l.initial.out)
