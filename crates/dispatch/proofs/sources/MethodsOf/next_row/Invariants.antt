use Prim.Native.Nat.{◌≤◌}
use mathlib.Core.Path.{◌≡◌}
use Rattle.dispatch.specs.Position.{ahead, weight}
use Rattle.dispatch.proofs.sources.MethodsOf.next_row.Given as goal

abbrev pub invariant-loop-step : goal.invariant-loop-step
invariant-loop-step l = (ahead l.self.tables.now l.self.side l.self.class l.initial.p ≡ ahead l.self.tables.now l.self.side l.self.class l.p) × (weight l.self.tables.now l.p ≤ weight l.self.tables.now l.initial.p)

abbrev pub decreases-loop-step : goal.decreases-loop-step
decreases-loop-step l = weight l.self.tables.now l.p
