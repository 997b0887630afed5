use Prim.Native.Nat.{◌-◌}
use mathlib.Core.Path.{◌≡◌}
use Rattle.face.specs.Rows.{turn_over, gather}
use Rattle.face.proofs.rows.gather_rows.Given as goal

abbrev pub invariant-loop-n : goal.invariant-loop-n
invariant-loop-n l = gather (turn_over l.tables) (l.room - l.n) l.at l.n l.table
    ≡ gather (turn_over l.tables) l.room l.initial.at 0 l.initial.table
