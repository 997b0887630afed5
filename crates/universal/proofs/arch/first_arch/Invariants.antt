use Rattle.universal.specs.Architecture.{first_arch}
use Prim.Native.Nat.{◌-◌}
use mathlib.Core.Bool.{Bool}
use Rattle.universal.specs.declared.fat.Part.{Part}
use mathlib.Core.Path.{◌≡◌}
use Rattle.universal.proofs.arch.first_arch.Given as goal

abbrev pub invariant-loop-i : goal.invariant-loop-i
invariant-loop-i g l =
    (test : Part → Bool) → ((p : Part) (r : Bool) → goal.F-post g l.passes p r → r ≡ test p)
    → first_arch l.table.file.now l.table.kind test l.table.count 0 ≡ first_arch l.table.file.now l.table.kind test (l.table.count - l.i) l.i
