use Rattle.ranges.specs.Sheet.{with_bits}
use mathlib.Core.Path.{◌≡◌}
use Rattle.ranges.proofs.sheet.Sheet.set_bits.Given as goal

abbrev pub invariant-loop-i : goal.invariant-loop-i
invariant-loop-i l = l.self ≡ with_bits l.initial.self l.k l.i
