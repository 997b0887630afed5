use mathlib.Core.Path.{◌≡◌}
use mathlib.Core.Bool.{false}
use lib.ListN.{take}
use Rattle.walks.specs.Slots.{among}
use Rattle.dispatch.specs.SlotSources.{held}
use Rattle.dispatch.proofs.slots.held_before.Given as goal

abbrev pub invariant-loop-i : goal.invariant-loop-i
invariant-loop-i l = among l.va (take l.i (held l.tables)) ≡ false
