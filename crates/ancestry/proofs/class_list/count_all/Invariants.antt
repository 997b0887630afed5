use Prim.Native.Nat.{◌≤◌}
use mathlib.Core.Path.{◌≡◌}
use lib.ListN.{drop}
use Rattle.ancestry.specs.Filling.{told_of, tally}
use Rattle.ancestry.proofs.class_list.count_all.Given as goal

abbrev pub invariant-loop-va : goal.invariant-loop-va
invariant-loop-va l = (l.count ≤ l.va-index) × (tally (told_of l.classes.asked.now.tables.now l.classes.together) l.count (drop l.va-index l.classes.list.now) ≡ tally (told_of l.classes.asked.now.tables.now l.classes.together) 0 l.classes.list.now)
