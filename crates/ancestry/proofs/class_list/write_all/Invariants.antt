use mathlib.Core.Path.{◌≡◌}
use lib.ListN.{length}
use Rattle.ancestry.specs.Filling.{told_of}
use Rattle.ancestry.proofs.Fillings.{written_to}
use Rattle.ancestry.proofs.class_list.write_all.Given as goal

abbrev pub invariant-loop-k : goal.invariant-loop-k
invariant-loop-k l = l.res ≡ written_to (told_of l.fn.classes.asked.now.tables.now l.fn.classes.together) l.fn.classes.list.now l.fn.res (length l.yielded)
