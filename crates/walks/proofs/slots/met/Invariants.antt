use mathlib.Core.Path.{◌≡◌}
use lib.ListN.{take}
use Rattle.walks.specs.Slots.{among}
use Rattle.walks.proofs.slots.met.Given as goal

-- The address was found if it is among the words so far.
abbrev pub invariant-loop-word : goal.invariant-loop-word
invariant-loop-word l = l.found ≡ among l.va (take l.word-index l.words)
