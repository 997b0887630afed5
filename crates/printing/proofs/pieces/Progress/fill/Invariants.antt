use mathlib.Core.Path.{◌≡◌}
use lib.ListN.{length}
use Rattle.printing.specs.Pieces.{standing_of}
use Rattle.printing.proofs.Comes.{left_in}
use Rattle.printing.proofs.Fills.{Filling}
use Rattle.printing.proofs.pieces.Progress.fill.Given as goal

abbrev pub invariant-loop-out : goal.invariant-loop-out
invariant-loop-out l = (length l.ledger ≡ length l.initial.ledger)
    × Filling l.tables (standing_of l.initial.progress l.initial.ledger) l.initial.out (standing_of l.progress l.ledger) l.out l.len

abbrev pub decreases-loop-out : goal.decreases-loop-out
decreases-loop-out l = left_in (standing_of l.progress l.ledger)
