-- What was handed over is what the writer holds; a piece is empty where nothing is still to come, and any other leaves less.
use lib.ListN.{length}
use Rattle.printing.specs.BundleLent.{piece_size, tables_lent}
use Rattle.printing.specs.Pieces.{to_come, standing_of}
use Rattle.printing.proofs.Handing.{Held}
use Rattle.printing.proofs.write.write_pieces.Given as goal

abbrev pub invariant-loop-progress : goal.invariant-loop-progress
invariant-loop-progress g l =
    Held piece_size (tables_lent l.input l.words l.index) (standing_of l.initial.progress l.initial.ledger) l.initial.out
    (g.W.Write.contents l.initial.to) (g.W.Write.contents l.to) (standing_of l.progress l.ledger) l.out

abbrev pub decreases-loop-progress : goal.decreases-loop-progress
decreases-loop-progress g l = length (to_come (tables_lent l.input l.words l.index) (standing_of l.progress l.ledger))
