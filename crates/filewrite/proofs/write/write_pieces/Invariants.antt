-- What was handed over is what the writer holds; a piece is empty where nothing is still to come, and any other leaves less.
use lib.ListN.{length}
use Rattle.printing.specs.Pieces.{to_come, standing_of}
use Rattle.printing.proofs.Handing.{Held}
use Rattle.filelist.specs.FileLent.{tables_opened}
use Rattle.filewrite.specs.Written.{piece_bytes}
use Rattle.filewrite.proofs.write.write_pieces.Given as goal

abbrev pub invariant-loop-progress : goal.invariant-loop-progress
invariant-loop-progress g l =
    Held piece_bytes (tables_opened l.opened) (standing_of l.initial.progress l.initial.ledger) l.initial.out
    (g.W.Write.contents l.initial.to) (g.W.Write.contents l.to) (standing_of l.progress l.ledger) l.out

abbrev pub decreases-loop-progress : goal.decreases-loop-progress
decreases-loop-progress g l = length (to_come (tables_opened l.opened) (standing_of l.progress l.ledger))
