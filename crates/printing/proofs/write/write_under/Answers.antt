use mathlib.Core.Path.{subst}
use native.Mathlib.Omega.{arith}
use Rattle.std.specs.Io.KnownBytes.{Appends}
use Rattle.pointers.specs.Tables.{reading_under}
use Rattle.printing.specs.Pieces.{standing_of}
use Rattle.printing.proofs.Printed.{printed_by}
use Rattle.printing.proofs.write.write_under.Goals as goal

pub returns-clause-written : goal.returns-clause-written
returns-clause-written g c = λ e.
    subst (Appends (g.W.Write.contents c.args.to.now) (g.W.Write.contents c.write_pieces.new.to))
    (printed_by (reading_under c.args.reading) _ _ _ c.args.buffers.now.ledger (omega arith) (omega arith) _ _ _ (λ l. standing_of c.under-start.result l) c.decode.ensures.contents c.open.ensures.contents c.open.ensures.outcome c.under-start.ensures)
    (c.write_pieces.ensures.written e)
