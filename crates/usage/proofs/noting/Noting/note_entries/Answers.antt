use mathlib.Core.Path.{ap}
use Rattle.pointers.specs.Tables.{image_in}
use Rattle.usage.specs.Noting.{trace}
use Rattle.usage.specs.Pass.{each_row}
use Rattle.usage.proofs.RowsNoted.{entries_all}
use Rattle.usage.proofs.noting.Noting.note_entries.Goals as goal

pub loop-va-init : goal.loop-va-init
loop-va-init c =
    rw (c.into_iter-va-iterator.ensures.into_iter_gives, c.image.ensures)
    (ap (λ l. trace (each_row c.args.h.kind l) c.args.self.now) (entries_all (image_in c.args.self.now.tables.now) c.args.h))
