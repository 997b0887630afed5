use mathlib.Core.Path.{sym, ap, ◌∙◌}
use native.Mathlib.Omega.{arith}
use borrow.Author.Tests.{not-true, not-false}
use Rattle.reads.specs.Files.{files_lent, longest}
use Rattle.pointers.specs.Question.{image_fits}
use Rattle.printing.proofs.BundleAnswers.{piece_same}
use Rattle.printing.proofs.PieceAnswers.{fits_short, listable_short, listable_long}
use Rattle.std.proofs.Common.{not}
use Rattle.printing.proofs.pieces.Progress.next_piece.Goals as goal

pub fill-requires : goal.fill-requires
unfolding files_lent longest
fill-requires c = rw c.over.ensures (omega arith)

pub returns-then-not-image_fits : goal.returns-then-not-image_fits
unfolding files_lent
returns-then-not-image_fits c =
    let long = ap image_fits (ap longest (sym c.files-files.ensures) ∙ sym c.longest.ensures) ∙ sym c.image_fits.ensures ∙ not-true _ (ap not c.if-not-image_fits.true) in
    let both = piece_same _ _ _ _ _ _ _
    (c.over.ensures ∙ sym (listable_long c.args.tables.now long))
    (c.fill.ensures.piece, c.fill.ensures.rest) in
    record { piece = both.0; rest = both.1 }

pub fill-requires-2 : goal.fill-requires-2
fill-requires-2 c = fits_short _ (ap image_fits (ap longest (sym c.files-files.ensures) ∙ sym c.longest.ensures) ∙ sym c.image_fits.ensures ∙ not-false _ (ap not c.if-not-image_fits.false))

pub returns : goal.returns
returns c =
    let short = ap image_fits (ap longest (sym c.files-files.ensures) ∙ sym c.longest.ensures) ∙ sym c.image_fits.ensures ∙ not-false _ (ap not c.if-not-image_fits.false) in
    let both = piece_same _ _ _ _ _ _ _
    (sym (listable_short c.args.tables.now (fits_short _ short)))
    (c.fill-2.ensures.piece, c.fill-2.ensures.rest) in
    record { piece = both.0; rest = both.1 }
