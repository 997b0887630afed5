use mathlib.Core.Path.{ap}
use Rattle.printing.specs.Pieces.{listable}
use Rattle.printing.proofs.BundleAnswers.{piece_same}
use Rattle.filelist.proofs.FileAnswers.{opened_parts, no_parts}
use Rattle.filelist.proofs.file.next_piece.Goals as goal

pub returns-in-Ok : goal.returns-in-Ok
returns-in-Ok c =
    let o = c.args.opened.now in
    let both = piece_same _ _ _ _ _ _ _
    (ap listable (opened_parts o.answer _ c.in-Ok.is o.file.now o.segments.now o.sections.now o.rebases.now o.binds.now o.index.now _
    c.part-info.ensures.bytes))
    (c.piece_over.ensures.piece, c.piece_over.ensures.rest) in
    record { piece = both.0; rest = both.1 }

pub returns-in-Err : goal.returns-in-Err
returns-in-Err c =
    let o = c.args.opened.now in
    let both = piece_same _ _ _ _ _ _ _
    (ap listable (no_parts o.answer _ c.in-Err.is o.file.now o.segments.now o.sections.now o.rebases.now o.binds.now o.index.now))
    (c.piece_over-in-Err.ensures.piece, c.piece_over-in-Err.ensures.rest) in
    record { piece = both.0; rest = both.1 }
