use Rattle.reads.specs.Files.{files_lent}
use Rattle.printing.proofs.BundleAnswers.{piece_same}
use Rattle.filelist.proofs.FileAnswers.{parts_same}
use Rattle.filelist.proofs.file.piece_over.Goals as goal

pub returns : goal.returns
unfolding files_lent
returns c =
    let a = c.args in
    let o = a.opened.now in
    let both = piece_same _ _ _ _ _ _ _
    (parts_same o.file.now o.segments.now o.sections.now a.info.now o.rebases.now o.binds.now o.index.now a.count _ _
    c.segment_words-words.ensures c.index_words-entries.ensures)
    ((rw c.new.ensures at c.next_piece.ensures.piece), (rw c.new.ensures at c.next_piece.ensures.rest)) in
    record { piece = both.0; rest = both.1 }
