use Rattle.reads.specs.Files.{files_lent}
use Rattle.printing.proofs.BundleParts.{parts_tables}
use Rattle.printing.proofs.bundle.Bundle.tables.Goals as goal

pub returns : goal.returns
returns c =
    rw c.new.ensures
    (parts_tables (files_lent c.args.files.now) c.args.self.now.bytes.now c.args.words.now c.args.index.now c.args.self.now.counts _ _ _
    c.segment_words-first.ensures c.rebase_words.ensures c.bind_words.ensures)
