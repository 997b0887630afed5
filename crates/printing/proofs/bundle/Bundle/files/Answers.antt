use Rattle.reads.specs.Files.{files_lent}
use Rattle.printing.proofs.BundleParts.{parts_files}
use Rattle.printing.proofs.bundle.Bundle.files.Goals as goal

pub returns : goal.returns
unfolding files_lent
returns c =
    parts_files _ c.args.self.now.counts _ _ _ _ c.args.self.now.accepted c.image0_at.ensures
    c.image1_at-at1.ensures c.image2_at-at2.ensures c.image3_at-at3.ensures
