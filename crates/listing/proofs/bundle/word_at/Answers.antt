use Rattle.std.proofs.Common.{ap, ◌∙◌, add-zero}
use Rattle.listing.specs.Bundle.{word_from}
use Rattle.listing.proofs.bundle.word_at.Goals as goal

pub returns : goal.returns
returns c = c.u64_from.ensures ∙ ap (word_from _) (add-zero _)
