use Rattle.std.proofs.Common.{rules, tests, refl, ◌∙◌}
use Rattle.std.proofs.lemmas.Iterator.{YieldsList-from_range}
use Rattle.std.proofs.lemmas.Iterator.Search.{all_from_yields_List}
use Rattle.listing.specs.Bundle.{count_fits}
use Rattle.listing.proofs.Measured.{all_seven}
use Rattle.listing.proofs.bundle.counts_fit.Goals as goal

pub returns : goal.returns
unfolding count_fits
returns c =
    all_from_yields_List (count_fits c.args.bundle.now) _ _ c.all.result c.all.ensures.ran (YieldsList-from_range 0 7 7 refl refl) (λ x b q k. search (rules, tests))
    ∙ all_seven (count_fits c.args.bundle.now)
