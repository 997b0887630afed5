use Rattle.std.proofs.Common.{rules, tests, leb, ◌∙◌}
use Rattle.std.proofs.lemmas.Iterator.{YieldsList-from_slice}
use Rattle.std.proofs.lemmas.Iterator.Search.{all_from_yields_List}
use Rattle.ancestry.proofs.ChainTests.{heads_tested}
use Rattle.ancestry.proofs.rebases.heads_fall.Goals as goal

pub returns : goal.returns
returns c =
    all_from_yields_List (λ x. leb x c.args.count) _ _ c.all.result c.all.ensures.ran (YieldsList-from_slice _ c.iter.ensures.rest) (λ x b q k. search (rules, tests))
    ∙ heads_tested _ _ c.requires
