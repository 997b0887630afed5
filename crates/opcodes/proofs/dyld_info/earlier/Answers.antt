use Rattle.std.proofs.Common.{sym, ap, ◌∙◌}
use Rattle.std.specs.Iterator.Adapters.{once_item}
use Rattle.std.proofs.lemmas.Iterator.Adapters.{option_map_id}
use Rattle.std.proofs.lemmas.Iterator.Consumers.{min_from_yields_List, YieldsList-from_chain}
use Rattle.opcodes.proofs.Earlier.{once_yields, least}
use Rattle.opcodes.proofs.dyld_info.earlier.Goals as goal

pub returns : goal.returns
returns c =
    sym (option_map_id c.min.result)
    ∙ min_from_yields_List c.chain.result c.min.result c.min.ensures.ran (YieldsList-from_chain {s = c.chain.result} (once_yields _) (once_yields _) c.chain.ensures.first_done c.chain.ensures.second_done)
    ∙ least _ _ c.args.x c.args.y (ap once_item c.chain.ensures.first ∙ c.into_iter.ensures.into_iter_gives.0) c.chain.ensures.second.0
