use Rattle.std.proofs.Common.{sym, ap, ◌∙◌}
use Rattle.std.specs.Option.{is_none}
use Rattle.std.proofs.lemmas.Iterator.Adapters.{option_map_id}
use Rattle.std.proofs.lemmas.Iterator.Consumers.{nth_from_yields_List, YieldsList-from_chain, YieldsList-from_first}
use Rattle.macho.specs.Commands.{offsets}
use Rattle.filetables.proofs.FileKinds.{is_not, at_most_one}
use Rattle.filetables.proofs.kind.FileCommands.one_carrier.Goals as goal

pub returns : goal.returns
returns c =
    let cmds = c.args.self.cmds in
    let first = YieldsList-from_chain {s = c.chain.result} (YieldsList-from_first (λ x. x) offsets _ (ap offsets c.chain.ensures.first ∙ c.of_kind.ensures))
    (YieldsList-from_first (λ x. x) offsets _ (ap offsets c.chain.ensures.second ∙ c.of_kind-2.ensures)) c.chain.ensures.first_done c.chain.ensures.second_done in
    let second = nth_from_yields_List c.nth.result c.nth.new.self 1 c.nth.ensures.ran
    (YieldsList-from_chain {s = c.chain-2.result} (rw (sym c.chain-2.ensures.first) at first)
    (YieldsList-from_first (λ x. x) offsets _ (ap offsets c.chain-2.ensures.second ∙ c.of_kind-3.ensures)) c.chain-2.ensures.first_done c.chain-2.ensures.second_done) in
    is_not _ _ c.is_none.ensures ∙ ap is_none (sym (option_map_id c.nth.result) ∙ second) ∙ at_most_one cmds.bytes.now cmds.count
