use Rattle.std.proofs.Common.{rules, tests, sym, ap, ◌∙◌, arith}
use Rattle.std.proofs.lemmas.Iterator.Adapters.{serves_from_places, option_map_id}
use Rattle.std.proofs.lemmas.Iterator.Consumers.{YieldsList-from_first}
use Rattle.std.proofs.lemmas.Iterator.Search.{find_from_yields_List}
use Rattle.macho.specs.Loader.{segment_kind}
use Rattle.macho.specs.Commands.{offsets, segments_of}
use Rattle.macho.proofs.Commands.{all_good}
use Rattle.fixups.proofs.Building as laws
use Rattle.fixups.proofs.build.image_base.Goals as goal

pub find-requires-clause-callable : goal.find-requires-clause-callable
find-requires-clause-callable c =
    let cmds = c.args.cmds in
    serves_from_places (YieldsList-from_first (λ x. x) offsets _ c.of_kind.ensures) (λ x q r. search rules)
    (λ x k l e. let p = laws.segment_room cmds.bytes.now _ (all_good segment_kind cmds.bytes.now cmds.count 0) k x l in λ y. search (rules, arith))

pub returns : goal.returns
returns c =
    let cmds = c.args.cmds in
    let found =
    find_from_yields_List (laws.is_text cmds.bytes.now) c.find.new.self _ c.find.result c.find.ensures.ran
    (YieldsList-from_first (λ x. x) offsets (segments_of cmds.bytes.now cmds.count) c.of_kind.ensures) (λ x b q k. search (rules, tests)) in
    laws.base_read cmds.bytes.now _ _ c.find.result c.map_or.ensures (λ a h. search (rules, tests)) ∙ ap (laws.base_at cmds.bytes.now) (sym (option_map_id c.find.result) ∙ found) ∙ laws.base_found cmds.bytes.now (segments_of cmds.bytes.now cmds.count)
