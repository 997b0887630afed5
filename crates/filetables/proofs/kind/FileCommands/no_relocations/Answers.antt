use Rattle.std.proofs.Common.{rules, tests}
use Rattle.std.proofs.lemmas.Iterator.Consumers.{YieldsList-from_first}
use Rattle.std.proofs.lemmas.Iterator.Search.{all_from_yields_List}
use Rattle.macho.specs.Commands.{offsets}
use Rattle.std.proofs.Common.{◌+◌}
use lib.Dec.{eqb}
use Rattle.macho.specs.Number.{u32_at}
use Rattle.filetables.proofs.kind.FileCommands.no_relocations.Goals as goal

pub returns : goal.returns
returns c =
    let a = c.args in
    all_from_yields_List (λ x. eqb (u32_at a.self.cmds.bytes.now (x + 68)) 0) c.all.new.self _ c.all.result c.all.ensures.ran (YieldsList-from_first (λ x. x) offsets _ c.of_kind.ensures) (λ x b q k. search (rules, tests))
