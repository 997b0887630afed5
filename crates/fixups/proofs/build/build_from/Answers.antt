use Rattle.std.proofs.Common.{ap, ◌∙◌}
use Rattle.fixups.specs.Fixups.{settled}
use Rattle.fixups.proofs.Building as laws
use Rattle.fixups.proofs.build.build_from.Goals as goal

pub returns-in-None : goal.returns-in-None
returns-in-None c =
    let a = c.args in
    laws.settled_none a.rebases.now a.binds.now
    ∙ ap (λ x. settled x a.rebases.now a.binds.now) (laws.found_none a.file.now c.requires _ _ c.of-cmds.ensures.bytes c.of-cmds.ensures.count.0 _ _ (rw c.of_kind.ensures at c.next.ensures.steps) c.in-None.is)

pub returns-in-Some : goal.returns-in-Some
returns-in-Some c =
    let a = c.args in
    c.fixups_at.ensures
    ∙ ap (λ x. settled x a.rebases.now a.binds.now) (laws.found_first a.file.now c.requires _ _ c.of-cmds.ensures.bytes c.of-cmds.ensures.count.0 _ _ (rw c.of_kind.ensures at c.next.ensures.steps) _ c.in-Some.is)
