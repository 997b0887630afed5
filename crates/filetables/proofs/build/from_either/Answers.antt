use mathlib.Core.Path.{◌∙◌, ap}
use Rattle.fixups.specs.Fixups.{settled}
use Rattle.filetables.proofs.Records as laws
use Rattle.filetables.proofs.build.from_either.Goals as goal

pub returns-in-None : goal.returns-in-None
returns-in-None c =
    let a = c.args in c.from_opcodes.ensures
    ∙ ap (λ x. settled x a.rebases.now a.binds.now) (laws.not_chained a.file.now _ _ c.of.ensures.bytes c.of.ensures.count.0 _ _ (rw c.of_kind.ensures at c.next.ensures.steps) c.in-None.is)

pub returns-in-Some : goal.returns-in-Some
returns-in-Some c =
    let a = c.args in c.build_tables.ensures
    ∙ ap (λ x. settled x a.rebases.now a.binds.now) (laws.is_chained a.file.now _ _ c.of.ensures.bytes c.of.ensures.count.0 _ _ (rw c.of_kind.ensures at c.next.ensures.steps) _ c.in-Some.is)
