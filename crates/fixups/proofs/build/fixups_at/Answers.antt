use Rattle.std.proofs.Common.{sym, ap, ◌∙◌, arith}
use Rattle.std.proofs.lemmas.Result.{err_from_is_err_and}
use Rattle.fixups.specs.Fixups.{settled}
use Rattle.fixups.proofs.Building as laws
use Rattle.fixups.proofs.build.fixups_at.Goals as goal
use Rattle.reads.specs.declared.answer.Question.TheVariants.{FixupData}

pub returns-then-field32-lt-SIZEOF_LINKEDIT_DATA_COMMAND : goal.returns-then-field32-lt-SIZEOF_LINKEDIT_DATA_COMMAND
returns-then-field32-lt-SIZEOF_LINKEDIT_DATA_COMMAND c =
    let a = c.args in
    laws.settled_number FixupData a.rebases.now a.binds.now
    ∙ ap (λ x. settled x a.rebases.now a.binds.now) (sym (laws.from_short a.file.now a.cmds.bytes.now a.cmds.count a.command (omega arith)))

pub returns-in_err-fixups : goal.returns-in_err-fixups
returns-in_err-fixups c =
    let a = c.args in let k = c.in_err-fixups.field-0.0 in
    let p = err_from_is_err_and c.from_residual.result c.from_residual.ensures.1 in
    rw (p.1, p.2) (laws.settled_number k a.rebases.now a.binds.now
    ∙ ap (λ x. settled x a.rebases.now a.binds.now)
    (laws.from_no_header a.file.now a.cmds.bytes.now a.cmds.count a.command (omega arith) _ _ _ _ _ c.part-body.ensures.bytes c.u32_from-at.ensures c.from.ensures c.field32-2.ensures.0 c.image_base.ensures
    _ c.fixups_of.ensures k c.in_err-fixups.was))

pub returns : goal.returns
returns c =
    let a = c.args in
    c.fill.ensures ∙ ap (λ x. settled x a.rebases.now a.binds.now)
    (laws.from_header a.file.now a.cmds.bytes.now a.cmds.count a.command (omega arith) _ _ _ _ _ c.part-body.ensures.bytes c.u32_from-at.ensures c.from.ensures c.field32-2.ensures.0 c.image_base.ensures
    _ c.fixups_of.ensures _ c.in_ok-fixups.was)
