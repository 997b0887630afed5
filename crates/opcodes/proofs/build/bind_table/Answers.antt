use Rattle.std.proofs.Common.{sym, ap, ◌∙◌}
use Rattle.opcodes.specs.Binds.{settled}
use Rattle.opcodes.proofs.Building as laws
use Rattle.opcodes.proofs.build.bind_table.Goals as goal
use Rattle.reads.specs.Answer.{answered}
use Rattle.std.proofs.lemmas.Result.{err_from_is_err_and}

pub build_from-requires : goal.build_from-requires
build_from-requires c = sym c.ask_commands.ensures ∙ ap answered c.in_ok-ask_commands.was

pub returns-in_err-ask_commands : goal.returns-in_err-ask_commands
returns-in_err-ask_commands c =
    let a = c.args in
    let p = err_from_is_err_and c.from_residual.result c.from_residual.ensures.1 in
    rw (p.1, p.2) (laws.settled_number c.in_err-ask_commands.field-0.0 a.binds.now ∙ ap (λ x. settled x a.binds.now) (laws.found_refused a.file.now c.in_err-ask_commands.field-0.0 (sym (ap answered c.in_err-ask_commands.was) ∙ c.ask_commands.ensures)))
