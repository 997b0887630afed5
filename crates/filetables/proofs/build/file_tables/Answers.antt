use mathlib.Core.Path.{◌∙◌, sym, ap}
use Rattle.fixups.specs.Fixups.{settled}
use Rattle.filetables.proofs.Records as laws
use Rattle.filetables.proofs.build.file_tables.Goals as goal
use Rattle.reads.specs.Answer.{answered}
use Rattle.std.proofs.lemmas.Result.{err_from_is_err_and}

pub returns : goal.returns
returns c =
    let a = c.args in c.from_either.ensures
    ∙ ap (λ x. settled x a.rebases.now a.binds.now) (laws.is_asked a.file.now (sym c.ask_kind.ensures ∙ ap answered c.in_ok-ask_kind.was))

pub returns-in_err-ask_kind : goal.returns-in_err-ask_kind
returns-in_err-ask_kind c =
    let a = c.args in
    let p = err_from_is_err_and c.from_residual.result c.from_residual.ensures.1 in
    rw (p.1, p.2) (laws.is_refused a.file.now _ a.rebases.now a.binds.now (sym (ap answered c.in_err-ask_kind.was) ∙ c.ask_kind.ensures))
