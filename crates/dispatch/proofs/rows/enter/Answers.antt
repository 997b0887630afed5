use Rattle.std.proofs.Common.{ap, ◌∙◌}
use Rattle.std.specs.Prelude.{Ok}
use Rattle.std.proofs.lemmas.Result.{err_from_is_err_and}
use Rattle.dispatch.proofs.Walks.{enter_absent, enter_refused}
use Rattle.dispatch.proofs.rows.enter.Goals as goal

pub returns-in-None : goal.returns-in-None
returns-in-None c = enter_absent _ _ _ c.optional.ensures (c.in_ok-source.was ∙ ap Ok c.in-None.is) c.no_rows.ensures

pub returns-in_err-source : goal.returns-in_err-source
returns-in_err-source c =
    let p = err_from_is_err_and c.from_residual.result c.from_residual.ensures.1 in
    rw (p.1, p.2) (enter_refused _ _ _ c.optional.ensures c.in_err-source.was)
