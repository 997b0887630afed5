use Rattle.std.proofs.Common.{ap, ◌∙◌}
use Rattle.std.specs.Prelude.{Ok}
use Rattle.std.proofs.lemmas.Result.{err_from_is_err_and}
use Rattle.dispatch.proofs.Walks.{enter_there, enter_no_list, enter_list_refused}
use Rattle.dispatch.proofs.rows.enter_list.Goals as goal

pub returns-in-Some : goal.returns-in-Some
returns-in-Some c = enter_there _ _ _ (rw c.list_at.ensures at c.optional.ensures) (c.in_ok-list.was ∙ ap Ok c.in-Some.is)

pub returns-in-None : goal.returns-in-None
returns-in-None c = enter_no_list _ _ _ (rw c.list_at.ensures at c.optional.ensures) (c.in_ok-list.was ∙ ap Ok c.in-None.is) c.no_rows.ensures

pub returns-in_err-list : goal.returns-in_err-list
returns-in_err-list c =
    let p = err_from_is_err_and c.from_residual.result c.from_residual.ensures.1 in
    rw (p.1, p.2) (enter_list_refused _ _ _ (rw c.list_at.ensures at c.optional.ensures) c.in_err-list.was)
