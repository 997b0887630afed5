use Rattle.std.proofs.lemmas.Result.{err_from_is_err_and}
use Rattle.ancestry.proofs.Answers.{left_refused}
use Rattle.ancestry.proofs.class_list.ancestries.Goals as goal

pub returns-in_err-ask : goal.returns-in_err-ask
returns-in_err-ask c =
    let a = c.args in
    let p = err_from_is_err_and c.from_residual.result c.from_residual.ensures.1 in
    rw (p.1, p.2) (left_refused _ a.classes.now a.res.now _ c.in_err-ask.ensures)
