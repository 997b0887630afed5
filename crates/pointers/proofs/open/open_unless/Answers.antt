use mathlib.Core.Path.{ap, ◌∙◌}
use Rattle.std.proofs.lemmas.Result.{err_from_is_err_and}
use Rattle.pointers.specs.Open.{asked_opening}
use Rattle.pointers.proofs.Opens.{open_room, open_info, open_index, last_refused, last_kept, open_refused, open_kept}
use Rattle.pointers.proofs.open.open_unless.Goals as goal

pub fill_index-requires : goal.fill_index-requires
fill_index-requires c =
    let e = c.ask_opening.ensures ∙ ap asked_opening c.with_index.ensures in
    open_room _ _ e c.in_ok-ask_opening.was

pub returns : goal.returns
returns c =
    let e = c.ask_opening.ensures ∙ ap asked_opening c.with_index.ensures in
    let parsed = rw c.info.ensures at c.parse.ensures in
    record {
      outcome = open_info _ _ e _ c.in_ok-ask_opening.was c.in_ok-last.was _ parsed;
      contents = open_index _ _ e _ c.in_ok-ask_opening.was c.in_ok-last.was _ c.fill_index.ensures;
    }

pub returns-in_err-ask_opening : goal.returns-in_err-ask_opening
returns-in_err-ask_opening c =
    let e = c.ask_opening.ensures ∙ ap asked_opening c.with_index.ensures in
    let p = err_from_is_err_and c.from_residual.result c.from_residual.ensures.1 in
    record {
      outcome = rw (p.1, p.2) (open_refused _ _ e _ _ c.in_err-ask_opening.was);
      contents = open_kept _ _ e _ _ c.in_err-ask_opening.was;
    }

pub returns-in_err-last : goal.returns-in_err-last
returns-in_err-last c =
    let e = c.ask_opening.ensures ∙ ap asked_opening c.with_index.ensures in
    let p = err_from_is_err_and c.from_residual-in_err-last.result c.from_residual-in_err-last.ensures.1 in
    record {
      outcome = rw (p.1, p.2) (last_refused _ _ e _ _ c.in_ok-ask_opening.was c.in_err-last.was);
      contents = last_kept _ _ e _ _ c.in_err-last.was;
    }
