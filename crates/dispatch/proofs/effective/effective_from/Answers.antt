use Rattle.std.proofs.Common.{ap, not, ◌∙◌}
use borrow.Author.Tests.{not-true, not-false}
use Rattle.std.specs.Prelude.{Ok}
use Rattle.std.proofs.lemmas.Result.{err_from_is_err_and}
use Rattle.dispatch.proofs.Answers.{from_refused, from_room, from_short, from_written}
use Rattle.dispatch.proofs.effective.effective_from.Goals as goal

pub returns-in_err-has_room : goal.returns-in_err-has_room
returns-in_err-has_room c =
    let p = err_from_is_err_and c.from_residual.result c.from_residual.ensures.1 in
    rw (p.1, p.2) (from_refused _ _ _ c.has_room.ensures c.in_err-has_room.was)

pub returns-then-not-branch : goal.returns-then-not-branch
returns-then-not-branch c = from_short _ _ _ c.has_room.ensures (c.in_ok-has_room.was ∙ ap Ok (not-true _ (ap not c.if-not-branch.true)))

pub write_selectors-requires : goal.write_selectors-requires
write_selectors-requires c = (c.requires, from_room _ _ c.args.res.now c.has_room.ensures (c.in_ok-has_room.was ∙ ap Ok (not-false _ (ap not c.if-not-branch.false))))

pub returns : goal.returns
returns c = from_written _ _ _ c.has_room.ensures (c.in_ok-has_room.was ∙ ap Ok (not-false _ (ap not c.if-not-branch.false))) c.write_selectors.ensures
