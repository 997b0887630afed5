use Rattle.std.proofs.lemmas.Result.{err_from_is_err_and}
use Rattle.listing.specs.Listing.{step_at}
use Rattle.listing.proofs.listing.Listing.info_step.Goals as goal

pub returns-in_err-ask : goal.returns-in_err-ask
unfolding step_at
returns-in_err-ask c = let p = err_from_is_err_and c.from_residual.result c.from_residual.ensures.1 in λ l. rw (p.1, p.2, ← c.in_err-ask.ensures)

pub returns : goal.returns
unfolding step_at
returns c = λ l. rw (← c.in_ok-ask.ensures, c.says.ensures, c.go_to.ensures, c.version_and_flags.ensures, c.info.ensures, c.tables.ensures)
