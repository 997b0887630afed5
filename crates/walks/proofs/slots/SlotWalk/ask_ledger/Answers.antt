use Rattle.std.proofs.lemmas.Result.{err_from_is_err_and}
use Rattle.walks.proofs.Steps.{outcome_told}
use Rattle.walks.proofs.SlotLaws.{ask_no}
use Rattle.walks.proofs.slots.SlotWalk.ask_ledger.Goals as goal
use Rattle.reads.specs.Answer.{answered}

pub returns-in_err-ask-clause-asked : goal.returns-in_err-ask-clause-asked
returns-in_err-ask-clause-asked c =
    let p = err_from_is_err_and c.from_residual.result c.from_residual.ensures.1 in
    rw (p.1, p.2) (ask_no _ _ _ _ _ (outcome_told answered c.ask.ensures c.in_err-ask.was))
