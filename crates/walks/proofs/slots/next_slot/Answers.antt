use Rattle.std.proofs.lemmas.Result.{err_from_is_err_and}
use Rattle.walks.proofs.Steps.{outcome_told}
use Rattle.walks.proofs.SlotLaws.{next_no}
use Rattle.walks.proofs.slots.next_slot.Goals as goal
use Rattle.reads.specs.Answer.{answered}

pub returns-in_err-ask-clause-step : goal.returns-in_err-ask-clause-step
returns-in_err-ask-clause-step c =
    let p = err_from_is_err_and c.from_residual.result c.from_residual.ensures.1 in
    rw (p.1, p.2) (next_no _ _ _ (outcome_told answered c.ask.ensures c.in_err-ask.was))
