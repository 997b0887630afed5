use Rattle.std.proofs.lemmas.Result.{err_from_is_err_and}
use Rattle.walks.proofs.Steps.{outcome_told}
use native.Mathlib.Omega.{arith}
use lib.ListN.{length-take}
use Rattle.walks.proofs.SlotLaws.{ledger_room, new_no}
use Rattle.walks.proofs.slots.SlotWalk.next_new.Goals as goal
use Rattle.reads.specs.Answer.{answered}

pub slice_bounds-first_met-end : goal.slice_bounds-first_met-end
slice_bounds-first_met-end c = let h = ledger_room _ _ _ _ _ (outcome_told answered c.ask_ledger.ensures.asked c.in_ok-ask_ledger.was) in omega (arith, h.0, h.1, h.2, length-take c.args.self.used c.args.ledger.now)

pub returns-in_err-ask_ledger-clause-step : goal.returns-in_err-ask_ledger-clause-step
returns-in_err-ask_ledger-clause-step c =
    let p = err_from_is_err_and c.from_residual.result c.from_residual.ensures.1 in
    rw (p.1, p.2) (new_no _ _ _ _ _ _ (outcome_told answered c.ask_ledger.ensures.asked c.in_err-ask_ledger.was))
