use Rattle.dispatch.proofs.Answers.{own_origins}
use Rattle.dispatch.proofs.effective.effective_by_slots.Goals as goal

pub effective_from-requires : goal.effective_from-requires
effective_from-requires c = own_origins _ _ _ _ c.own_source-own.ensures c.enter.ensures c.in_ok-start.was
