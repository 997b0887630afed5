use native.Mathlib.Omega.{arith}
use Rattle.std.proofs.lemmas.Result.{err_from_is_err_and}
use Rattle.dispatch.proofs.Walks.{next_entered, next_refused}
use Rattle.dispatch.proofs.sources.MethodsOf.next_source.Goals as goal

pub returns : goal.returns
returns c = next_entered _ _ _ _ c.requires (omega (arith, rw c.sections.ensures at c.slot_count.ensures)) c.slot_source-source.result c.slot_source-source.ensures c.enter_part.ensures (omega arith) c.in_ok-next.was

pub returns-in_err-next : goal.returns-in_err-next
returns-in_err-next c =
    let p = err_from_is_err_and c.from_residual.result c.from_residual.ensures.1 in
    rw (p.1, p.2)
    (next_refused _ _ _ _ c.requires (omega (arith, rw c.sections.ensures at c.slot_count.ensures)) c.slot_source-source.result c.slot_source-source.ensures c.enter_part.ensures
    c.in_err-next.was)
