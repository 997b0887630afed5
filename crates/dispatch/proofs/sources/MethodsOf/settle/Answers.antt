use native.Mathlib.Omega.{arith}
use Rattle.std.proofs.lemmas.Result.{err_from_is_err_and}
use Rattle.records.proofs.Readables.{found_below_count}
use Rattle.walks.proofs.Steps.{found_fits}
use Rattle.dispatch.proofs.Walks.{settle_found, settle_refused}
use Rattle.dispatch.proofs.sources.MethodsOf.settle.Goals as goal

pub appearance_at-requires : goal.appearance_at-requires
appearance_at-requires c = found_fits _ _ _ _ c.requires

pub overflow_cast-j : goal.overflow_cast-j
overflow_cast-j c = omega (arith, found_below_count _ _ _ _ c.requires)

pub overflow_add-j : goal.overflow_add-j
overflow_add-j c = omega (arith, found_below_count _ _ _ _ c.requires)

pub returns-in_err-row : goal.returns-in_err-row
returns-in_err-row c =
    let p = err_from_is_err_and c.from_residual.result c.from_residual.ensures.1 in
    rw (p.1, p.2) (settle_refused _ _ _ _ _ c.requires (rw c.appearance_at.ensures at c.optional.ensures) c.in_err-row.was)

pub returns : goal.returns
returns c = settle_found _ _ _ _ _ c.requires (omega arith) c.at-next.ensures (rw c.appearance_at.ensures at c.optional.ensures) c.in_ok-row.was
