use mathlib.Core.Path.{sym, ap, ◌∙◌}
use Rattle.std.proofs.lemmas.Result.{err_from_is_err_and}
use Rattle.reads.specs.Answer.{outcome}
use Rattle.records.specs.List.{decode_list}
use Rattle.records.proofs.Headers.{layout_is}
use Rattle.records.proofs.open_list.OpenList.at.Goals as goal

pub returns-in_err-layout-clause-list : goal.returns-in_err-layout-clause-list
unfolding decode_list
returns-in_err-layout-clause-list c =
    let n = c.in_ok-header.ensures.record in
    let missing = rw (n.0, n.1, c.in_err-layout.was) at c.layout_near.ensures in
    let p = err_from_is_err_and c.from_residual-in_err-layout.result c.from_residual-in_err-layout.ensures.1 in
    rw (← c.nonzero.ensures, c.in_ok-nonzero.was, ← c.list_address.ensures, c.in_ok-list_address.was, p.1, p.2) missing

pub invariant_of-result : goal.invariant_of-result
invariant_of-result c = record { behind = (layout_is c.in_ok-header.header.tables.now _ _ _ (sym c.layout_near.ensures ∙ ap outcome c.in_ok-layout.was)).1 }
