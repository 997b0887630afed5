use Rattle.std.proofs.Common.{rules}
use Rattle.std.proofs.lemmas.Result.{err_from_is_err_and}
use Rattle.dispatch.specs.SlotSources.{listed_at}
use Rattle.dispatch.proofs.Asking.{all_slots, all_records, ask_records_by, ask_refused_by}
use Rattle.dispatch.proofs.asks.ask_categories.Goals as goal

pub returns-in_err-ask_each : goal.returns-in_err-ask_each
unfolding listed_at
returns-in_err-ask_each c =
    let p = err_from_is_err_and c.from_residual.result c.from_residual.ensures.1 in
    rw (p.1, p.2) (ask_refused_by _ c.ask_each.result (all_slots c.args.tables.now _ ((rw c.sections-sections.ensures at c.ask_each.ensures) _ (λ k r h answered. search rules))) c.in_err-ask_each.was)

pub returns : goal.returns
unfolding listed_at
returns c =
    ask_records_by _ c.ask_each.result c.ask_each-2.result (all_slots c.args.tables.now _ ((rw c.sections-sections.ensures at c.ask_each.ensures) _ (λ k r h answered. search rules))) c.in_ok-ask_each.was
    (all_records c.args.tables.now _ ((rw c.sections-sections.ensures at c.ask_each-2.ensures) _ (λ k r h answered. search rules)))
