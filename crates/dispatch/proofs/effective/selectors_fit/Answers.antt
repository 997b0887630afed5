use Rattle.std.proofs.Common.{rules}
use Rattle.std.specs.Prelude.{not}
use Rattle.std.proofs.lemmas.Iterator.Consumers.{YieldsList-at, YieldsList-from_first, YieldsList-from_filter, nth_from_yields_List}
use Rattle.dispatch.specs.Dispatch.{has_earlier}
use Rattle.dispatch.specs.RowsLeft.{rows_ahead, files_in, reached_left}
use Rattle.dispatch.proofs.Scans.{none_fit}
use Rattle.dispatch.proofs.effective.selectors_fit.Goals as goal

pub returns : goal.returns
returns c =
    let rs = c.args.rows.now in
    let rows = (rows_ahead rs).rows in
    none_fit (files_in rs) rows c.args.room c.nth.result
    (nth_from_yields_List c.nth.result c.nth.new.self c.args.room c.nth.ensures.ran
    (YieldsList-from_filter _ (λ a. not (has_earlier (files_in rs) a rows)) (YieldsList-at c.filter.ensures.source (YieldsList-from_first (λ b. b) reached_left rows c.reachable.ensures))
    c.filter.ensures.closure (λ x b q k. search rules)))
    c.is_none.ensures
