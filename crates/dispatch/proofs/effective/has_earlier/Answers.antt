use Rattle.std.proofs.Common.{rules, ap, ◌∙◌}
use lib.ListN.{take}
use Rattle.std.specs.List.{list_any, prefix_len}
use Rattle.std.proofs.lemmas.Iterator.Consumers.{YieldsList-at, YieldsList-from_first}
use Rattle.std.proofs.lemmas.Iterator.Search.{YieldsList-from_take_while, any_from_yields_List}
use Rattle.reads.specs.Files.{files_lent}
use Rattle.dispatch.specs.Dispatch.{same_selector, comes_before}
use Rattle.dispatch.specs.RowsLeft.{rows_ahead, reached_left}
use Rattle.dispatch.proofs.Places.{rows_ordered}
use Rattle.dispatch.proofs.Scans.{earlier_found}
use Rattle.dispatch.proofs.effective.has_earlier.Goals as goal

pub returns : goal.returns
returns c =
    let a = c.args.a in
    let rows = (rows_ahead c.args.rows.now).rows in
    any_from_yields_List (λ b. same_selector (files_lent c.files-files.result.now) a.selector b.selector) c.any.new.self _ c.any.result c.any.ensures.ran
    (YieldsList-from_take_while _ (λ b. comes_before b a) (YieldsList-at c.take_while.ensures.source (YieldsList-from_first (λ b. b) reached_left rows c.reachable.ensures))
    c.take_while.ensures.closure c.take_while.ensures.done (λ x b q k. search rules)) (λ x b q k. search rules)
    ∙ ap (λ fs. list_any (λ b. same_selector fs a.selector b.selector) (take (prefix_len (λ b. comes_before b a) rows) rows)) c.files-files.ensures
    ∙ earlier_found _ a rows (rows_ordered c.args.rows.now)
