use mathlib.Core.Path.{sym, ◌∙◌}
use Rattle.walks.proofs.SlotLaws.{among_searched, met_found}
use borrow.Author.Rules.{rules}
use Rattle.walks.proofs.slots.met_below.Goals as goal

pub returns-then-is_ok : goal.returns-then-is_ok
returns-then-is_ok c =
    let found = c.binary_search.ensures in
    met_found _ _ _ (search rules) (among_searched c.args.va c.args.words.now c.binary_search.result found.bound found.ok (sym c.is_ok.ensures.value ∙ c.if-is_ok.true))
