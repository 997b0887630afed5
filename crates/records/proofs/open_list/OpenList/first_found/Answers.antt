use borrow.Author.Rules.{rules}
use Rattle.records.proofs.Jumps as laws
use Rattle.records.proofs.open_list.OpenList.first_found.Goals as goal

pub returns-then-h-from : goal.returns-then-h-from
returns-then-h-from c = laws.search_past _ _ _ (search rules)
