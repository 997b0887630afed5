use borrow.Author.Rules.{rules}
use Rattle.listing.proofs.listing.Listing.name_said.Goals as goal

pub returns-in-Ok-Finished : goal.returns-in-Ok-Finished
returns-in-Ok-Finished c = λ o w e l. let said = c.next_list.ensures o _ w e l in search rules

pub returns-in-Err-Absent : goal.returns-in-Err-Absent
returns-in-Err-Absent c = λ o w e l. let said = c.next_list-in-Err-Absent.ensures o _ w e l in search rules
