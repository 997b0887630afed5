use Rattle.listing.proofs.listing.Listing.list_step.Goals as goal

pub returns-in-Rows : goal.returns-in-Rows
returns-in-Rows c = λ o e l. rw (c.in-Rows.is, ← c.next_over-stepped.ensures) (c.row_said.ensures o _ e l)

pub returns-in-Names : goal.returns-in-Names
returns-in-Names c = λ o e l. rw (c.in-Names.is, ← c.next_over-stepped-in-Names.ensures, ← c.cursor-slot.ensures) (c.name_said.ensures o _ e l)
