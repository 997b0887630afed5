use Rattle.listing.proofs.listing.Listing.category_said.Goals as goal

pub returns : goal.returns
returns c = λ l. rw (← c.optional.ensures, c.in_ok-class_name.was, ← c.enter-lists.ensures) (c.record_said.ensures l)
