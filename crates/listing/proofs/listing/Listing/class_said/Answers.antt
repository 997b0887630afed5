use Rattle.listing.proofs.listing.Listing.class_said.Goals as goal

pub returns : goal.returns
returns c = λ l. rw (← c.optional.ensures, c.in_ok-superclass_name.was) (c.record_said.ensures l)
