use Rattle.listing.proofs.listing.Listing.protocol_said.Goals as goal

pub returns : goal.returns
returns c = λ l. rw (← c.enter-lists.ensures) (c.record_said.ensures l)
