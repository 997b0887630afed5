use Rattle.listing.proofs.listing.Listing.record_step.Goals as goal

pub returns-in-Protocol : goal.returns-in-Protocol
returns-in-Protocol c = λ l. rw (c.in-Protocol.is, ← c.in_ok-ask.ensures) (c.protocol_said.ensures l)
