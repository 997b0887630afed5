use Rattle.listing.proofs.listing.Listing.again.Goals as goal

pub returns : goal.returns
returns c = c.starting.ensures
