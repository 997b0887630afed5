use Rattle.listing.proofs.listing.Listing.under.Goals as goal

pub returns : goal.returns
returns c = rw (← c.under.ensures) c.starting.ensures
