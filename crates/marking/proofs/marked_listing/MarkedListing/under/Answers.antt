use Rattle.marking.proofs.marked_listing.MarkedListing.under.Goals as goal

pub returns : goal.returns
returns c = rw (← c.under.ensures) c.starting.ensures
