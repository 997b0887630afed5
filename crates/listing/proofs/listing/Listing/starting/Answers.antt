use Rattle.listing.proofs.listing.Listing.starting.Goals as goal

pub returns : goal.returns
returns c = rw c.at_stage.ensures
