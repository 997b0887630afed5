use Rattle.listing.proofs.listing.Listing.new.Goals as goal

pub returns : goal.returns
returns c = c.under.ensures
