use Rattle.marking.proofs.marked_listing.MarkedListing.new.Goals as goal

pub returns : goal.returns
returns c = c.under.ensures
