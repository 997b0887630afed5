use Rattle.listing.specs.Listing.{step_at}
use Rattle.listing.proofs.ListingSteps.{step_at_lem}
use Rattle.listing.proofs.listing.Listing.step.Goals as goal

pub returns-in-Record : goal.returns-in-Record
unfolding step_at
returns-in-Record c = step_at_lem c.args.asked.now.tables _ _ c.in-Record.is (c.record_step.ensures _)

pub returns-in-List : goal.returns-in-List
unfolding step_at
returns-in-List c = step_at_lem c.args.asked.now.tables _ _ c.in-List.is (c.list_step.ensures _ c.in-List.is _)
