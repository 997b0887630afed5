use Rattle.listing.specs.Listing.{step_at}
use Rattle.listing.proofs.listing.Listing.section_step.Goals as goal

pub returns : goal.returns
unfolding step_at
returns c = rw (← c.next-stepped.ensures) (c.section_said.ensures _)
