use Rattle.records.proofs.Headers.{size_mask}
use Rattle.records.proofs.list.size_of.Goals as goal

pub returns-in-Methods : goal.returns-in-Methods
returns-in-Methods c = rw c.in-Methods.is (size_mask _)
