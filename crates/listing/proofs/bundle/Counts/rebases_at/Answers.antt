use Rattle.std.proofs.Common.{arith}
use Rattle.listing.proofs.bundle.Counts.rebases_at.Goals as goal

-- The section table between the two: 120 bytes.
pub returns : goal.returns
returns c = omega arith
