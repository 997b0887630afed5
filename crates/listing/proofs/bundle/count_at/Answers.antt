use Rattle.std.proofs.Common.{arith}
use Rattle.listing.proofs.Measured.{count_fits_lem}
use Rattle.listing.proofs.bundle.count_at.Goals as goal

pub overflow_cast-result : goal.overflow_cast-result
overflow_cast-result c = omega (arith, c.word_at.ensures, count_fits_lem c.args.bundle.now c.requires.bundle_value c.args.k c.requires.k_bound)
