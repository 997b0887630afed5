use mathlib.Core.Path.{refl}
use Rattle.listing.proofs.Measured.{measured}
use Rattle.printing.proofs.BundleAnswers.{counted_is, uncounted_is}
use Rattle.std.proofs.lemmas.Result.{err_from_is_err_and}
use Rattle.printing.proofs.bundle.Bundle.of.Goals as goal

pub invariant_of-result : goal.invariant_of-result
invariant_of-result c = record { accepted = measured _ _ _ c.measure.ensures c.in_ok-counts.was }

pub returns : goal.returns
returns c =
    (refl, counted_is _ c.measure.result c.measure.ensures _ c.in_ok-counts.was)

pub returns-in_err-counts : goal.returns-in_err-counts
returns-in_err-counts c =
    let p = err_from_is_err_and c.from_residual.result c.from_residual.ensures.1 in
    rw (p.1, p.2) (uncounted_is _ c.measure.result c.measure.ensures _ c.in_err-counts.was)
