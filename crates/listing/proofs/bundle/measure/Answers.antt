use Rattle.std.proofs.Common.{sym, ap, ◌∙◌, arith}
use borrow.Author.Tests.{not-true, not-false}
use Rattle.listing.specs.Bundle.{said_length}
use Rattle.listing.proofs.Measured.{too_long, other_counts, other_said, exact_length}
use Rattle.std.proofs.Common.{not}
use Rattle.listing.proofs.bundle.measure.Goals as goal

pub returns-then-n-gt-LONGEST : goal.returns-then-n-gt-LONGEST
returns-then-n-gt-LONGEST c = too_long _ (omega arith)

pub returns-then-not-counts_fit : goal.returns-then-not-counts_fit
returns-then-not-counts_fit c = other_counts _ (omega arith) (sym c.counts_fit.ensures ∙ not-true _ (ap not c.if-not-counts_fit.true))

pub counts_of-counts-requires : goal.counts_of-counts-requires
counts_of-counts-requires c = sym c.counts_fit.ensures ∙ not-false _ (ap not c.if-not-counts_fit.false)

pub returns-then-said-bundle : goal.returns-then-said-bundle
returns-then-said-bundle c = other_said _ _ _ c.said_length-said.ensures c.if-said-bundle.true c.counts_of-counts.ensures

pub returns : goal.returns
returns c =
    let same = c.counts_of-counts.ensures in
    exact_length _ _ same (omega arith) (sym c.if-said-bundle.false ∙ c.said_length-said.ensures ∙ ap said_length same)
