use Rattle.std.proofs.Common.{◌≡◌, length, sym, refl, ap, ◌∙◌, arith, take_all}
use Rattle.listing.specs.Bundle.{words_from}
use Rattle.listing.proofs.BundleWords.{words_more}
use Rattle.listing.proofs.bundle.words_at.Goals as goal

pub loop-i-init : goal.loop-i-init
unfolding words_from
loop-i-init c = refl

pub loop-i-preserved : goal.loop-i-preserved
loop-i-preserved c = words_more _ _ _ _ _ (omega arith) c.loop-i.invariant c.u64_from.ensures

pub returns : goal.returns
returns c =
    let past : c.loop-i.i ≡ length c.args.to.now = omega arith in
    sym (take_all c.loop-i.i c.loop-i.to (omega arith)) ∙ c.loop-i.invariant ∙ ap (words_from _ _) past
