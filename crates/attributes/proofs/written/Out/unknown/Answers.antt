use mathlib.Core.Path.{ap, ◌∙◌}
use native.Mathlib.Omega.{arith}
use Rattle.attributes.proofs.PutParts.{rowing_start, rowing_next, rowing_end}
use Rattle.attributes.proofs.written.Out.unknown.Goals as goal

pub loop-row-init : goal.loop-row-init
loop-row-init c =
    let same = c.into_iter-row-iterator.ensures.into_iter_gives in
    let all = c.chunks_exact-row-items.ensures in
    rowing_start c.args.text.now c.args.rows.now (ap (λ x. x.rest.now) same ∙ all.rest) (ap (λ x. x.size) same ∙ all.size)

pub item_in-requires : goal.item_in-requires
item_in-requires c = c.in-Some.ensures.steps.1.1 ∙ c.loop-row.invariant.three

pub loop-row-preserved : goal.loop-row-preserved
loop-row-preserved c =
    let steps = c.in-Some.ensures.steps in
    rowing_next c.args.text.now c.args.rows.now c.loop-row.invariant c.in-Some.row.now (omega arith) steps.1.0 steps.1.1 steps.0
    c.item_in.ensures c.item.ensures

pub returns : goal.returns
returns c = rowing_end c.args.text.now c.args.rows.now c.loop-row.invariant c.in-None.ensures.steps.1.0
