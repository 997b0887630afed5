use mathlib.Core.Path.{ap, ◌∙◌}
use Rattle.attributes.specs.Pass.{chosen_left_of}
use Rattle.attributes.proofs.Passes.{filling_start, filling_next, filling_end}
use Rattle.attributes.proofs.pass.write_items.Goals as goal

pub loop-i-init : goal.loop-i-init
loop-i-init c =
    let same = c.into_iter-i-iterator.ensures.into_iter_gives in
    filling_start (chosen_left_of c.args.handed) c.args.buffer.now c.requires
    (ap (λ x. chosen_left_of x.iter) same ∙ ap chosen_left_of c.enumerate-i-items.ensures.source)
    (ap (λ x. x.count) same ∙ c.enumerate-i-items.ensures.count)

pub loop-i-preserved : goal.loop-i-preserved
loop-i-preserved c =
    let steps = c.in-Some.ensures.steps in
    filling_next c.loop-i.invariant steps.0 steps.1 steps.2 c.copy_from_slice.ensures.after

pub returns : goal.returns
returns c = filling_end (chosen_left_of c.args.handed) c.args.buffer.now c.requires c.loop-i.invariant c.in-None.ensures.steps.0.0
