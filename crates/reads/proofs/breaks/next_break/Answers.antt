use Rattle.reads.proofs.BreakSteps.{lowest_is_next_break, lowest_out, lowest_ends, lowest_more, readable_part_size}
use Rattle.reads.proofs.Lookups.{ends_not}
use Rattle.std.proofs.Common.{ℕ, ap, ◌∙◌, arith}
use Rattle.reads.specs.Breaks.{readable_part}
use Rattle.reads.proofs.breaks.next_break.Goals as goal

pub loop-s-init : goal.loop-s-init
loop-s-init c = rw (c.into_iter-s-iterator.ensures.into_iter_gives, c.rows-s-items.ensures) (lowest_is_next_break _ _)

pub returns-then-ends : goal.returns-then-ends
returns-then-ends c = rw (← c.image.view_is) (lowest_ends _ _ _ _ _ _ _ (rw c.in-Some.ensures.steps at c.loop-s.invariant) (cc))

pub overflow_add-s : goal.overflow_add-s
overflow_add-s c = omega (arith, ends_not c.in-Some.s (cc), c.readable_part-size.ensures, readable_part_size c.in-Some.s c.file_len-n.result c.args.least)

pub overflow_add-s-in-loop-s : goal.overflow_add-s-in-loop-s
overflow_add-s-in-loop-s c = omega (arith, ends_not c.in-Some.s (cc))

pub loop-s-preserved : goal.loop-s-preserved
loop-s-preserved c =
    lowest_more _ _ _ _ _ _ _ (rw c.in-Some.ensures.steps at c.loop-s.invariant) (cc) _ _ _ _
    (c.readable_part-size.ensures ∙ ap (λ (n : ℕ). readable_part n c.args.least c.in-Some.s) c.file_len-n.ensures)
    c.lower-best.ensures c.lower-best-in-loop-s.ensures c.lower-best-in-loop-s-2.ensures

pub returns : goal.returns
returns c = rw (← c.image.view_is) (lowest_out _ _ _ _ _ (rw c.in-None.ensures.steps.0 at c.loop-s.invariant))
