use native.Mathlib.Omega.{arith}
use Rattle.std.proofs.lemmas.Result.{err_from_is_err_and}
use Rattle.ancestry.proofs.Climbs.{climbing_starts, climbing_next, climbing_hold, climbing_back, climbing_far, climbing_ended, climbing_refused, limit_small}
use Rattle.reads.proofs.Outcomes.{there_is, none_is, refused_is}
use Rattle.ancestry.proofs.class_chain.climb_from.Goals.{then-count-hold, else-count-hold}
use Rattle.ancestry.proofs.class_chain.climb_from.Goals as goal

pub loop-count-init : goal.loop-count-init
loop-count-init c = climbing_starts _ _ c.requires

pub returns-in_err-up : goal.returns-in_err-up
returns-in_err-up c =
    let found = rw c.superclass_at.ensures at c.optional.ensures in
    let p = err_from_is_err_and c.from_residual.result c.from_residual.ensures.1 in
    rw (p.1, p.2) (climbing_refused _ _ _ _ _ c.loop-count.invariant (refused_is found c.in_err-up.was) (omega (arith, c.limit_of-most.ensures)))

pub returns-in_default : goal.returns-in_default
returns-in_default c =
    let found = rw c.superclass_at.ensures at c.optional.ensures in
    let none = none_is found c.in_ok-up.was c.in_default.is in
    rw c.last_at.ensures (climbing_ended _ _ _ _ _ c.loop-count.invariant none.1 (omega (arith, c.limit_of-most.ensures)))

pub returns-then-up-held : goal.returns-then-up-held
returns-then-up-held c =
    let found = rw c.superclass_at.ensures at c.optional.ensures in
    climbing_back _ _ _ _ _ c.loop-count.invariant (there_is found c.in_ok-up.was c.in-Some.is) c.if-up-held.true

pub overflow_mul-hold : goal.overflow_mul-hold
overflow_mul-hold c = omega (arith, limit_small c.args.asked.now.tables.now c.args.asked.now.passes, c.limit_of-most.ensures)

pub loop-count-preserved : goal.loop-count-preserved
loop-count-preserved c =
    let found = rw c.superclass_at.ensures at c.optional.ensures in
    let up = there_is found c.in_ok-up.was c.in-Some.is in
    elim c.if-count-hold.branch [
      | then-count-hold w ↦ climbing_hold _ _ _ _ _ c.loop-count.invariant up w.held-is
      | else-count-hold w ↦ climbing_next _ _ _ _ _ c.loop-count.invariant up w.held-is
    ]

pub returns : goal.returns
returns c = climbing_far _ _ _ _ _ c.loop-count.invariant (omega (arith, c.limit_of-most.ensures)) (omega (arith, c.limit_of-most.ensures))
