use Prim.Native.Nat.{◌/◌}
use mathlib.Core.Path.{sym, ap, ◌∙◌}
use lib.ListN.{length}
use native.Mathlib.Omega.{arith}
use Rattle.reads.specs.Answer.{outcome}
use Rattle.ancestry.proofs.Climbs.{climbing_next, climbing_hold, limit_small}
use Rattle.ancestry.proofs.Firsts.{first_starts, first_far, first_ended, first_listed, first_back}
use Rattle.ancestry.proofs.following.first_from.Goals.{then-count-hold, else-count-hold}
use Rattle.ancestry.proofs.following.first_from.Goals as goal

pub loop-count-init : goal.loop-count-init
loop-count-init c = let a = c.args in first_starts _ a.res.now (length a.res.now / 3) a.i _ c.requires

pub returns-in-Err : goal.returns-in-Err
returns-in-Err c =
    first_ended _ c.args.res.now _ c.args.i _ c.requires _ _ _ c.loop-count.invariant c.superclass_at.ensures c.args.falling.now.falls c.in-Err.is (omega (arith, c.limit_of-most.ensures)) c.ended_state.ensures

pub returns-then-count-most : goal.returns-then-count-most
returns-then-count-most c =
    first_listed _ c.args.res.now _ c.args.i _ c.requires _ _ _ c.loop-count.invariant c.superclass_at.ensures c.in-Ok.is
    _ c.in-Some.ensures.0 c.in-Some.ensures.1 (omega (arith, c.limit_of-most.ensures))

pub returns-then-up-held : goal.returns-then-up-held
returns-then-up-held c =
    first_back _ c.args.res.now _ c.args.i _ c.requires _ _ _ c.loop-count.invariant c.superclass_at.ensures c.in-Ok.is c.if-up-held.true

pub overflow_mul-hold : goal.overflow_mul-hold
overflow_mul-hold c = omega (arith, limit_small c.args.falling.now.asked.now.tables.now c.args.falling.now.asked.now.passes, c.limit_of-most.ensures)

pub loop-count-preserved : goal.loop-count-preserved
loop-count-preserved c =
    elim c.if-count-hold.branch [
      | then-count-hold w ↦ climbing_hold _ _ _ _ _ c.loop-count.invariant (sym c.superclass_at.ensures ∙ ap outcome c.in-Ok.is) w.held-is
      | else-count-hold w ↦ climbing_next _ _ _ _ _ c.loop-count.invariant (sym c.superclass_at.ensures ∙ ap outcome c.in-Ok.is) w.held-is
    ]

pub returns : goal.returns
returns c = first_far _ c.args.res.now _ c.args.i _ c.requires _ _ _ c.loop-count.invariant (omega (arith, c.limit_of-most.ensures))
