use Prim.Native.Nat.{◌/◌}
use lib.ListN.{length}
use native.Mathlib.Omega.{arith}
use Rattle.ancestry.proofs.Starts.{starting_ready, starting_small, starting_more}
use Rattle.ancestry.proofs.following.first_all.Goals as goal

pub first-s-requires : goal.first-s-requires
first-s-requires c =
    let a = c.args in
    let at = c.loop-i in
    rw at.invariant.size (starting_ready _ (length a.res.now / 3) a.res.now c.requires at.i at.res at.invariant c.loop-i-test.true)

pub put_state-requires : goal.put_state-requires
put_state-requires c =
    let a = c.args in
    let at = c.loop-i in
    let small = starting_small _ (length at.res / 3) a.res.now a.falling.now.asked.now.passes at.i at.res c.first-s.result c.first-s.ensures in
    (omega (arith, at.invariant.size), small)

pub loop-i-preserved : goal.loop-i-preserved
loop-i-preserved c =
    let a = c.args in
    let at = c.loop-i in
    rw c.put_state.ensures
    (starting_more _ (length a.res.now / 3) a.res.now c.requires at.i at.res at.invariant c.loop-i-test.true c.first-s.result (rw at.invariant.size at c.first-s.ensures))
