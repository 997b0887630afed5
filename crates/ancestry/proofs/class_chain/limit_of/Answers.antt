use Prim.Native.Nat.{◌/◌, ◌<◌, ◌≤◌, ◌^◌}
use lib.ListN.{length}
use borrow.Author.Rules.{rules}
use native.Mathlib.Omega.{arith}
use Rattle.ancestry.proofs.Climbs.{limit_fits, limit_room}
use Rattle.ancestry.proofs.class_chain.limit_of.Goals as goal

pub overflow_mul-result : goal.overflow_mul-result
overflow_mul-result c =
    let asked = c.args.asked.now in
    let room = limit_room asked.tables.now asked.passes in
    let few : length c.segments.result.now / 5 ≤ 64 = search rules in
    let short : c.longest.result < 2 ^ 32 = search rules in
    omega (arith, limit_fits (length c.segments.result.now / 5) c.longest.result few short)
