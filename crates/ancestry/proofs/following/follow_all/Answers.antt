use mathlib.Core.Path.{◌≡◌, ap, sym, ◌∙◌}
use Prim.Native.Nat.{◌/◌}
use lib.ListN.{length}
use native.Mathlib.Omega.{arith}
use Rattle.pointers.specs.Tables.{Tables}
use Rattle.ancestry.specs.Ancestry.{limit}
use Rattle.ancestry.specs.Following.{ground_of}
use Rattle.ancestry.proofs.Climbs.{limit_small}
use Rattle.ancestry.proofs.Finishes.{followed_records}
use Rattle.ancestry.proofs.following.follow_all.Goals as goal

pub invariant_of-most : goal.invariant_of-most
invariant_of-most c = omega (arith, limit_small c.args.falling.now.asked.now.tables.now c.args.falling.now.asked.now.passes, c.limit_of.ensures)

pub returns : goal.returns
returns c =
    let a = c.args in
    let t : Tables = c.args.falling.now.asked.now.tables.now in
    let listed = length a.res.now / 3 in
    let g = ground_of t a.res.now listed in
    let most : limit t ≡ c.limit_of.result = sym c.limit_of.ensures in
    let w = c.follow.ensures.followed g a.res.now most (ap (λ n. n / 3) (sym c.first_all.ensures.size)) c.first_all.ensures in
    let size : length c.follow.new.out ≡ length a.res.now = c.follow.ensures.size ∙ c.first_all.ensures.size in
    λ s. c.finish_all.ensures ∙ rw size (followed_records t listed a.res.now _ s (rw (← most) at w))
