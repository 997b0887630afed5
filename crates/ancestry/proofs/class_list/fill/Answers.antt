use Prim.Native.Nat.{◌*◌}
use mathlib.Core.Path.{ap}
use mathlib.Core.List.{◌++◌}
use native.Mathlib.Omega.{arith}
use lib.ListN.{drop, length-take}
use Rattle.ancestry.proofs.UnfollowedRows.{told_fits, fill_alone, fill_unfollowed, fill_told, rows_alone, alone_told}
use Rattle.ancestry.proofs.class_list.fill.Goals as goal

pub write_all-requires : goal.write_all-requires
write_all-requires c =
    let a = c.args in
    told_fits _ a.count a.classes.now.list.now a.res.now c.requires.counted c.requires.room

pub returns-then-not-classes : goal.returns-then-not-classes
returns-then-not-classes c =
    let a = c.args in
    fill_alone _ a.classes.now.together a.classes.now.list.now a.res.now _ c.if-not-classes.true c.write_all.ensures

pub follow_all-requires : goal.follow_all-requires
follow_all-requires c =
    let a = c.args in
    let s = fill_unfollowed _ a.classes.now.together a.count a.classes.now.list.now a.res.now _ c.requires c.if-not-classes.false c.write_all.ensures in
    rows_alone _ a.count _ s _ (omega (arith, s.room, length-take (a.count * 3) c.write_all.new.res))

pub returns : goal.returns
returns c =
    let a = c.args in
    fill_told _ a.classes.now.together a.count a.classes.now.list.now a.res.now _ c.requires c.if-not-classes.false c.write_all.ensures _
    (λ s. ap (λ l. l ++ drop (a.count * 3) c.write_all.new.res)
    (alone_told _ a.count _ s _ (omega (arith, s.room, length-take (a.count * 3) c.write_all.new.res)) c.follow_all.new.res c.follow_all.ensures))
