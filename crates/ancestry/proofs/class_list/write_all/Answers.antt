use Rattle.std.proofs.Common.{rules, arith, [], ◌∷◌, length-append}
use Rattle.std.proofs.lemmas.Iterator.{YieldsList-from_slice}
use Rattle.std.proofs.lemmas.Iterator.Consumers.{YieldsList-at, YieldsList-from_filter_map, YieldsList-from_enumerate, YieldsList-turn, YieldsList-end}
use Rattle.ancestry.specs.Filling.{told_of, found}
use Rattle.ancestry.proofs.Fillings.{filled_none, filled_room, filled_more, filled_end}
use Rattle.ancestry.proofs.class_list.write_all.Goals as goal

pub loop-k-init : goal.loop-k-init
loop-k-init c = let a = c.args in filled_none (told_of a.classes.now.asked.now.tables.now a.classes.now.together) a.classes.now.list.now a.res.now

pub put_row-requires : goal.put_row-requires
put_row-requires c =
    let a = c.args in
    let one = told_of a.classes.now.asked.now.tables.now a.classes.now.together in
    let turn = YieldsList-turn (YieldsList-from_enumerate {s = c.into_iter-k-iterator.result} (YieldsList-at (cc) (YieldsList-from_filter_map _ (λ va. found (one va)) (YieldsList-at c.filter_map-rows.ensures.source (YieldsList-from_slice a.classes.now.list.now cc)) c.filter_map-rows.ensures.closure (λ x r q k. search rules))) (cc))
    c.loop-k.yielded _ c.loop-k.yielded_by _ c.next.new.self (c.in-Some.k, c.in-Some.row) c.in-Some.is c.next.ensures.steps in
    filled_room one a.classes.now.list.now a.res.now c.requires _ _ _ _ turn c.loop-k.invariant

pub loop-k-preserved : goal.loop-k-preserved
loop-k-preserved c =
    let a = c.args in
    let one = told_of a.classes.now.asked.now.tables.now a.classes.now.together in
    let turn = YieldsList-turn (YieldsList-from_enumerate {s = c.into_iter-k-iterator.result} (YieldsList-at (cc) (YieldsList-from_filter_map _ (λ va. found (one va)) (YieldsList-at c.filter_map-rows.ensures.source (YieldsList-from_slice a.classes.now.list.now cc)) c.filter_map-rows.ensures.closure (λ x r q k. search rules))) (cc))
    c.loop-k.yielded _ c.loop-k.yielded_by _ c.next.new.self (c.in-Some.k, c.in-Some.row) c.in-Some.is c.next.ensures.steps in
    rw c.put_row.ensures (filled_more one a.classes.now.list.now a.res.now _ _ _ _ turn c.loop-k.invariant _ (omega (arith, length-append c.loop-k.yielded ((c.in-Some.k, c.in-Some.row) ∷ []))))

pub returns : goal.returns
returns c =
    let a = c.args in
    let one = told_of a.classes.now.asked.now.tables.now a.classes.now.together in
    let end = YieldsList-end (YieldsList-from_enumerate {s = c.into_iter-k-iterator.result} (YieldsList-at (cc) (YieldsList-from_filter_map _ (λ va. found (one va)) (YieldsList-at c.filter_map-rows.ensures.source (YieldsList-from_slice a.classes.now.list.now cc)) c.filter_map-rows.ensures.closure (λ x r q k. search rules))) (cc))
    c.loop-k.yielded _ c.loop-k.yielded_by _ c.next.new.self c.in-None.is c.next.ensures.steps in
    filled_end one a.classes.now.list.now a.res.now c.requires _ _ end.1 c.loop-k.invariant
