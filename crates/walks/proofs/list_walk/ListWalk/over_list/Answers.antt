use Rattle.records.proofs.Readables.{found_below_count}
use mathlib.Core.Path.{◌≡◌, refl, sym, ap}
use native.Mathlib.Omega.{arith}
use Rattle.records.specs.declared.list.Layout.{Layout}
use Rattle.walks.specs.Walk.{over_rows}
use Rattle.walks.proofs.Steps.{list_on}
use borrow.Author.Rules.{rules}
use Rattle.walks.proofs.list_walk.ListWalk.over_list.Goals as goal

pub settle-requires : goal.settle-requires
settle-requires c =
    let same : c.layout-h.result.count ≡ c.args.list.now.layout.count = ap (λ (h : Layout). h.count) c.layout-h.ensures in
    omega (arith, found_below_count _ _ _ _ (sym c.in-Some.ensures.search))

pub returns-in-Some : goal.returns-in-Some
unfolding over_rows
returns-in-Some c =
    let e = c.in-Some.ensures.entry in
    list_on _ _ _ _ _ refl (search rules) (rw (← c.in-Some.ensures.search, ← e.0, ← e.1, ← e.2) c.settle.ensures)

pub returns-in-None : goal.returns-in-None
unfolding over_rows
returns-in-None c = list_on _ _ _ _ _ refl (search rules) (rw (← c.in-None.ensures.search, ← c.layout-h.ensures) c.at.ensures)
