use mathlib.Core.Path.{refl}
use Rattle.dispatch.proofs.SelectorTable.{naming_start, naming_next, naming_end}
use Rattle.dispatch.proofs.table.Selectors.name.Goals as goal

pub loop-j-init : goal.loop-j-init
loop-j-init c = (naming_start _ _ _ _, refl, refl)

pub loop-j-preserved : goal.loop-j-preserved
loop-j-preserved c = (naming_next _ _ _ _ c.loop-j.invariant.0 c.loop-j-test.true c.origin_of.ensures, c.loop-j.invariant.1, c.loop-j.invariant.2)

pub returns-clause-named : goal.returns-clause-named
returns-clause-named c = naming_end _ _ _ _ c.loop-j.invariant.0 c.loop-j-test.false
