use Rattle.reads.proofs.Tests.{choose_true, choose_false}
use mathlib.Core.Path.{sym}
use borrow.Author.Tests.{eq-eqb, ne_eqb}
use Rattle.records.specs.Row.{legacy_imp}
use Rattle.records.proofs.method.legacy_imp.Goals as goal

pub returns-then-va-eq0 : goal.returns-then-va-eq0
unfolding legacy_imp
returns-then-va-eq0 c = sym (choose_true _ _ (eq-eqb _ _ c.if-va-eq0.true))

pub returns : goal.returns
unfolding legacy_imp
returns c = sym (choose_false _ _ (ne_eqb _ _ c.if-va-eq0.false))
