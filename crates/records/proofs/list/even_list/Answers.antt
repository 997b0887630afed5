use mathlib.Core.Path.{sym}
use borrow.Author.Tests.{eq-eqb, ne_eqb}
use Rattle.reads.proofs.Tests.{choose_true, choose_false}
use Rattle.records.specs.Ask.{even_list}
use Rattle.records.proofs.list.even_list.Goals as goal

pub returns-then-va-eq0 : goal.returns-then-va-eq0
unfolding even_list
returns-then-va-eq0 c = sym (choose_true _ _ (eq-eqb _ _ c.if-va-eq0.true))

pub returns : goal.returns
unfolding even_list
returns c = sym (choose_false _ _ (ne_eqb _ _ c.if-va-eq0.false))
