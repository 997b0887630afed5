use native.Mathlib.Omega.{arith}
use Rattle.std.proofs.lemmas.Result.{err_from_is_err_and}
use Rattle.reads.proofs.Outcomes.{refused_is}
use Rattle.ancestry.proofs.Lists.{count_more, count_same, count_refused, count_end}
use Rattle.ancestry.proofs.class_list.count_all.Goals.{then-is_some, else-is_some}
use Rattle.ancestry.proofs.class_list.count_all.Goals as goal

pub returns-in_err-optional : goal.returns-in_err-optional
returns-in_err-optional c =
    let a = c.args in
    let at = c.loop-va in
    let found = rw c.told_at.ensures at c.optional.ensures in
    let p = err_from_is_err_and c.from_residual.result c.from_residual.ensures.1 in
    rw (p.1, p.2) (count_refused _ a.classes.now.list.now at.count at.va-index c.loop-va-test.true at.invariant.1 (refused_is found c.in_err-optional.was))

pub loop-va-preserved : goal.loop-va-preserved
loop-va-preserved c =
    let a = c.args in
    let at = c.loop-va in
    let found = rw c.told_at.ensures at c.optional.ensures in
    elim c.if-is_some.branch [
      | then-is_some w ↦ (
        omega (arith, at.invariant.0, w.count-is),
        rw w.count-is (count_more _ a.classes.now.list.now at.count at.va-index c.loop-va-test.true at.invariant.1 found _ c.in_ok-optional.was c.is_some.ensures w.if-is_some.true),
      )
      | else-is_some w ↦ (
        omega (arith, at.invariant.0, w.count-is),
        rw w.count-is (count_same _ a.classes.now.list.now at.count at.va-index c.loop-va-test.true at.invariant.1 found _ c.in_ok-optional.was c.is_some.ensures w.if-is_some.false),
      )
    ]

pub returns : goal.returns
returns c =
    let a = c.args in
    let at = c.loop-va in
    count_end _ a.classes.now.list.now at.count at.va-index (omega arith) at.invariant.1
