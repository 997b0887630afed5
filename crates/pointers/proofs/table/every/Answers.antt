use Rattle.std.proofs.Common.{◌≡◌, refl, sym, ◌∙◌, arith}
use Rattle.pointers.specs.Question.{every}
use Rattle.pointers.proofs.Questions.{every_more, every_fails}
use Rattle.pointers.proofs.table.every.Goals as goal

pub loop-i-init : goal.loop-i-init
unfolding every
loop-i-init g c = λ test says. refl

pub loop-i-preserved : goal.loop-i-preserved
loop-i-preserved g c = λ test says.
    every_more test c.loop-i.i (c.loop-i.invariant test says)
    (sym (says _ _ c.loop-i-test.true c.passes.ensures) ∙ c.if-not-passes.false)

pub returns-then-not-passes : goal.returns-then-not-passes
returns-then-not-passes g c = λ test says.
    every_fails test _ _ c.loop-i-test.true
    (sym (says _ _ c.loop-i-test.true c.passes.ensures) ∙ c.if-not-passes.true)

pub returns : goal.returns
returns g c = λ test says.
    let past : c.loop-i.i ≡ c.args.n = omega arith in
    sym (rw past at c.loop-i.invariant test says)
