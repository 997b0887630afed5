use Rattle.universal.proofs.Searches as laws
use Prim.Native.Nat.{◌-◌}
use native.Mathlib.Omega.{arith}
use mathlib.Core.Path.{◌≡◌, sym, ◌∙◌}
use Rattle.universal.proofs.arch.first_arch.Goals as goal

pub loop-i-init : goal.loop-i-init
loop-i-init g c = λ test says. let e : c.args.table.count - 0 ≡ c.args.table.count = omega arith in rw e

pub returns-then-passes : goal.returns-then-passes
returns-then-passes g c = λ test says.
    laws.first_here c.args.table.file.now c.args.table.kind test _ _ (omega arith)
    (rw (← c.arch_at.ensures) (sym (says _ _ c.passes.ensures) ∙ c.if-passes.true)) ∙ sym (c.loop-i.invariant test says)

pub loop-i-preserved : goal.loop-i-preserved
loop-i-preserved g c = λ test says.
    c.loop-i.invariant test says
    ∙ laws.first_on c.args.table.file.now c.args.table.kind test _ _ (omega arith) _ (omega arith)
    (rw (← c.arch_at.ensures) (sym (says _ _ c.passes.ensures) ∙ c.if-passes.false))

pub returns : goal.returns
returns g c = λ test says.
    laws.first_end c.args.table.file.now c.args.table.kind test _ _ (omega arith) ∙ sym (c.loop-i.invariant test says)
