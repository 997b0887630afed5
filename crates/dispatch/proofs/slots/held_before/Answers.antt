use mathlib.Core.Path.{refl}
use native.Mathlib.Omega.{arith}
use Rattle.std.proofs.Common.{sym, ◌∙◌}
use Rattle.walks.specs.Slots.{among}
use Rattle.dispatch.proofs.Held.{held_there, held_other, held_here, held_on, held_nowhere}
use Rattle.dispatch.proofs.slots.held_before.Goals as goal

pub loop-i-init : goal.loop-i-init
unfolding among
loop-i-init c = refl

pub returns-then-eq : goal.returns-then-eq
returns-then-eq c = held_here _ _ _ _ c.loop-i-test.true c.requires.0 refl (held_there c.args.va c.listed_at.result c.listed_at.ensures (rw c.ok.ensures.value at (sym c.eq.ensures ∙ c.if-eq.true)))

pub loop-i-preserved : goal.loop-i-preserved
loop-i-preserved c =
    held_on _ _ _ (omega (arith, c.requires.0)) c.loop-i.invariant refl
    (held_other c.args.va c.listed_at.result c.listed_at.ensures (rw c.ok.ensures.value at (sym c.eq.ensures ∙ c.if-eq.false)) c.requires.1)

pub returns : goal.returns
returns c = held_nowhere _ _ _ c.loop-i.i (omega arith) c.loop-i.invariant
