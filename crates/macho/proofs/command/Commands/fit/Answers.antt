use Rattle.macho.proofs.Commands as laws
use native.Mathlib.Omega.{arith}
use Prim.Native.Nat.{◌+◌, ◌-◌}
use mathlib.Core.Path.{◌≡◌, sym, ◌∙◌}
use Rattle.macho.proofs.command.Commands.fit.Goals as goal

pub loop-init : goal.loop-init
loop-init c = let e : c.args.self.count - 0 ≡ c.args.self.count = omega arith in rw e

pub returns-then-not-command_fits : goal.returns-then-not-command_fits
returns-then-not-command_fits c = laws.all_not c.args.self.bytes.now (c.args.self.count - c.loop.counter) c.loop.at (omega arith) (sym c.command_fits.ensures ∙ c.if-not-command_fits.true) ∙ sym c.loop.invariant

pub overflow_add-at : goal.overflow_add-at
overflow_add-at c = let r = laws.room c.args.self.bytes.now c.loop.at (sym c.command_fits.ensures ∙ c.if-not-command_fits.false) in omega arith

pub loop-preserved : goal.loop-preserved
loop-preserved c =
    let e : c.args.self.count - (c.loop.counter + 1) ≡ c.args.self.count - c.loop.counter - 1 = omega arith in
    c.loop.invariant ∙ rw e (laws.all_on c.args.self.bytes.now (c.args.self.count - c.loop.counter) c.loop.at (omega arith) _ (sym c.command_fits.ensures ∙ c.if-not-command_fits.false) c.field32-at.ensures.0)

pub returns : goal.returns
returns c = laws.all_end _ _ _ (omega arith) ∙ sym c.loop.invariant
