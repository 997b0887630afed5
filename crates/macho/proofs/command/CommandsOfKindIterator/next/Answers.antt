use Rattle.std.proofs.Common.{ℕ, List, rules, ap, length, ◌∙◌, refl, sym}
use native.Mathlib.Omega.{arith}
use Rattle.macho.proofs.Commands as laws
use Rattle.macho.specs.declared.command.CommandsOfKind.{CommandsOfKind}
use Rattle.macho.proofs.command.CommandsOfKindIterator.next.Goals as goal

pub loop-left-init : goal.loop-left-init
loop-left-init c = (refl, refl)

pub overflow_add-next : goal.overflow_add-next
overflow_add-next c =
    let fit = sym c.command_fits.ensures ∙ c.if-not-command_fits.false in
    let r = laws.room c.loop-left.self.bytes.now c.loop-left.at fit in
    let n = ap (λ (s : CommandsOfKind). length s.bytes.now) c.loop-left.invariant.0 in
    let e = c.field32.ensures.0 in omega (arith, r, n, e)

pub returns-then-field32-self-clause-steps : goal.returns-then-field32-self-clause-steps
returns-then-field32-self-clause-steps c =
    let fit = sym c.command_fits.ensures ∙ c.if-not-command_fits.false in
    let here = laws.kinds_here c.loop-left.self.kind c.loop-left.self.bytes.now c.loop-left.left c.loop-left.at _ (omega arith) fit c.field32.ensures.0 (sym c.field32-in-loop-left.ensures.0 ∙ c.if-field32-self.true) in
    c.loop-left.invariant.1 ∙ here

pub loop-left-preserved : goal.loop-left-preserved
loop-left-preserved c =
    let fit = sym c.command_fits.ensures ∙ c.if-not-command_fits.false in
    let next = laws.kinds_next c.loop-left.self.kind c.loop-left.self.bytes.now c.loop-left.left c.loop-left.at _ (omega arith) fit c.field32.ensures.0 (λ e. c.if-field32-self.false (c.field32-in-loop-left.ensures.0 ∙ e)) in
    (c.loop-left.invariant.0, c.loop-left.invariant.1 ∙ next)

pub returns-after-loop-left-clause-steps : goal.returns-after-loop-left-clause-steps
returns-after-loop-left-clause-steps c =
    let stays = ap (λ (s : CommandsOfKind). s.left) c.loop-left.invariant.0 in
    (c.loop-left.invariant.1 ∙ laws.kinds_end _ _ _ _ (omega arith), laws.kinds_end _ _ _ _ (omega (arith, stays)))

pub returns-then-not-command_fits-clause-steps : goal.returns-then-not-command_fits-clause-steps
returns-then-not-command_fits-clause-steps c =
    let stays = ap (λ (s : CommandsOfKind). s.left) c.loop-left.invariant.0 in (
      c.loop-left.invariant.1 ∙ laws.kinds_none _ _ _ _ (sym c.command_fits.ensures ∙ c.if-not-command_fits.true),
      laws.kinds_end _ _ _ _ (omega (arith, stays)),
    )

pub returns-then-field32-self-clause-goes : goal.returns-then-field32-self-clause-goes
returns-then-field32-self-clause-goes c =
    let fewer = ap (λ (l : List ℕ). length l) (returns-then-field32-self-clause-steps c) in search rules
