use Prim.Native.Nat.{◌+◌, ◌<◌}
use mathlib.Core.Path.{◌≡◌, ap}
use mathlib.Core.List.{[]}
use borrow.Author.Rules.{rules}
use native.Mathlib.Omega.{arith}
use lib.ListN.{length, get_or}
use Rattle.attributes.specs.Pass.{items_left_of}
use Rattle.attributes.proofs.ValueEnds.{value_inside}
use Rattle.attributes.proofs.AttributeItems.{items_next, items_end}
use Rattle.attributes.proofs.pass.ItemsIterator.next.Goals as goal

pub returns-in_err-key-clause-steps : goal.returns-in_err-key-clause-steps
returns-in_err-key-clause-steps c =
    let s = c.args.self.now in
    let e : items_left_of s ≡ [] = items_end s.text.now s.at (omega (arith, c.in_err-key.ensures.lookup)) in
    rw c.from_residual.ensures (e, e)

pub overflow_add-self : goal.overflow_add-self
overflow_add-self c =
    let s = c.args.self.now in
    let h : s.at < length s.text.now = omega (arith, c.in_ok-key.ensures.lookup) in
    omega (arith, c.value_end-end.ensures, value_inside s.text.now (s.at + 1) (omega arith))

pub returns-clause-steps : goal.returns-clause-steps
returns-clause-steps c =
    let s = c.args.self.now in
    let h : s.at < length s.text.now = omega (arith, c.in_ok-key.ensures.lookup) in
    let key : c.in_ok-key.field-0.now ≡ get_or s.text.now s.at 0 = search rules in
    rw (c.item_of.ensures, key) (items_next s.text.now s.at c.value_end-end.result h c.value_end-end.ensures)

pub returns-clause-goes : goal.returns-clause-goes
returns-clause-goes c =
    let fewer = returns-clause-steps c in
    record { on = λ f. (tt, search rules, omega (arith, ap length fewer)); keeps = tt; rests = λ f. search rules }
