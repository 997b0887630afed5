use Rattle.std.proofs.Common.{ℕ, List, rules, ap, length, arith}
use Rattle.usage.proofs.Passes as laws
use Rattle.usage.proofs.names.SlotsIterator.next.Goals as goal

pub returns-then-not-has_slot-clause-steps : goal.returns-then-not-has_slot-clause-steps
returns-then-not-has_slot-clause-steps c = let e = laws.slots_none _ _ _ c.has_slot.ensures c.if-not-has_slot.true in (e, e)

pub overflow_add-self : goal.overflow_add-self
overflow_add-self c = let low = laws.slot_in_64 _ _ _ c.has_slot.ensures c.if-not-has_slot.false in omega arith

pub overflow_mul-result : goal.overflow_mul-result
overflow_mul-result c = let low = laws.slot_in_64 _ _ _ c.has_slot.ensures c.if-not-has_slot.false in omega arith

pub overflow_add-result : goal.overflow_add-result
overflow_add-result c = let low = laws.slot_in_64 _ _ _ c.has_slot.ensures c.if-not-has_slot.false in omega arith

pub returns-clause-steps : goal.returns-clause-steps
returns-clause-steps c = laws.slots_first _ _ _ c.has_slot.ensures c.if-not-has_slot.false

pub returns-clause-goes : goal.returns-clause-goes
returns-clause-goes c = let fewer = ap (λ (l : List ℕ). length l) (laws.slots_first _ _ _ c.has_slot.ensures c.if-not-has_slot.false) in search rules
