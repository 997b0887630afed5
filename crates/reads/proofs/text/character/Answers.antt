-- `reads::text::character` meets its contract: each arm is the row of the grammar of that number.
use Rattle.std.proofs.Common.{refl, arith}
use Rattle.reads.proofs.Passes.{one_due, two_due, three_due, character_under, character_over}
use Rattle.reads.proofs.text.character.Goals as goal

pub returns-in-224 : goal.returns-in-224
returns-in-224 c =
    let a = c.args in
    two_due a.s.now a.first 1 0xE0 0xE0 (omega arith) (omega arith) c.due.ensures c.tail.ensures refl

pub returns-in-237 : goal.returns-in-237
returns-in-237 c =
    let a = c.args in
    two_due a.s.now a.first 3 0xED 0xED (omega arith) (omega arith) c.due-in-237.ensures c.tail-in-237.ensures refl

pub returns-in-240 : goal.returns-in-240
returns-in-240 c =
    let a = c.args in
    three_due a.s.now a.first 5 0xF0 0xF0 (omega arith) (omega arith) c.due-in-240.ensures c.tail-in-240.ensures c.tail-in-240-2.ensures refl

pub returns-in-244 : goal.returns-in-244
returns-in-244 c =
    let a = c.args in
    three_due a.s.now a.first 7 0xF4 0xF4 (omega arith) (omega arith) c.due-in-244.ensures c.tail-in-244.ensures c.tail-in-244-2.ensures refl

pub returns-in-194-to-223 : goal.returns-in-194-to-223
returns-in-194-to-223 c =
    let a = c.args in
    one_due a.s.now a.first 0 0xC2 0xDF (omega arith) (omega arith) c.due-in-194-to-223.ensures refl

pub returns-in-225-to-236 : goal.returns-in-225-to-236
returns-in-225-to-236 c =
    let a = c.args in
    two_due a.s.now a.first 2 0xE1 0xEC (omega arith) (omega arith) c.due-in-225-to-236.ensures c.tail-in-225-to-236.ensures refl

pub returns-in-238-to-239 : goal.returns-in-238-to-239
returns-in-238-to-239 c =
    let a = c.args in
    two_due a.s.now a.first 4 0xEE 0xEF (omega arith) (omega arith) c.due-in-238-to-239.ensures c.tail-in-238-to-239.ensures refl

pub returns-in-241-to-243 : goal.returns-in-241-to-243
returns-in-241-to-243 c =
    let a = c.args in
    three_due a.s.now a.first 6 0xF1 0xF3 (omega arith) (omega arith) c.due-in-241-to-243.ensures c.tail-in-241-to-243.ensures c.tail-in-241-to-243-2.ensures refl

pub returns-in_default : goal.returns-in_default
returns-in_default c = let a = c.args in character_under a.s.now a.first (omega arith)

pub returns-in_default-2 : goal.returns-in_default-2
returns-in_default-2 c = let a = c.args in character_over a.s.now a.first (omega arith)
