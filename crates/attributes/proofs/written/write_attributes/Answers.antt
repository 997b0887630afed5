use native.Mathlib.Omega.{arith}
use Rattle.attributes.proofs.WrittenAnswers.{asked_number, asked_value}
use Rattle.attributes.proofs.written.write_attributes.Goals as goal

pub returns-then-out-len : goal.returns-then-out-len
returns-then-out-len c =
    let a = c.args in
    let h = asked_number a.text.now a.declared a.unknown.now a.out.now c.put_all-len.ensures c.if-out-len.true in
    record { outcome = h.0; contents = h.1 }

pub returns : goal.returns
returns c =
    let first = c.put_all-len in
    let a = c.args in
    let h = asked_value a.text.now a.declared a.unknown.now a.out.now first.ensures (omega arith) c.if-out-len.false c.put_all.ensures in
    record { outcome = h.0; contents = h.1 }
