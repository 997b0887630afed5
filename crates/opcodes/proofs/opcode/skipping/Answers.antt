use Rattle.std.proofs.Common.{rules, ◌≡◌, ◌-◌, length, drop, Ok, arith, length-drop, take_all}
use Rattle.opcodes.proofs.Decoding as laws
use Rattle.opcodes.proofs.Sizes.{uleb_in}
use Rattle.opcodes.proofs.opcode.skipping.Goals as goal

pub overflow_add-result-2 : goal.overflow_add-result-2
overflow_add-result-2 c =
    let a = c.args in
    let e : c.number.result ≡ Ok c.in_ok-u.u = search rules in
    omega (arith, uleb_in (drop a.n a.rest.now) _ (laws.number_there (drop a.n a.rest.now) c.number.result (rw (take_all (length a.rest.now - a.n) (drop a.n a.rest.now) (omega (arith, length-drop a.n a.rest.now))) at c.number.ensures) _ e), length-drop a.n a.rest.now)
