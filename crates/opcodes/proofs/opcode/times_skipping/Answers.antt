use Rattle.std.proofs.Common.{rules, ◌≡◌, Ok}
use Rattle.opcodes.proofs.Decoding as laws
use Rattle.opcodes.proofs.Sizes.{uleb_in}
use Rattle.opcodes.proofs.opcode.times_skipping.Goals as goal

pub skipping-requires : goal.skipping-requires
skipping-requires c =
    let a = c.args in
    let e : c.number.result ≡ Ok c.in_ok-u.u = search rules in
    uleb_in a.rest.now _ (laws.number_there a.rest.now c.number.result c.number.ensures _ e)
