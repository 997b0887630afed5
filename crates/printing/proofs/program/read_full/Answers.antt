use Prim.Native.Nat.{◌≤◌}
use lib.ListN.{length}
use native.Mathlib.Omega.{arith}
use Rattle.printing.proofs.Filling.{read_inside, read_more}
use Rattle.printing.proofs.program.read_full.Goals as goal

pub loop-len-preserved : goal.loop-len-preserved
loop-len-preserved g c =
    let h = c.loop-len.invariant in
    let e = c.in-Ok.ensures in
    let n = c.in-Ok.n in
    let fits : n ≤ length c.read.new.buf = omega (arith, e.bound) in
    (read_inside c.loop-len.to c.read.new.buf _ c.loop-len.len n h.0 fits, read_more c.loop-len.to c.read.new.buf _ c.loop-len.len n h.0 fits _ _ _ h.1 e.bytes.0)
