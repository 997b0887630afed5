use native.Mathlib.Omega.{arith}
use Rattle.printing.proofs.NumberTexts.{hex_digits}
use Rattle.printing.proofs.Puts.{puts_same}
use Rattle.printing.proofs.buffer.Out.hex.Goals as goal

pub returns : goal.returns
returns c =
    let h = c.hex_digits.ensures in
    puts_same (hex_digits _ h.0 (omega arith) h.1) h.2
