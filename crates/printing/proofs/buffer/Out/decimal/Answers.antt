use mathlib.Core.Path.{◌∙◌}
use native.Mathlib.Omega.{arith}
use Rattle.printing.proofs.NumberTexts.{decimal_digits}
use Rattle.printing.proofs.Puts.{puts_same}
use Rattle.printing.proofs.buffer.Out.decimal.Goals as goal

pub returns : goal.returns
returns c = puts_same (c.decimal-k.ensures.digits ∙ decimal_digits _ _ (omega arith) c.decimal-k.ensures.len) c.bytes.ensures
