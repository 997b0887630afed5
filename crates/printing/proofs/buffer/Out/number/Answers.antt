use Rattle.printing.specs.LineText.{number_field}
use Rattle.printing.proofs.Puts.{puts_then}
use Rattle.printing.proofs.buffer.Out.number.Goals as goal

pub returns : goal.returns
unfolding number_field
returns c = puts_then c.byte.ensures c.hex.ensures
