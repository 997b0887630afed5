use Rattle.printing.specs.LineText.{string_field}
use Rattle.printing.proofs.Puts.{puts_then}
use Rattle.printing.proofs.buffer.Out.string.Goals as goal

pub returns : goal.returns
unfolding string_field
returns c = puts_then c.number.ensures (puts_then c.byte.ensures c.bytes.ensures)
