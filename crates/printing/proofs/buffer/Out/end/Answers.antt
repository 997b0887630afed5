use Rattle.printing.specs.LineText.{end_text, number_field}
use Rattle.printing.proofs.Puts.{puts_then}
use Rattle.printing.proofs.buffer.Out.end.Goals as goal

pub returns : goal.returns
unfolding end_text number_field
returns c = puts_then c.start.ensures (puts_then c.byte.ensures c.hex_of_128.ensures)
