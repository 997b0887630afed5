use Rattle.printing.specs.LineText.{line_text}
use Rattle.printing.proofs.Puts.{puts_then}
use Rattle.printing.proofs.buffer.Out.line.Goals as goal

pub returns : goal.returns
unfolding line_text
returns c = puts_then c.fields.ensures c.byte.ensures
