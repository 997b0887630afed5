use Rattle.printing.specs.LineText.{name_text}
use Rattle.printing.proofs.Puts.{puts_then}
use Rattle.printing.proofs.buffer.Out.protocol_name.Goals as goal

pub returns : goal.returns
unfolding name_text
returns c = puts_then c.start.ensures c.text.ensures
