use Rattle.printing.specs.LineText.{protocol_text}
use Rattle.printing.proofs.Puts.{puts_then}
use Rattle.printing.proofs.buffer.Out.protocol.Goals as goal

pub returns : goal.returns
unfolding protocol_text
returns c = puts_then c.start.ensures (puts_then c.number.ensures (puts_then c.number-2.ensures c.text.ensures))
