use Rattle.printing.specs.LineText.{refused_text}
use Rattle.printing.proofs.Puts.{puts_then}
use Rattle.printing.proofs.buffer.Out.refused.Goals as goal

pub returns : goal.returns
unfolding refused_text
returns c = rw (← c.number.ensures) (puts_then c.bytes.ensures (puts_then c.decimal.ensures c.byte.ensures))
