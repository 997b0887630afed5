use Rattle.printing.specs.LineText.{ro_text}
use Rattle.printing.proofs.Puts.{puts_then}
use Rattle.printing.proofs.buffer.Out.ro.Goals as goal

pub returns : goal.returns
unfolding ro_text
returns c = puts_then c.start.ensures (puts_then c.number.ensures (puts_then c.number-2.ensures (puts_then c.number-3.ensures c.text.ensures)))
