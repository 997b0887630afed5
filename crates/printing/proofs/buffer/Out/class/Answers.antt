use Rattle.printing.specs.LineText.{class_text}
use Rattle.printing.proofs.Puts.{puts_then}
use Rattle.printing.proofs.buffer.Out.class.Goals as goal

pub returns : goal.returns
unfolding class_text
returns c = rw (← c.class_letter.ensures) (puts_then c.start.ensures (puts_then c.number.ensures (puts_then c.number-2.ensures (puts_then c.number-3.ensures c.named.ensures))))
