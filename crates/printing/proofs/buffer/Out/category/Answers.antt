use Rattle.printing.specs.LineText.{category_text}
use Rattle.printing.proofs.Puts.{puts_then}
use Rattle.printing.proofs.buffer.Out.category.Goals as goal

pub returns : goal.returns
unfolding category_text
returns c = puts_then c.start.ensures (puts_then c.number.ensures (puts_then c.text.ensures c.named.ensures))
