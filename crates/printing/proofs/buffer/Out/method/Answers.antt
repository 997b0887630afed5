use Rattle.printing.specs.LineText.{method_text}
use Rattle.printing.proofs.Puts.{puts_then}
use Rattle.printing.proofs.Tags.{kind_tag, mark_tag}
use Rattle.printing.proofs.buffer.Out.method.Goals as goal

pub returns : goal.returns
unfolding method_text
returns c = rw (kind_tag _, mark_tag _) (puts_then c.start.ensures (puts_then c.texts.ensures (puts_then c.optional.ensures (puts_then c.number.ensures c.number-2.ensures))))
