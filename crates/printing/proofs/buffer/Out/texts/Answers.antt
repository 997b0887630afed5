use Rattle.printing.specs.LineText.{text_fields}
use Rattle.printing.proofs.Puts.{puts_then}
use Rattle.printing.proofs.buffer.Out.texts.Goals as goal

pub returns : goal.returns
unfolding text_fields
returns c = puts_then c.text.ensures c.text-2.ensures
