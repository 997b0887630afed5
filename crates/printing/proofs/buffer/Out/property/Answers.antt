use Rattle.printing.specs.LineText.{property_text}
use Rattle.printing.proofs.Puts.{puts_then}
use Rattle.printing.proofs.buffer.Out.property.Goals as goal

pub returns : goal.returns
unfolding property_text
returns c = puts_then c.start.ensures c.texts.ensures
