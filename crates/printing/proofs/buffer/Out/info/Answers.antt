use Rattle.printing.specs.LineText.{info_text}
use Rattle.printing.proofs.Puts.{puts_then}
use Rattle.printing.proofs.Tags.{reading_tag}
use Rattle.printing.proofs.buffer.Out.info.Goals as goal

pub returns : goal.returns
unfolding info_text
returns c = rw (reading_tag _) (puts_then c.start.ensures (puts_then c.number.ensures c.number-2.ensures))
