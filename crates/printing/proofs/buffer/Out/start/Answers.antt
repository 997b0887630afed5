use Rattle.printing.proofs.Puts.{puts_then}
use Rattle.printing.proofs.buffer.Out.start.Goals as goal

pub returns : goal.returns
returns c = puts_then c.byte.ensures c.number.ensures
