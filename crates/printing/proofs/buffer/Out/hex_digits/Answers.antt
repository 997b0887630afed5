use Rattle.printing.proofs.Puts.{puts_same}
use Rattle.printing.proofs.buffer.Out.hex_digits.Goals as goal

pub returns : goal.returns
returns c = (_, c.hex-k.ensures.len, puts_same c.hex-k.ensures.digits c.bytes.ensures)
