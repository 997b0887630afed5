use native.Mathlib.Omega.{arith}
use mathlib.Core.Path.{sym}
use Rattle.attributes.specs.Written.{bytes_of, part_of}
use Rattle.attributes.proofs.PutParts.{puts_one}
use Rattle.attributes.proofs.written.Out.item.Goals as goal

pub returns : goal.returns
unfolding bytes_of
returns c =
    let a = c.args in
    puts_one (part_of a.text.now a.item) (omega arith) c.comma.ensures c.bytes.ensures (rw (sym c.part.ensures.bytes) c.bytes-2.ensures)
