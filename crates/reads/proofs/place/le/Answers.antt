use Rattle.reads.proofs.Numbers.{le_copied, part_below}
use Rattle.reads.proofs.place.le.Goals as goal

pub returns : goal.returns
returns g c =
    let a = c.args in
    let after = rw c.BYTES-2.ensures at c.copy_from_slice.ensures.after in
    let read = rw c.BYTES.ensures at c.from_le_bytes.ensures in
    let e = le_copied a.bytes.now a.at g.W.Width.BYTES _ g.W.Width.fits.1 c.requires _ after read in
    (e, rw e (part_below a.bytes.now a.at g.W.Width.BYTES c.type_inv.bytes))
