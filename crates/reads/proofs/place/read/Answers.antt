use Rattle.std.proofs.Common.{rules}
use Rattle.reads.proofs.Numbers.{found_lent, found_file, found_holds}
use Rattle.reads.specs.Place.{word}
use Rattle.reads.proofs.place.read.Goals as goal

pub offset_bounds-files-f : goal.offset_bounds-files-f
offset_bounds-files-f g c =
    let e = rw c.BYTES.ensures at c.readable.ensures in
    let h = found_lent _ _ c.image.inside.files.now c.image.inside.segments.now c.args.va g.W.Width.BYTES _ c.image.view_is e c.in_ok-p.was g.W.Width.fits.0 in
    search rules

pub bounds-files-f : goal.bounds-files-f
bounds-files-f g c =
    let e = rw c.BYTES.ensures at c.readable.ensures in
    found_lent _ _ c.image.inside.files.now c.image.inside.segments.now c.args.va g.W.Width.BYTES _ c.image.view_is e c.in_ok-p.was g.W.Width.fits.0

pub le-requires : goal.le-requires
le-requires g c =
    let e = rw c.BYTES.ensures at c.readable.ensures in
    found_holds _ _ c.image.inside.files.now c.image.inside.segments.now c.args.va g.W.Width.BYTES _ c.image.view_is e c.in_ok-p.was g.W.Width.fits.0 _

pub returns : goal.returns
unfolding word
returns g c =
    let e = rw c.BYTES.ensures at c.readable.ensures in
    let h = found_file _ _ c.image.inside.files.now c.image.inside.segments.now c.args.va g.W.Width.BYTES _ c.image.view_is e c.in_ok-p.was g.W.Width.fits.0 in
    search rules
