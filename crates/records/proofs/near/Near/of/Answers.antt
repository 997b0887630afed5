use Rattle.std.proofs.Common.{rules, refl, sym, ap, ◌∙◌}
use Rattle.reads.specs.Files.{file_of}
use Rattle.reads.specs.Place.{part}
use Rattle.records.proofs.NearFields.{near_lent, near_holds, near_cut}
use Rattle.records.proofs.near.Near.of.Goals as goal

pub bounds-files-f : goal.bounds-files-f
bounds-files-f c =
    let a = c.args in
    near_lent a.tables.now a.va a.size a.spot c.requires.found c.files-files.result.now c.files-files.ensures c.requires.some

pub offset_bounds-files-f : goal.offset_bounds-files-f
offset_bounds-files-f c =
    let a = c.args in
    let l = near_lent a.tables.now a.va a.size a.spot c.requires.found c.files-files.result.now c.files-files.ensures c.requires.some in
    search rules

pub cut-requires : goal.cut-requires
cut-requires c =
    let a = c.args in
    near_holds a.tables.now a.va a.size a.spot c.requires.found c.files-files.result.now c.files-files.ensures c.requires.some _

pub invariant_of-result : goal.invariant_of-result
invariant_of-result c =
    let a = c.args in
    let k = near_cut a.tables.now a.va a.size a.spot c.requires.found c.files-files.result.now c.files-files.ensures c.requires.some _ c.cut.result.now c.cut.ensures in
    record {
      found = rw k.1 c.requires.found;
      there = k.0 ∙ ap (part (file_of a.tables.now.files a.spot.place.file) a.spot.place.offset) (sym k.1);
    }

pub returns-clause-record : goal.returns-clause-record
returns-clause-record c =
    let a = c.args in
    let k = near_cut a.tables.now a.va a.size a.spot c.requires.found c.files-files.result.now c.files-files.ensures c.requires.some _ c.cut.result.now c.cut.ensures in
    (refl, refl, k.1)
