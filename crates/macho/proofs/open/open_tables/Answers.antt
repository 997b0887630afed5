use Prim.Native.Nat.{◌*◌, ◌-◌}
use native.Mathlib.Omega.{arith}
use Rattle.reads.specs.Files.{files_lent}
use Rattle.macho.proofs.Tables as laws
use mathlib.Core.Path.{◌≡◌, refl, ap}
use Rattle.macho.specs.OpenFile.{indexed_by}
use lib.ListN.{take}
use Rattle.reads.specs.Segment.{segment_words}
use Rattle.macho.specs.Commands.{segments_of}
use Rattle.macho.specs.Segments.{segment_table_of}
use Rattle.macho.specs.Sections.{section_table_of}
use Rattle.macho.proofs.open.open_tables.Goals as goal

pub returns : goal.returns
unfolding files_lent
returns c =
    let a = c.args in
    let es : take (segment_words * c.segment_count.result) c.write_segments.new.table ≡ segment_table_of a.cmds.bytes.now a.cmds.count =
    laws.segments_back _ (segments_of a.cmds.bytes.now a.cmds.count) _ _ _ c.segment_count.ensures c.write_segments.ensures in
    let ec : c.write_sections.new.table ≡ section_table_of a.cmds.bytes.now a.cmds.count = c.write_sections.ensures in
    let e : segment_words * c.segment_count.result - 0 ≡ segment_words * c.segment_count.result = omega arith in
    let index = rw (e, es, ec, c.new.ensures) at c.open_unless.ensures.contents in
    record {
      kept = record { segments = refl; sections = refl; index = refl; rebases = refl; binds = refl };
      outcome = rw (e, es, ec, c.new.ensures) at c.open_unless.ensures.outcome;
      left = ap (indexed_by a.lent.now) index;
    }
