use Rattle.std.proofs.Common.{refl}
use Rattle.std.proofs.lemmas.Result.{err_from_is_err_and}
use Prim.Native.Nat.{◌≤◌}
use mathlib.Core.Path.{◌∙◌, ap}
use Rattle.macho.specs.Segments.{segment_table_of, written}
use Rattle.macho.specs.OpenFile.{Buffers}
use Rattle.macho.proofs.Opening as laws
use Rattle.macho.proofs.Asking.{passed}
use native.Mathlib.Omega.{arith}
use lib.ListN.{length}
use Rattle.macho.specs.Commands.{segments_of}
use Rattle.macho.proofs.open.fill_file.Goals as goal

pub open_tables-requires : goal.open_tables-requires
open_tables-requires c =
    let a = c.args in let p = passed a.file.now (length a.lent.now.segments.now) (length a.lent.now.sections.now) c.requires in
    rw (c.of-cmds.ensures.bytes, c.of-cmds.ensures.count.0) p.few_segments

pub write_segments-requires : goal.write_segments-requires
write_segments-requires c =
    let a = c.args in let p = passed a.file.now (length a.lent.now.segments.now) (length a.lent.now.sections.now) c.requires in
    let h : length (segments_of c.of-cmds.result.bytes.now c.of-cmds.result.count) ≤ 64 = rw (c.of-cmds.ensures.bytes, c.of-cmds.ensures.count.0) p.few_segments in
    let same = ap (λ (b : Buffers). length b.segments) c.open_tables.ensures.left in omega (arith, h, p.lent_segments)

pub write_sections-requires : goal.write_sections-requires
write_sections-requires c =
    let a = c.args in ap (λ (b : Buffers). length b.sections) c.open_tables.ensures.left ∙ (passed a.file.now (length a.lent.now.segments.now) (length a.lent.now.sections.now) c.requires).lent_sections

pub returns : goal.returns
returns c =
    let a = c.args in let kept = c.open_tables.ensures.kept in
    let r =
    laws.filled a.file.now a.lent.now.segments.now a.lent.now.sections.now a.lent.now.rebases.now a.lent.now.binds.now a.lent.now.index.now c.requires _ _ _ _ _
    c.of-cmds.ensures.bytes c.of-cmds.ensures.count.0 c.info_section-section.ensures c.part-info.ensures.bytes c.open_tables.result c.open_tables.ensures.outcome _ c.in_ok-i.was
    _ _ _ _ c.segment_count.ensures (c.write_segments.ensures ∙ ap (λ (b : Buffers). written (segment_table_of c.of-cmds.result.bytes.now c.of-cmds.result.count) b.segments) c.open_tables.ensures.left)
    c.write_sections.ensures (ap (λ (b : Buffers). b.index) c.open_tables.ensures.left) in
    record {
      kept = record { segments = kept.segments; sections = kept.sections; index = kept.index; rebases = kept.rebases; binds = kept.binds };
      outcome = r.0;
      left = laws.buffers_by r.1;
    }

pub returns-in_err-i : goal.returns-in_err-i
returns-in_err-i c =
    let a = c.args in
    let p = err_from_is_err_and c.from_residual.result c.from_residual.ensures.1 in
    let r =
    laws.refusing a.file.now a.lent.now.segments.now a.lent.now.sections.now a.lent.now.rebases.now a.lent.now.binds.now a.lent.now.index.now c.requires _ _ _ _ _
    c.of-cmds.ensures.bytes c.of-cmds.ensures.count.0 c.info_section-section.ensures c.part-info.ensures.bytes c.open_tables.result c.open_tables.ensures.outcome _ c.in_err-i.was
    _ refl in
    record {
      kept = c.open_tables.ensures.kept;
      outcome = rw (p.1, p.2) r.0;
      left = c.open_tables.ensures.left ∙ laws.buffers_by r.1;
    }
