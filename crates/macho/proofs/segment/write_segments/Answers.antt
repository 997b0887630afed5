use Rattle.macho.proofs.Tables as laws
use native.Mathlib.Omega.{arith}
use mathlib.Core.Path.{sym, ◌∙◌, ap, ap₂}
use mathlib.Core.List.{List}
use Prim.Native.Nat.{ℕ, ◌*◌}
use lib.ListN.{length}
use lib.Seq.{sets}
use Rattle.reads.specs.Segment.{segment_words}
use Rattle.macho.specs.Segments.{segment_row, segment_rows}
use Rattle.macho.specs.Commands.{segments_of, offsets}
use Rattle.macho.proofs.segment.write_segments.Goals as goal

pub put_segment-requires : goal.put_segment-requires
put_segment-requires c =
    let s = c.in-Some.ensures.steps in let n = ap (λ (l : List ℕ). length l) s.0 in omega (arith, c.requires, c.loop-k.invariant.1, c.loop-k.auto.table, s.1)

pub loop-k-init : goal.loop-k-init
loop-k-init c =
    let e = ap (λ i. offsets i.iter) c.into_iter-k-iterator.ensures.into_iter_gives ∙ ap offsets c.enumerate-k-items.ensures.source ∙ c.of_kind.ensures in
    let z = ap (λ i. i.count) c.into_iter-k-iterator.ensures.into_iter_gives ∙ c.enumerate-k-items.ensures.count in
    let n = ap (λ (l : List ℕ). length l) e in (rw (e, z), omega arith)

pub loop-k-preserved : goal.loop-k-preserved
loop-k-preserved c =
    let a = c.args in let l = c.loop-k in let s = c.in-Some.ensures.steps in let n = ap (λ (x : List ℕ). length x) s.0 in (
      ap₂ (λ (t : List ℕ) (k : ℕ). sets t (segment_words * k) (segment_rows a.cmds.bytes.now (offsets c.next.new.self.iter))) (c.put_segment.ensures ∙ ap (λ (k : ℕ). sets l.table (segment_words * k) (segment_row a.cmds.bytes.now c.in-Some.at)) s.1) s.2
          ∙ sym (laws.segment_step a.cmds.bytes.now l.table l.k-iterator.count _ _ _ s.0) ∙ l.invariant.0,
      omega (arith, s.2, l.invariant.1),
    )

pub returns : goal.returns
returns c =
    let a = c.args in let l = c.loop-k in
    sym (laws.segment_end a.cmds.bytes.now l.table l.k-iterator.count _ c.in-None.ensures.steps.0.0) ∙ l.invariant.0
    ∙ laws.put_whole _ _ (omega (arith, c.requires, laws.length_segments a.cmds.bytes.now (segments_of a.cmds.bytes.now a.cmds.count)))
