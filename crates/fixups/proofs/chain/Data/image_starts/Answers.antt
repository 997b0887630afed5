use Rattle.std.proofs.Common.{◌≡◌, ◌+◌, ◌*◌, sym, ap, ◌∙◌, arith}
use Rattle.macho.specs.Commands.{segments_of, offsets}
use Rattle.fixups.specs.Tables.{told, state_in}
use Rattle.fixups.proofs.Joining.{kept, kept_on, then, stops}
use Rattle.fixups.proofs.Pages as laws
use Rattle.fixups.proofs.chain.Data.image_starts.Goals as goal
use Rattle.std.proofs.lemmas.Result.{err_from_is_err_and}

pub returns-then-self-starts : goal.returns-then-self-starts
returns-then-self-starts c =
    record {
      kept = kept _;
      told =
          let a = c.args in
          laws.starts_out a.self.file.now a.self.body.now a.self.cmds.bytes.now a.self.fixups _ (state_in a.lists.now) (omega arith);
    }

pub loop-i-init : goal.loop-i-init
loop-i-init c =
    let a = c.args in
    let e : c.from-starts.result ≡ a.self.fixups.starts = c.from-starts.ensures in (
      rw c.of_kind-segments.ensures (ap (λ x. told x (state_in a.lists.now))
          (laws.starts_there a.self.file.now a.self.body.now a.self.cmds.bytes.now a.self.fixups (segments_of a.self.cmds.bytes.now a.self.cmds.count) c.u32_from-total.result (omega arith) (rw e at c.u32_from-total.ensures))),
      kept _,
    )

pub returns-then-self-first : goal.returns-then-self-first
returns-then-self-first c =
    record {
      kept = c.loop-i.invariant.1;
      told =
          let a = c.args in let l = c.loop-i in
          sym (l.invariant.0 ∙ laws.infos_out a.self.file.now a.self.body.now a.self.cmds.bytes.now a.self.fixups c.u32_from-total.result l.i (c.from-starts.result + 4 + 4 * c.from-next.result) (omega arith) (omega arith)
          (offsets l.segments) (state_in l.lists) (omega arith));
    }

pub loop-i-preserved : goal.loop-i-preserved
loop-i-preserved c =
    let a = c.args in let l = c.loop-i in let s = state_in l.lists in
    let h = laws.infos_more a.self.file.now a.self.body.now a.self.cmds.bytes.now a.self.fixups c.u32_from-total.result l.i (c.from-starts.result + 4 + 4 * c.from-next.result) (omega arith) (omega (arith, c.from-starts.ensures, c.from-next.ensures))
    (omega arith) c.u32_from-offset.result c.u32_from-offset.ensures _ _ _ c.next.ensures.steps in (
      l.invariant.0 ∙ ap (λ x. told x s) h ∙ then _ _ s c.segment_info.result (state_in c.segment_info.new.lists) c.segment_info.ensures.told c.in_ok-segment_info.was,
      kept_on _ _ _ l.invariant.1 c.segment_info.ensures.kept,
    )

pub returns-in_err-segment_info : goal.returns-in_err-segment_info
returns-in_err-segment_info c =
    record {
      kept = kept_on _ _ _ c.loop-i.invariant.1 c.segment_info.ensures.kept;
      told =
          let a = c.args in let l = c.loop-i in let s = state_in l.lists in
          let h = laws.infos_more a.self.file.now a.self.body.now a.self.cmds.bytes.now a.self.fixups c.u32_from-total.result l.i (c.from-starts.result + 4 + 4 * c.from-next.result) (omega arith) (omega (arith, c.from-starts.ensures, c.from-next.ensures))
          (omega arith) c.u32_from-offset.result c.u32_from-offset.ensures _ _ _ c.next.ensures.steps in
          let p = err_from_is_err_and c.from_residual.result c.from_residual.ensures.1 in
          rw (p.1, p.2) (sym (l.invariant.0 ∙ ap (λ x. told x s) h ∙ stops _ _ s c.segment_info.result (state_in c.segment_info.new.lists) c.segment_info.ensures.told _ c.in_err-segment_info.was));
    }

pub returns : goal.returns
returns c =
    record {
      kept = c.loop-i.invariant.1;
      told =
          let a = c.args in let l = c.loop-i in
          sym (l.invariant.0 ∙ laws.infos_done a.self.file.now a.self.body.now a.self.cmds.bytes.now a.self.fixups c.u32_from-total.result l.i (offsets l.segments) (state_in l.lists) (omega arith));
    }
