use mathlib.Core.Path.{sym, ◌∙◌}
use Rattle.printing.specs.Pieces.{piece}
use Rattle.printing.proofs.Fills.{filling_start, piece_full, piece_over, piece_on, piece_less, piece_rest}
use Rattle.printing.proofs.ProgressWords.{progress_sound}
use borrow.Author.Rules.{rules}
use borrow.Author.Tests.{not-true, not-false}
use Rattle.std.proofs.Common.{ap, not}
use Rattle.printing.proofs.pieces.Progress.fill.Goals as goal

pub loop-out-init : goal.loop-out-init
loop-out-init c = (search rules, filling_start _ _ _ (progress_sound c.args.self c.args.ledger.now _ c.well_formed.0))

pub returns-then-out-len : goal.returns-then-out-len
returns-then-out-len c =
    let r = piece c.hand_out-len.result c.hand_out-len.new.self in
    let e = piece_full _ _ _ c.loop-out.progress _ _ _ c.loop-out.invariant.1 r
    c.hand_out-len.ensures.piece _ c.hand_out-len.ensures.bytes (search rules) in
    record {
      piece = e;
      rest = piece_rest _ _ _ _ r _ _ (progress_sound c.args.self _ _ c.well_formed.0) e;
    }

pub returns-then-not-goes_on : goal.returns-then-not-goes_on
returns-then-not-goes_on c =
    let r = piece c.hand_out-len.result c.hand_out-len.new.self in
    let e = piece_over _ _ _ c.loop-out.progress _ _ _ c.loop-out.invariant.1 r
    c.hand_out-len.ensures.piece _ c.hand_out-len.ensures.bytes (search rules) (sym c.goes_on.ensures ∙ not-true _ (ap not c.if-not-goes_on.true)) in
    record {
      piece = e;
      rest = piece_rest _ _ _ _ r _ _ (progress_sound c.args.self _ _ c.well_formed.0) e;
    }

pub loop-out-smaller : goal.loop-out-smaller
loop-out-smaller c =
    piece_less _ _ _ c.loop-out.progress _ _ _ c.loop-out.invariant.1 (piece c.hand_out-len.result c.hand_out-len.new.self)
    c.hand_out-len.ensures.piece _ c.hand_out-len.ensures.bytes (search rules) (sym c.goes_on.ensures ∙ not-false _ (ap not c.if-not-goes_on.false)) c.step.new.self _ (rw c.of-asked.ensures at c.step.ensures)

pub loop-out-preserved : goal.loop-out-preserved
loop-out-preserved c = (
  search rules,
  piece_on _ _ _ c.loop-out.progress _ _ _ c.loop-out.invariant.1 (piece c.hand_out-len.result c.hand_out-len.new.self)
      c.hand_out-len.ensures.piece _ c.hand_out-len.ensures.bytes (search rules) (sym c.goes_on.ensures ∙ not-false _ (ap not c.if-not-goes_on.false)) c.step.new.self _ (rw c.of-asked.ensures at c.step.ensures),
)
