use mathlib.Core.Path.{sym, ◌∙◌}
use native.Mathlib.Omega.{arith}
use Rattle.printing.proofs.HandedOut.{piece_fits, less_comes}
use Rattle.printing.proofs.Handing.{handed_more, wrote, held_none, held_more, held_end}
use Rattle.filewrite.proofs.write.write_pieces.Goals as goal

pub loop-progress-init : goal.loop-progress-init
loop-progress-init g c = held_none _ _ _ _ _

pub returns-then-len-eq0 : goal.returns-then-len-eq0
returns-then-len-eq0 g c =
    let e = c.whole_piece-piece.ensures in
    let end = held_end _ _ _ _ _ _ _ _ c.loop-progress.invariant _ e.piece e.rest (omega arith) c.if-len-eq0.true in
    record { handed = end.0; written = λ _. end.1.0; whole = λ _. end.1.1 }

pub slice_bounds-write_all-end : goal.slice_bounds-write_all-end
slice_bounds-write_all-end g c = omega (arith, piece_fits _ _ _ _ _ c.whole_piece-piece.ensures.piece)

pub returns-then-is_err-clause-handed : goal.returns-then-is_err-clause-handed
returns-then-is_err-clause-handed g c =
    handed_more _ _ _ _ _ _ c.loop-progress.invariant.over _ c.whole_piece-piece.ensures.piece c.whole_piece-piece.ensures.rest

pub loop-progress-smaller : goal.loop-progress-smaller
loop-progress-smaller g c = less_comes _ _ _ _ _ c.whole_piece-piece.ensures.piece c.whole_piece-piece.ensures.rest c.if-len-eq0.false

pub loop-progress-preserved : goal.loop-progress-preserved
loop-progress-preserved g c =
    let e = c.whole_piece-piece.ensures in
    held_more _ _ _ _ _ _ _ _ c.loop-progress.invariant _ e.piece e.rest _
    (wrote _ c.write_all.ensures.bytes (sym c.is_err.ensures.value ∙ c.if-is_err.false))
