use mathlib.Core.Path.{sym, ap, ◌∙◌}
use Rattle.marking.proofs.Framing.{opens_framed, opens_refused}
use Rattle.marking.proofs.framed.open_framed.Goals as goal
use Rattle.reads.specs.Answer.{answered}

pub returns-in-Ok : goal.returns-in-Ok
returns-in-Ok c =
    let opened = c.«open».ensures in
    let framed = opens_framed _ _ _ (sym c.new.ensures ∙ ap answered c.in-Ok.is) _ _ _ c.with_frames.ensures (opened.outcome, opened.contents) in
    record { outcome = framed.0; contents = framed.1 }

pub returns-in-Err : goal.returns-in-Err
returns-in-Err c =
    let refused = c.open_unless.ensures in
    let framed = opens_refused _ _ _ (sym c.new.ensures ∙ ap answered c.in-Err.is) _ _ _ c.with_frames-in-Err.ensures (refused.outcome, refused.contents) in
    record { outcome = framed.0; contents = framed.1 }
