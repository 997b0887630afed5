use mathlib.Core.Path.{refl, ◌∙◌}
use Rattle.walks.proofs.Steps.{outcome_told}
use Rattle.face.proofs.RowLaws.{asked_turn, refused_turn_lem, gather_same, gather_none, gather_first}
use Rattle.face.proofs.rows.objclist_rows.Goals as goal
use Rattle.reads.specs.Answer.{answered}

pub returns-then-room-eq0 : goal.returns-then-room-eq0
returns-then-room-eq0 c = rw (c.none.ensures, c.of.ensures) (gather_none _ _ _ _ c.if-room-eq0.true)

pub returns-in-Ok : goal.returns-in-Ok
returns-in-Ok c =
    let asked = rw c.lent-tables.ensures at c.ask.ensures in
    let gathered = rw c.lent-tables.ensures at c.gather_rows.ensures in
    gathered ∙ gather_same (asked_turn _ (outcome_told answered asked c.in-Ok.is)) _ _ _ _

pub returns-else-room-eq0 : goal.returns-else-room-eq0
returns-else-room-eq0 c =
    let asked = rw c.lent-tables.ensures at c.ask.ensures in
    rw (c.none-in-Err.ensures, c.refused.ensures) (gather_first _ _ _ _ _ (refused_turn_lem _ (outcome_told answered asked c.in-Err.is) _) refl _ c.if-room-eq0.false)
