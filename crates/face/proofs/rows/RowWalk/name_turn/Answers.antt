use mathlib.Core.Path.{◌∙◌}
use Rattle.face.proofs.rows.RowWalk.name_turn.Goals as goal

pub returns : goal.returns
returns c = c.turn.ensures ∙ rw (← c.setting_in-setting.ensures, ← c.walked_list-stepped.ensures, c.names_said-said.ensures)
