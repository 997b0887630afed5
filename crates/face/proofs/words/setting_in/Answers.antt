use mathlib.Core.Path.{◌∙◌}
use Rattle.face.proofs.Settings.{new_reading, old_reading}
use Rattle.face.proofs.words.setting_in.Goals as goal

pub returns-then-old_reading-eq0 : goal.returns-then-old_reading-eq0
returns-then-old_reading-eq0 c = c.new.ensures ∙ new_reading c.if-old_reading-eq0.true

pub returns : goal.returns
returns c = c.under.ensures ∙ old_reading c.if-old_reading-eq0.false
