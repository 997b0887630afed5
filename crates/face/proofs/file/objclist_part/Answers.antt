use mathlib.Core.Path.{◌∙◌, ap}
use Rattle.face.specs.File.{part_words}
use Rattle.face.proofs.file.objclist_part.Goals as goal

pub returns : goal.returns
returns c = c.from.ensures ∙ ap part_words c.find_part.ensures
