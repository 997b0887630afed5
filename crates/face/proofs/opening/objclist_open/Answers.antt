use mathlib.Core.Path.{ap, ◌∙◌}
use Rattle.walks.specs.Sections.{decoded_step}
use Rattle.face.specs.Opening.{opened_words}
use Rattle.face.proofs.opening.objclist_open.Goals as goal

pub returns : goal.returns
returns c = record {
  answer = c.from.ensures ∙ ap (λ o. opened_words (decoded_step o)) (rw c.lent-tables.ensures at c.«open».ensures.outcome);
  contents = rw c.lent-tables.ensures at c.«open».ensures.contents;
}
