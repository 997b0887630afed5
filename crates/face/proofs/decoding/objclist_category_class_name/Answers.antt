use mathlib.Core.Path.{◌≡◌, ap, ◌∙◌}
use borrow.Author.Rules.{rules}
use Rattle.walks.specs.Sections.{decoded_step}
use Rattle.face.specs.Words.{text, no_text}
use Rattle.face.proofs.decoding.objclist_category_class_name.Goals as goal

pub returns : goal.returns
returns c =
    let lent = rw (c.under-tables.ensures, c.lent.ensures, c.setting_in.ensures, c.from-extended.ensures) at c.class_name-answer.ensures in
    let none : c.default.result ≡ no_text = search rules in
    rw (c.told.ensures.status, c.told.ensures.words text (λ r w e. e), none, c.decoded_step.ensures ∙ ap decoded_step lent)
