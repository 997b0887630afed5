use mathlib.Core.Path.{◌≡◌, ap, ◌∙◌}
use borrow.Author.Rules.{rules}
use Rattle.walks.specs.Sections.{decoded_step}
use Rattle.face.specs.Words.{category, no_category}
use Rattle.face.proofs.decoding.objclist_category.Goals as goal

pub returns : goal.returns
returns c =
    let lent = rw (c.under-tables.ensures, c.lent.ensures, c.setting_in.ensures) at c.decode_category-answer.ensures in
    let none : c.default.result ≡ no_category = search rules in
    rw (c.told.ensures.status, c.told.ensures.words category (λ r w e. e), none, c.decoded_step.ensures ∙ ap decoded_step lent)
