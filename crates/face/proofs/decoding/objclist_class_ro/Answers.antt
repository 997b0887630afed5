use mathlib.Core.Path.{◌≡◌, ap, ◌∙◌}
use borrow.Author.Rules.{rules}
use Rattle.walks.specs.Sections.{decoded_step}
use Rattle.face.specs.Words.{class_ro, no_ro}
use Rattle.face.proofs.decoding.objclist_class_ro.Goals as goal

pub returns : goal.returns
returns c =
    let lent = rw (c.under-tables.ensures, c.lent.ensures, c.setting_in.ensures, c.from-class.ensures) at c.ro-answer.ensures in
    let none : c.default.result ≡ no_ro = search rules in
    rw (c.told.ensures.status, c.told.ensures.words class_ro (λ r w e. e), none, c.decoded_step.ensures ∙ ap decoded_step lent)
