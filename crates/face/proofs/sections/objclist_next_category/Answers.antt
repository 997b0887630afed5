use mathlib.Core.Path.{◌≡◌}
use borrow.Author.Rules.{rules}
use Rattle.face.specs.Words.{category, no_category}
use Rattle.face.proofs.sections.objclist_next_category.Goals as goal

pub returns : goal.returns
returns c =
    let left = rw (c.lent-tables.ensures, c.setting_in-setting.ensures, c.from.ensures) at c.next-stepped.ensures.0 in
    let none : c.default.result ≡ no_category = search rules in
    record {
      answer = rw (← left, c.told.ensures.status, c.told.ensures.words category (λ r w e. e), none, c.at.ensures);
      contents = rw (← left);
    }
