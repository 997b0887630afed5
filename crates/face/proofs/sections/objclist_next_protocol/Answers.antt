use mathlib.Core.Path.{◌≡◌}
use borrow.Author.Rules.{rules}
use Rattle.face.specs.Words.{protocol, no_protocol}
use Rattle.face.proofs.sections.objclist_next_protocol.Goals as goal

pub returns : goal.returns
returns c =
    let left = rw (c.lent-tables.ensures, c.setting_in-setting.ensures) at c.next_protocol-stepped.ensures.0 in
    let none : c.default.result ≡ no_protocol = search rules in
    rw (← left, c.told.ensures.status, c.told.ensures.words protocol (λ r w e. e), none)
