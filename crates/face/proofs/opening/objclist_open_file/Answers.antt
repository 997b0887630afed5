use mathlib.Core.Path.{◌≡◌, ap, ◌∙◌}
use borrow.Author.Rules.{rules}
use Rattle.walks.specs.Sections.{decoded_step}
use Rattle.face.specs.Opening.{file_words, no_file}
use Rattle.face.proofs.opening.objclist_open_file.Goals as goal

pub returns-clause-answer : goal.returns-clause-answer
returns-clause-answer c =
    let none : c.default.result ≡ no_file = search rules in
    rw (c.told.ensures.status, c.told.ensures.words file_words (λ r w e. e), none, c.decoded_step.ensures ∙ ap decoded_step c.open_file-answer.ensures.outcome)
