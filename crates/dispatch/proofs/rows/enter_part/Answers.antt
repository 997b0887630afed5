use Rattle.std.proofs.Common.{ap, ◌∙◌}
use Rattle.std.specs.Prelude.{Ok, Err}
use Rattle.dispatch.proofs.Walks.{part_none, part_absent}
use Rattle.dispatch.proofs.rows.enter_part.Goals as goal

pub returns-in-Ok-None : goal.returns-in-Ok-None
returns-in-Ok-None c =
    let o = c.in-Ok-None in
    let none = rw o.is at o.field-0-is in
    part_none _ _ _ (o.is ∙ ap (λ s. Ok s) none) c.no_rows.ensures

pub returns-in-Err-Absent : goal.returns-in-Err-Absent
returns-in-Err-Absent c =
    let o = c.in-Err-Absent in
    let gone = rw o.is at o.field-0-is in
    part_absent _ _ _ (o.is ∙ ap (λ m. Err m) gone) c.no_rows-in-Err-Absent.ensures
