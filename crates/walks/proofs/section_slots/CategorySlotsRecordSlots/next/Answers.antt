use mathlib.Core.Path.{◌≡◌, refl, ap, ◌∙◌}
use Rattle.walks.proofs.SectionLaws.{category_waits_none}
use Rattle.walks.proofs.section_slots.CategorySlotsRecordSlots.next.Goals as goal

pub returns : goal.returns
returns c =
    let waits : c.take_slot-taken.result.slots.meta ≡ 0 = ap (λ x. x.walk.waiting) c.take_slot-taken.ensures ∙ category_waits_none _ _ refl _ in
    rw waits at c.take_slot-taken.ensures
