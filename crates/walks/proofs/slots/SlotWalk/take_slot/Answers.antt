use mathlib.Core.Path.{refl, ap, ◌∙◌}
use Rattle.std.specs.Prelude.{Ok}
use Rattle.walks.proofs.SlotLaws.{new_room}
use Rattle.walks.proofs.slots.SlotWalk.take_slot.Goals as goal

pub take_new-requires : goal.take_new-requires
take_new-requires g c =
    let o = c.in-Ok-Address in
    new_room _ _ _ _ c.next_new.ensures.step (o.is ∙ ap (λ s. Ok s) o.field-0-is) refl c.next_new.ensures.few

pub past-requires : goal.past-requires
past-requires g c =
    let o = c.in-Ok-Dropped in
    (new_room _ _ _ _ c.next_new.ensures.step (o.is ∙ ap (λ s. Ok s) o.field-0-is) refl c.next_new.ensures.few).further
