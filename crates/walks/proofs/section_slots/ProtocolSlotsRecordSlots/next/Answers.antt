use mathlib.Core.Path.{refl, ap, ◌∙◌}
use Rattle.std.specs.Prelude.{Ok}
use Rattle.walks.specs.declared.slots.Lists.TheVariants.{Protocols}
use Rattle.walks.proofs.SlotLaws.{next_room}
use Rattle.walks.proofs.SectionLaws.{protocol_step_lem}
use Rattle.walks.proofs.section_slots.ProtocolSlotsRecordSlots.next.Goals as goal

pub take-requires : goal.take-requires
take-requires c =
    let o = c.in-Ok-Address in
    next_room _ Protocols _ c.next_slot.ensures.step (o.is ∙ ap (λ s. Ok s) o.field-0-is) refl c.next_slot.ensures.few

pub past-requires : goal.past-requires
past-requires c =
    let o = c.in-Ok-Dropped in
    next_room _ Protocols _ c.next_slot.ensures.step (o.is ∙ ap (λ s. Ok s) o.field-0-is) refl c.next_slot.ensures.few

pub returns-in-Ok-Address : goal.returns-in-Ok-Address
returns-in-Ok-Address c = protocol_step_lem _ _ _ (rw (← c.next_slot.ensures.step, c.in-Ok-Address.is, c.in-Ok-Address.field-0-is) (rw c.tables.ensures at c.take.ensures _))

pub returns-in-Ok-Dropped : goal.returns-in-Ok-Dropped
returns-in-Ok-Dropped c = protocol_step_lem _ _ _ (rw (← c.next_slot.ensures.step, c.in-Ok-Dropped.is, c.in-Ok-Dropped.field-0-is, c.past.ensures))

pub returns-in-Ok-Finished : goal.returns-in-Ok-Finished
returns-in-Ok-Finished c = protocol_step_lem _ _ _ (rw (← c.next_slot.ensures.step, c.in-Ok-Finished.is, c.in-Ok-Finished.field-0-is))

pub returns-in-Err : goal.returns-in-Err
returns-in-Err c = protocol_step_lem _ _ _ (rw (← c.next_slot.ensures.step, c.in-Err.is, c.refused.ensures.0, c.refused.ensures.1))
