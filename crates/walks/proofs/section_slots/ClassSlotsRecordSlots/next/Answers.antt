use mathlib.Core.Path.{refl}
use Rattle.walks.specs.Sections.{classes}
use Rattle.walks.proofs.SectionLaws.{step_waiting}
use Rattle.walks.proofs.section_slots.ClassSlotsRecordSlots.next.Goals as goal

pub returns-then-self-ne0 : goal.returns-then-self-ne0
returns-then-self-ne0 c = step_waiting classes _ _ _ c.if-self-ne0.true (c.next_meta.ensures _ refl)
