use mathlib.Core.Path.{sym}
use Rattle.walks.specs.Sections.{walk, class_slots, take_waiting}
use Rattle.walks.proofs.section_slots.ClassSlots.take_meta.Goals as goal

pub returns : goal.returns
unfolding take_waiting
returns c = let s = c.args.self.slots in λ l. rw (← c.class_at-meta.ensures) (c.of.ensures class_slots (walk s.slot s.used s.highest) l (sym c.alone.ensures))
