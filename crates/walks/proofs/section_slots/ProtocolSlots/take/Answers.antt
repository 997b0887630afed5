use mathlib.Core.Path.{sym}
use Rattle.std.specs.Prelude.{◌+◌}
use Rattle.walks.specs.Sections.{walk, protocol_slots, take_protocol}
use Rattle.walks.proofs.section_slots.ProtocolSlots.take.Goals as goal

pub returns : goal.returns
unfolding take_protocol
returns c = λ l. rw (← c.protocol_at-protocol.ensures) (c.of.ensures protocol_slots (walk (c.args.self.slot + 1) 0 0) l (sym c.past.ensures))
