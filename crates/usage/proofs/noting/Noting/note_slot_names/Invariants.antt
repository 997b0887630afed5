use mathlib.Core.Path.{◌≡◌}
use Rattle.usage.specs.Entries.{slots_left}
use Rattle.usage.specs.Noting.{trace}
use Rattle.usage.specs.Pass.{list_slots, each_name}
use Rattle.usage.proofs.noting.Noting.note_slot_names.Given as goal

-- The slots that are left, noted on the sheet so far, are all of them noted on the first.
abbrev pub invariant-loop-slot : goal.invariant-loop-slot
invariant-loop-slot l =
    trace (each_name (slots_left l.slot-iterator)) l.self ≡ trace (each_name (list_slots l.fn.list 0 l.fn.list.count)) l.initial.self
