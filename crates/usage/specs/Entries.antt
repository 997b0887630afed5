-- What is left to an iterator over the entries of a list that can be read, and to one over the slots of a protocol list.
use Rattle.std.specs.Prelude.{ℕ, ◌-◌, List, map}
use Rattle.records.specs.List.{entry, entry_address}
use Rattle.records.specs.Search.{all_from}
use Rattle.usage.specs.Pass.{list_slots}
use Rattle.usage.specs.declared.names.Slots.{Slots}
use Rattle.usage.specs.declared.rows.Entries.{Entries}

abbrev pub entries_left : Entries → List ℕ
entries_left e = map (entry_address e.h) (all_from (entry e.image.now e.h) (e.h.count - e.from) e.from)

abbrev pub slots_left : Slots → List ℕ
slots_left s = list_slots s.list s.from (s.list.count - s.from)
