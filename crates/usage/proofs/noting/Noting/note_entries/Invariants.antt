use mathlib.Core.Path.{◌≡◌}
use Rattle.std.specs.Prelude.{map}
use Rattle.pointers.specs.Tables.{image_in}
use Rattle.records.specs.List.{entry_address}
use Rattle.records.specs.Search.{readables}
use Rattle.usage.specs.Entries.{entries_left}
use Rattle.usage.specs.Noting.{trace}
use Rattle.usage.specs.Pass.{each_row}
use Rattle.usage.proofs.noting.Noting.note_entries.Given as goal

-- The entries that are left, noted on the sheet so far, are all of them noted on the first.
abbrev pub invariant-loop-va : goal.invariant-loop-va
invariant-loop-va l =
    trace (each_row l.h.kind (entries_left l.va-iterator)) l.self
    ≡ trace (each_row l.h.kind (map (entry_address l.h) (readables (image_in l.initial.self.tables.now) l.h))) l.initial.self
