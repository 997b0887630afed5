use Rattle.std.proofs.Common.{◌≡◌, ◌-◌}
use Rattle.opcodes.specs.Binding.{run}
use Rattle.fixups.specs.Tables.{Kept}
use Rattle.opcodes.specs.Tables.{told_by, part_in}
use Rattle.opcodes.proofs.binding.run.Given as goal

abbrev pub invariant-loop : goal.invariant-loop
invariant-loop l = (told_by (run l.end l.count l.stride l.initial.here) (part_in l.initial.binds) ≡ told_by (run l.end (l.count - l.counter) l.stride l.here) (part_in l.binds)) × Kept l.initial.binds.table l.binds.table
