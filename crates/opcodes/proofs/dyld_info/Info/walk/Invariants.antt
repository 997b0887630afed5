use Rattle.std.proofs.Common.{◌≡◌, ◌+◌, ◌-◌, length, drop}
use Rattle.opcodes.specs.Streams.{segments_in}
use Rattle.opcodes.specs.Binding.{unset}
use Rattle.opcodes.specs.Streams.{walk}
use Rattle.fixups.specs.Tables.{Kept}
use Rattle.opcodes.specs.Tables.{told, part_in}
use Rattle.opcodes.proofs.dyld_info.Info.walk.Given as goal

abbrev pub invariant-loop-i : goal.invariant-loop-i
invariant-loop-i l = (told (walk (length l.self.file.now) l.self.cmds.bytes.now (segments_in l.self) l.stream.parts l.stream.at l.stream.bytes.now 0 unset) (part_in l.initial.binds) ≡ told (walk (length l.self.file.now) l.self.cmds.bytes.now (segments_in l.self) l.stream.parts (l.stream.at + l.i) (drop l.i l.stream.bytes.now) 0 l.s) (part_in l.binds))
    × Kept l.initial.binds.table l.binds.table

abbrev pub decreases-loop-i : goal.decreases-loop-i
decreases-loop-i l = length l.stream.bytes.now - l.i
