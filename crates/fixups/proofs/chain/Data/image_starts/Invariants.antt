use Rattle.std.proofs.Common.{◌≡◌, ◌-◌}
use Rattle.macho.specs.Commands.{segments_of, offsets}
use Rattle.fixups.specs.Starts.{image_starts, infos_from}
use Rattle.fixups.specs.Tables.{told, state_in, BothKept}
use Rattle.fixups.proofs.chain.Data.image_starts.Given as goal

abbrev pub invariant-loop-i : goal.invariant-loop-i
invariant-loop-i l = (told (image_starts l.self.file.now l.self.body.now l.self.cmds.bytes.now l.self.fixups (segments_of l.self.cmds.bytes.now l.self.cmds.count)) (state_in l.initial.lists)
    ≡ told (infos_from l.self.file.now l.self.body.now l.self.cmds.bytes.now l.self.fixups (l.total - l.i) l.i (offsets l.segments)) (state_in l.lists))
    × BothKept l.initial.lists l.lists
