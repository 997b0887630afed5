use Rattle.std.proofs.Common.{◌≡◌, ◌+◌, ◌-◌}
use Rattle.fixups.specs.Chain.{starts_in}
use Rattle.fixups.specs.Starts.{pages_from}
use Rattle.fixups.specs.Tables.{told, state_in, BothKept}
use Rattle.fixups.proofs.chain.Data.pages.Given as goal

abbrev pub invariant-loop-p : goal.invariant-loop-p
invariant-loop-p l = (told (pages_from l.self.file.now l.self.body.now l.self.fixups (starts_in l.s) (l.self.fixups.starts + l.s.info) l.count 0) (state_in l.initial.lists) ≡ told (pages_from l.self.file.now l.self.body.now l.self.fixups (starts_in l.s) (l.self.fixups.starts + l.s.info) (l.count - l.p) l.p) (state_in l.lists))
    × BothKept l.initial.lists l.lists
