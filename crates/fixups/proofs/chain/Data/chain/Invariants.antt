use Rattle.std.proofs.Common.{◌≡◌, ◌-◌}
use Rattle.fixups.specs.Chain.{starts_in}
use Rattle.fixups.specs.Chain.{chain_at}
use Rattle.fixups.specs.Tables.{told, state_in, BothKept}
use Rattle.fixups.proofs.chain.Data.chain.Given as goal

abbrev pub invariant-loop-o : goal.invariant-loop-o
invariant-loop-o l = (told (chain_at l.self.file.now l.self.body.now l.self.fixups (starts_in l.s) l.page l.start) (state_in l.initial.lists) ≡ told (chain_at l.self.file.now l.self.body.now l.self.fixups (starts_in l.s) l.page l.o) (state_in l.lists))
    × BothKept l.initial.lists l.lists

abbrev pub decreases-loop-o : goal.decreases-loop-o
decreases-loop-o l = l.size - l.o
