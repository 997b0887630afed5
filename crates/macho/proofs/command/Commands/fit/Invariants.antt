use mathlib.Core.Path.{◌≡◌}
use Prim.Native.Nat.{◌-◌}
use Rattle.macho.specs.Commands.{all_fit}
use Rattle.macho.proofs.command.Commands.fit.Given as goal

abbrev pub invariant-loop : goal.invariant-loop
invariant-loop l = all_fit l.self.bytes.now l.self.count 0 ≡ all_fit l.self.bytes.now (l.self.count - l.counter) l.at
