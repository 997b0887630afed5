use mathlib.Core.Path.{◌≡◌}
use Rattle.macho.specs.Commands.{of_kind, offsets}
use Rattle.macho.proofs.command.CommandsOfKindIterator.next.Given as goal

abbrev pub invariant-loop-left : goal.invariant-loop-left
invariant-loop-left l =
    (l.self ≡ record { bytes = l.fn.self.bytes; kind = l.fn.self.kind; left = 0; at = l.fn.self.at })
    × (offsets l.fn.self ≡ of_kind l.self.kind l.self.bytes.now l.left l.at)
