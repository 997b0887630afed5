use mathlib.Core.Path.{◌≡◌}
use Rattle.std.specs.Prelude.{drop}
use Rattle.walks.specs.Slots.{slots_of, decode_address}
use Rattle.usage.specs.Noting.{trace}
use Rattle.usage.specs.Pass.{if_there, each, pass_record}
use Rattle.usage.proofs.noting.Noting.pass_slots.Given as goal

-- The slots that are left, noted on the sheet so far, are all of them noted on the first.
abbrev pub invariant-loop-k : goal.invariant-loop-k
invariant-loop-k l =
    trace (each (λ a. if_there (decode_address a) (pass_record l.lists)) (drop l.k (slots_of l.lists l.initial.self.tables.now.sections))) l.self
    ≡ trace (each (λ a. if_there (decode_address a) (pass_record l.lists)) (slots_of l.lists l.initial.self.tables.now.sections)) l.initial.self
