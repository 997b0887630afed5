use mathlib.Core.Path.{◌≡◌}
use Rattle.std.specs.Prelude.{map, drop}
use Rattle.listing.specs.Listing.{field_of}
use Rattle.usage.specs.Noting.{trace}
use Rattle.usage.specs.Pass.{each, pass_field}
use Rattle.usage.proofs.noting.Noting.note_lists.Given as goal

-- The lists that are left, noted on the sheet so far, are all of them noted on the first.
abbrev pub invariant-loop-field : goal.invariant-loop-field
invariant-loop-field l =
    trace (each (λ x. pass_field (field_of x)) (drop l.field-index l.fields)) l.self
    ≡ trace (each pass_field (map field_of l.fields)) l.initial.self
