-- The numbers that a progress of the code counts up fit their words: each part of its type says so.
use Prim.Native.Nat.{ℕ, zero, suc, ◌^◌, ◌<◌}
use mathlib.Core.List.{List}
use native.Mathlib.Omega.{arith}
use mir.Val.{Val}
use denote.Laws.{Is}
use Rattle.listing.specs.contracts.at.At as at-type
use Rattle.printing.specs.contracts.pieces.Progress as progress-type
use Rattle.listing.specs.contracts.section.Section as section-type
use Rattle.listing.specs.ListingAnswer.{stage_number, section_walk_of, state_of}
use Rattle.listing.proofs.Remaining.{slot_in, slot_of, cursor_in, cursor_of, InWords}
use Rattle.listing.specs.declared.at.At.{At}
use Rattle.listing.specs.declared.at.At.TheVariants as at
use Rattle.listing.specs.declared.at.FieldWalk.{FieldWalk}
use Rattle.listing.specs.declared.at.FieldWalk.TheVariants as field_walk
use Rattle.listing.specs.contracts.at.FieldWalk as field-type
use Rattle.printing.specs.Pieces.{standing_of}
use Rattle.printing.specs.declared.pieces.Progress.{Progress}
use Rattle.printing.proofs.Comes.{Sound}
use Rattle.listing.specs.declared.section.Section.{Section}

section_in_words : (s : Section) (vs : List Val) → Is section-type.the_row s vs → slot_of (section_walk_of s) < 2 ^ 64
section_in_words s vs p = go (stage_number s.stage)
  where
    go : (n : ℕ) → slot_in (section_walk_of s) n < 2 ^ 64
    go zero = omega (arith, p)
    go (suc zero) = omega (arith, p)
    go (suc (suc n)) = omega (arith, p)

field_in_words : (w : FieldWalk) (vs : List Val) → Is field-type.the_row w vs → cursor_in w < 2 ^ 64
field_in_words (field_walk.Rows w) vs p = omega (arith, p)
field_in_words (field_walk.Names w) vs p = omega (arith, p)

at_in_words : (a : At) (vs : List Val) → Is at-type.the_row a vs → cursor_of a < 2 ^ 64
at_in_words at.Info vs p = omega arith
at_in_words at.Section vs p = omega arith
at_in_words (at.Record x) vs p = omega arith
at_in_words (at.Ro c) vs p = omega arith
at_in_words (at.List n x) vs p = field_in_words x.walk _ p.1.1.1.1.1.0.1.1.0
at_in_words at.End vs p = omega arith

pub in_words : (p : Progress) (vs : List Val) → Is progress-type.the_row p vs → InWords (state_of p.listing.listing)
in_words p vs h =
    let l = h.1.1.1.1.0.1.1.1.1.0 in
    record { slot = section_in_words p.listing.listing.section _ l.1.1.1.1.0; cursor = at_in_words p.listing.listing.at _ l.1.1.1.0 }

pub progress_sound : (p : Progress) (l : List ℕ) (vs : List Val) → Is progress-type.the_row p vs → Sound (standing_of p l)
progress_sound p l vs h = record { words = λ e. in_words p vs h }
