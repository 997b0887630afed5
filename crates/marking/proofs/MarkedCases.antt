-- Worked marks of lines: the starts of all records count, and methods without imp are no starts.
use Prim.Native.Nat.{ℕ}
use mathlib.Core.Path.{◌≡◌, refl}
use mathlib.Core.Bool.{false}
use mathlib.Core.List.{List, [], ◌∷◌, flat_map}
use Rattle.reads.specs.Outcome.{choose, text_of}
use Rattle.records.specs.Row.{method_of}
use Rattle.records.specs.declared.method.MethodKind.TheVariants as kind
use Rattle.records.specs.declared.row.Row.TheVariants as row
use Rattle.frames.specs.Marks.{raised, addresses, met_in, mark_in, mark_number}
use Rattle.frames.specs.declared.frames.Ranges.{Ranges}
use Rattle.listing.specs.PlainListing.{class_line, row_line}
use Rattle.listing.specs.declared.line.Line.{Line}
use Rattle.listing.specs.declared.line.Line.TheVariants as line
use Rattle.listing.proofs.HubListing.{five_lines}
use Rattle.marking.specs.Marked.{marked, marked_lines}
use Rattle.std.specs.Prelude.{Option, Some, None}

abbrev ranges : ℕ → ℕ → ℕ → ℕ → Ranges
ranges f₀ f₁ s₀ s₁ = record { first_frame = f₀; last_frame = f₁; first_slide = s₀; last_slide = s₁ }

abbrev class : ℕ → Line
class a = class_line (record { address = a; isa = 0; superclass_address = 0; bits = 0; is_meta = false }) None

abbrev method : Option ℕ → Line
method i = row_line 0 (row.Method (method_of (text_of 0 0 0) (text_of 0 0 0) i kind.Legacy))

-- Two classes; the second has a method without imp.
abbrev two_classes : List Line
two_classes = class 1 ∷ method (Some 0x10) ∷ class 2 ∷ method None ∷ method (Some 0x20) ∷ []

abbrev row_marks : Line → List ℕ
row_marks (line.Info i) = []
row_marks (line.Class c) = []
row_marks (line.Ro r) = []
row_marks (line.Protocol p) = []
row_marks (line.Category k) = []
row_marks (line.Row r) = mark_number r.mark ∷ []
row_marks (line.Name n) = []
row_marks (line.End e) = []

abbrev marks : Ranges → List Line → List ℕ
marks x lines = flat_map row_marks (marked_lines (addresses x) lines)

-- ◆ All four ends 0: the listing is as it was.
pub hub_unmarked : marked_lines (addresses (ranges 0 0 0 0)) five_lines ≡ five_lines
unfolding marked_lines marked flat_map addresses met_in raised mark_in choose
hub_unmarked = refl

-- 0x2004 to 0x2008 lie in its one method.
pub hub_certain : marks (ranges 0x3004 0x3008 0x1000 0x1000) five_lines ≡ 2 ∷ []
unfolding marked_lines marked flat_map addresses met_in raised mark_in choose
hub_certain = refl

-- 0x28: the start of the other class lies between.
pub other_record : marks (ranges 0x28 0x28 0 0) two_classes ≡ 0 ∷ 0 ∷ 2 ∷ []
unfolding marked_lines marked flat_map addresses met_in raised mark_in choose
other_record = refl

-- 0x18 to 0x28.
pub both_marked : marks (ranges 0x18 0x28 0 0) two_classes ≡ 1 ∷ 0 ∷ 1 ∷ []
unfolding marked_lines marked flat_map addresses met_in raised mark_in choose
both_marked = refl
