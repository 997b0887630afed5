-- The mark of each m row says what the note says, by pairs and over the starts of all m rows; a method without imp is unmarked.
use Prim.Native.Nat.{ℕ}
use mathlib.Core.Path.{◌≡◌, refl}
use mathlib.Core.List.{List, Memᴰ}
use native.Mathlib.Omega.{arith}
use Rattle.reads.specs.Outcome.{value}
use Rattle.frames.specs.Marks.{frames_of, met_all}
use Rattle.frames.specs.declared.frames.Frames.{Frames}
use Rattle.frames.specs.declared.frames.Mark.{Mark}
use Rattle.frames.specs.declared.frames.Mark.TheVariants.{Unmarked}
use Rattle.frames.specs.declared.frames.Ranges.{Ranges}
use Rattle.frames.proofs.MarksRight.{marks_right, none_marked}
use Rattle.listing.specs.declared.line.Line.{Line}
use Rattle.listing.specs.declared.line.Line.TheVariants as line
use Rattle.listing.specs.declared.line.RowLine.{RowLine}
use Rattle.marking.specs.Marked.{row_imp, line_starts, starts_in, imp_mark, marked, marked_lines, ImpSays}
use Rattle.marking.proofs.Folds.{in_flat}
use Rattle.std.specs.Prelude.{Option, Some, None}

-- What holds of the mark that each imp gets holds of each m row.
module _ (w : Option Frames) (lines : List Line) (Holds : Option ℕ → Mark → Type 0)
    (imp_says : (i : Option ℕ) → ((a : ℕ) → i ≡ Some a → Memᴰ a (starts_in lines)) → Holds i (imp_mark (met_all w (starts_in lines)) i)) where
  abbrev found : Option Frames
  found = met_all w (starts_in lines)

  row_says : (q r : RowLine) → Memᴰ (line.Row q) lines → marked found (line.Row q) ≡ line.Row r → Holds (row_imp r.row) r.mark
  unfolding marked
  row_says q r m e =
      let same : record { list = q.list; row = q.row; mark = imp_mark found (row_imp q.row) } ≡ r = cc in
      rw (← same)
      (imp_says (row_imp q.row)
      (λ a g. let one : Memᴰ a (line_starts (line.Row q)) = rw g (mathlib.Core.List.Memᴰ.head refl) in in_flat line_starts lines m one))

  line_says : (y : Line) (r : RowLine) → Memᴰ y lines → marked found y ≡ line.Row r → Holds (row_imp r.row) r.mark
  unfolding marked
  line_says (line.Info i) r m e = let z : ◌≡◌ {A = ℕ} 0 1 = cc in absurd (omega arith)
  line_says (line.Class c) r m e = let z : ◌≡◌ {A = ℕ} 0 1 = cc in absurd (omega arith)
  line_says (line.Ro c) r m e = let z : ◌≡◌ {A = ℕ} 0 1 = cc in absurd (omega arith)
  line_says (line.Protocol p) r m e = let z : ◌≡◌ {A = ℕ} 0 1 = cc in absurd (omega arith)
  line_says (line.Category k) r m e = let z : ◌≡◌ {A = ℕ} 0 1 = cc in absurd (omega arith)
  line_says (line.Row q) r m e = row_says q r m e
  line_says (line.Name n) r m e = let z : ◌≡◌ {A = ℕ} 0 1 = cc in absurd (omega arith)
  line_says (line.End d) r m e = let z : ◌≡◌ {A = ℕ} 0 1 = cc in absurd (omega arith)

  each_says : (r : RowLine) → Memᴰ (line.Row r) (marked_lines w lines) → Holds (row_imp r.row) r.mark
  unfolding marked_lines
  each_says r m =
      let at = mathlib.Core.List.Memᴰ.of_map (marked (met_all w (starts_in lines))) lines m in
      line_says at.0 r at.1 at.2

imp_right : (x : Ranges) (w : Option Frames) → frames_of (Some x) ≡ value w → (starts : List ℕ) (i : Option ℕ)
    → ((a : ℕ) → i ≡ Some a → Memᴰ a starts) → ImpSays x starts i (imp_mark (met_all w starts) i)
imp_right x w given starts (Some a) m = marks_right x w given starts a (m a refl)
imp_right x w given starts None m = refl

imp_unmarked : (w : Option Frames) → frames_of None ≡ value w → (starts : List ℕ) (i : Option ℕ) → imp_mark (met_all w starts) i ≡ Unmarked
imp_unmarked w given starts (Some a) = none_marked w given starts a
imp_unmarked w given starts None = refl

-- Of every m row, for ranges that 23 does not refuse.
pub marks_listed : (x : Ranges) (w : Option Frames) → frames_of (Some x) ≡ value w → (lines : List Line) (r : RowLine) → Memᴰ (line.Row r) (marked_lines w lines)
    → ImpSays x (starts_in lines) (row_imp r.row) r.mark
marks_listed x w given lines r m = each_says w lines (ImpSays x (starts_in lines)) (imp_right x w given (starts_in lines)) r m

-- Of every m row, where no ranges are given: it is unmarked.
pub none_listed : (w : Option Frames) → frames_of None ≡ value w → (lines : List Line) (r : RowLine) → Memᴰ (line.Row r) (marked_lines w lines)
    → r.mark ≡ Unmarked
none_listed w given lines r m = each_says w lines (λ i mark. mark ≡ Unmarked) (λ i inside. imp_unmarked w given (starts_in lines) i) r m
