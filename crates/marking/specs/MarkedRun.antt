-- The steps of a marked listing, one after the other: those that say nothing, and those that say lines to the end.
use Rattle.std.specs.Prelude.{ℕ, ◌≡◌, false, Option, List, [], ◌∷◌, length}
use Rattle.reads.specs.Outcome.{value}
use Rattle.pointers.specs.Tables.{Tables}
use Rattle.pointers.specs.declared.setting.Setting.{Setting}
use Rattle.frames.specs.Marks.{met_all}
use Rattle.frames.specs.declared.frames.Frames.{Frames}
use Rattle.listing.specs.Listing.{start, says, lacks, nothing, ended}
use Rattle.listing.specs.declared.absence.Absence.{Absence}
use Rattle.listing.specs.declared.line.Line.{Line}
use Rattle.marking.specs.Marked.{starts_in}
use Rattle.marking.specs.MarkedListing.{Marking, marking, marked_leaves, marked_step}

-- From one state and ledger to another, no step saying anything.
pub data Silent (t : Tables) : Marking → List ℕ → Marking → List ℕ → Type 0 where
  here : {m : Marking} {l : List ℕ} → Silent t m l m l
  step : {m n p : Marking} {l k q : List ℕ} → marked_step t m l ≡ marked_leaves (value nothing) n k → Silent t n k p q → Silent t m l p q

-- To the end: the lines that are said, no step refused.
pub data Tells (t : Tables) : Marking → List ℕ → List Line → Type 0 where
  over : {m : Marking} {l : List ℕ} → marked_step t m l ≡ marked_leaves (value ended) m l → Tells t m l []
  silent : {m n : Marking} {l k : List ℕ} {xs : List Line} → marked_step t m l ≡ marked_leaves (value nothing) n k → Tells t n k xs → Tells t m l xs
  lacking : {m n : Marking} {l k : List ℕ} {x : Absence} {xs : List Line} → marked_step t m l ≡ marked_leaves (value (lacks x)) n k → Tells t n k xs → Tells t m l xs
  saying : {m n : Marking} {l k : List ℕ} {x : Line} {xs : List Line} → marked_step t m l ≡ marked_leaves (value (says x)) n k → Tells t n k xs → Tells t m l (x ∷ xs)

-- The first pass from a state and a ledger on: it says nothing, and leaves the frames with these lines' starts met, the listing before its first
-- line under a setting, and a ledger of the same length.
pub record Finds (t : Tables) (m : Marking) (l : List ℕ) (u : Setting) (w : Option Frames) (lines : List Line) : Type 0 where
  pub ledger : List ℕ
  pub room : length ledger ≡ length l
  pub steps : Silent t m l (marking false (met_all w (starts_in lines)) (start u)) ledger
