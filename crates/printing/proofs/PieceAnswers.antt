-- What the code's progress means: at the start, and by what was said.
use Prim.Native.Nat.{ℕ, ◌+◌, ◌-◌, ◌^◌, ◌<◌}
use mathlib.Core.Path.{◌≡◌, ap}
use mathlib.Core.Bool.{true, false}
use mathlib.Core.List.{List, [], ◌∷◌}
use native.Mathlib.Omega.{arith}
use borrow.Author.Tests.{le-leb, leb-true}
use Rattle.reads.specs.Files.{longest}
use Rattle.reads.specs.Answer.{missed, outcome}
use Rattle.reads.specs.Outcome.{value, refused}
use Rattle.reads.specs.declared.answer.Reason.{Reason}
use Rattle.reads.specs.declared.answer.Missing.{Missing}
use Rattle.reads.specs.declared.answer.Missing.TheVariants.{Absent, Refused}
use Rattle.reads.proofs.Tests.{choose_true, choose_false}
use Rattle.pointers.specs.Question.{image_fits}
use Rattle.pointers.specs.Tables.{Tables}
use Rattle.frames.specs.declared.frames.Frames.{Frames}
use Rattle.listing.specs.Listing.{nothing, ended}
use Rattle.pointers.specs.declared.setting.Setting.{Setting}
use Rattle.marking.specs.MarkedListing.{marked_start, marking_of}
use Rattle.marking.specs.declared.framed.Framed.{Framed}
use Rattle.marking.specs.declared.marked_listing.MarkedListing.{MarkedListing}
use Rattle.printing.specs.Pieces.{Standing, standing, begun, further, with_files, listable}
use Rattle.printing.specs.declared.pieces.Piece.{Piece}
use Rattle.printing.specs.declared.pieces.Progress.{Progress}
use Rattle.std.specs.Prelude.{Result, Ok, Err, Option, None}
use Rattle.reads.specs.declared.answer.Question.{Question}

-- The start, by opening's answer.
pub begun_framed : {u : Setting} (a : Result Framed Missing) (f : Framed) → a ≡ Ok f → (s : MarkedListing) → marking_of s ≡ marked_start u f.frames
    → (λ (l : List ℕ). standing (value nothing) 0 (marking_of s) l) ≡ begun u (outcome a)
begun_framed a f g s e = rw (g, e)

pub begun_missing : {u : Setting} (a : Result Framed Missing) (m : Missing) → a ≡ Err m → (q : List ℕ → Standing) → q ≡ begun u (missed m)
    → q ≡ begun u (outcome a)
begun_missing a m g q e = rw g e

module _ {u : Setting} (s : MarkedListing) (w : Option Frames) (e : marking_of s ≡ marked_start u w) (none : w ≡ None) (m : Missing) where
  pub begun_absent : (r : Reason) → m ≡ Absent r → (λ (l : List ℕ). standing (value ended) 0 (marking_of s) l) ≡ begun u (missed m)
  begun_absent r h = rw (h, e, none)

  pub begun_refused : (k : Question) → m ≡ Refused k → (λ (l : List ℕ). standing (refused k) 0 (marking_of s) l) ≡ begun u (missed m)
  begun_refused k h = rw (h, e, none)

-- As many bytes more are out as the buffer took.
pub further_by : (p : Progress) (at len k : ℕ) → len ≡ at + k
    → ◌≡◌ {A = Piece} (record { len = len; progress = record { said = p.said; out = p.out + (len - at); listing = p.listing } }) (further p at k)
further_by p at len k e = let z : at + k - at ≡ k = omega arith in rw (e, z)

-- Question 1 takes files of less than 2^32 bytes.
pub fits_short : (n : ℕ) → image_fits n ≡ true → n < 2 ^ 32
unfolding image_fits
fits_short n e = omega (arith, leb-true n 4294967295 e)

-- Files that question FileLength takes are read themselves, others count as one empty file.
pub listable_short : (t : Tables) → longest t.files < 2 ^ 32 → listable t ≡ t
unfolding image_fits
listable_short t h = ap (with_files t) (choose_true t.files ([] ∷ []) (le-leb (longest t.files) 4294967295 (omega arith)))

pub listable_long : (t : Tables) → image_fits (longest t.files) ≡ false → listable t ≡ with_files t ([] ∷ [])
listable_long t e = ap (with_files t) (choose_false t.files ([] ∷ []) e)
