-- A call over a bundle that a number refuses leaves what it was lent as it was.
use Rattle.std.specs.Prelude.{Option}
use Prim.Native.Nat.{ℕ}
use mathlib.Core.Path.{◌≡◌, refl}
use mathlib.Core.List.{List}
use native.Mathlib.Omega.{arith}
use lib.ListN.{take-append-drop}
use Rattle.reads.specs.Outcome.{Outcome, value, absent, refused, and_then}
use Rattle.reads.proofs.Tests.{by_choose}
use Rattle.pointers.specs.ImageInfo.{image_info}
use Rattle.pointers.specs.Index.{indexed}
use Rattle.pointers.specs.Open.{asked_opening, left_by, opened_index}
use Rattle.pointers.specs.Tables.{Tables}
use Rattle.pointers.specs.declared.imageinfo.ImageInfo.{ImageInfo}
use Rattle.frames.specs.Marks.{frames_of}
use Rattle.frames.specs.declared.frames.Frames.{Frames}
use Rattle.frames.specs.declared.frames.Ranges.{Ranges}
use Rattle.listing.specs.Bundle.{bundle_counts}
use Rattle.listing.specs.declared.bundle.Counts.{Counts}
use Rattle.marking.specs.Framed.{with_frames, framed_opening, framed_index}
use Rattle.printing.specs.BundleText.{index_words}
use Rattle.printing.specs.BundleLent.{words_after, opening_by, opening_in, index_by, index_after}
use Rattle.reads.specs.declared.answer.Question.{Question}

-- 13, and the words.
pub words_unwritten : (bytes words : List ℕ) (k : Question) → bundle_counts bytes ≡ refused k → words_after bytes words ≡ words
words_unwritten bytes words k e = rw e

-- Opening's index, with a number of opening or with 23.
info_unrefused : (w : Option Frames) (body : List ℕ) (k : Question) → with_frames w (image_info body) ≡ refused k → ⊥
unfolding image_info
info_unrefused w body k =
    by_choose (λ (o : Outcome ImageInfo). with_frames w o ≡ refused k → ⊥)
    (λ t e. let z : ◌≡◌ {A = ℕ} 0 1 = cc in omega arith)
    (λ t e. let z : ◌≡◌ {A = ℕ} 0 1 = cc in omega arith)

opened_unwritten : (x : Option Ranges) (t : Tables) (k : Question) → framed_opening x t ≡ refused k → framed_index x t ≡ t.index
unfolding framed_opening framed_index opened_index
opened_unwritten x t k = go (frames_of x) (asked_opening t)
  where
    go : (f : Outcome (Option Frames)) (o : Outcome (Unit {0})) → and_then o (λ u. and_then f (λ w. with_frames w (image_info t.info))) ≡ refused k
        → left_by f (left_by o (indexed t.rebases t.binds t.index) t.index) t.index ≡ t.index
    go (value w) (value u) e = absurd (info_unrefused w t.info k e)
    go (value w) (absent r) e = refl
    go (value w) (refused n) e = refl
    go (absent r) o e = refl
    go (refused n) o e = refl

-- A number of 13, of opening or 23, and the index.
pub index_unwritten : (bytes words index : List ℕ) (k : Question) → opening_in bytes words index ≡ refused k → index_after bytes words index ≡ index
index_unwritten bytes words index k = go (bundle_counts bytes)
  where
    go : (o : Outcome Counts) → opening_by bytes o words index ≡ refused k → index_by bytes o words index ≡ index
    go (value c) e = rw (opened_unwritten _ _ k e) (take-append-drop (index_words c) index)
    go (absent r) e = refl
    go (refused n) e = refl
