-- Worked cases: ranges merged, and written.
use Prim.Native.Nat.{ℕ, zero, suc, ◌<◌}
use mathlib.Core.Path.{◌≡◌, refl, sym, ◌∙◌}
use mathlib.Core.Bool.{true}
use mathlib.Core.List.{[], ◌∷◌}
use mathlib.Core.Logic.{inr}
use native.Mathlib.Omega.{arith}
use lib.ListN.{get_or}
use Rattle.reads.specs.Outcome.{value, refused, choose}
use Rattle.ranges.specs.Range.{range, lies, covers, range_words}
use Rattle.ranges.specs.Runs.{run, ended, begun, runs, runs_from, merged}
use Rattle.ranges.specs.Written.{result, written, merged_into}
use Rattle.ranges.proofs.Covers.{covers_one, lies_true}
use Rattle.ranges.proofs.MergedLaws.{merged_itself}
use Rattle.reads.specs.declared.answer.Question.TheVariants.{RangeRoom}

-- Ranges that touch are one, whatever their order.
touching : merged (20 ∷ []) (range 0 5 4 ∷ range 0 2 3 ∷ []) ≡ range 0 2 7 ∷ []
unfolding merged runs_from runs run ended begun covers lies choose
touching = refl

-- But not in two files: the last bytes of file 0 and the first of file 1.
touching_files : merged (8 ∷ 8 ∷ []) (range 1 0 3 ∷ range 0 6 2 ∷ []) ≡ range 0 6 2 ∷ range 1 0 3 ∷ []
unfolding merged runs_from runs run ended begun covers lies choose
touching_files = refl

-- A byte between two ranges keeps them apart.
gap_of_one : merged (20 ∷ []) (range 0 2 3 ∷ range 0 6 4 ∷ []) ≡ range 0 2 3 ∷ range 0 6 4 ∷ []
unfolding merged runs_from runs run ended begun covers lies choose
gap_of_one = refl

-- Repeated, one inside another, and empty.
repeated : merged (16 ∷ []) (range 0 9 4 ∷ range 0 5 0 ∷ range 0 1 2 ∷ range 0 9 4 ∷ range 0 10 2 ∷ []) ≡ range 0 1 2 ∷ range 0 9 4 ∷ []
unfolding merged runs_from runs run ended begun covers lies choose
repeated = refl

-- Past the end of a file, and in a file that is not lent.
past_end : merged (10 ∷ 0 ∷ []) (range 0 8 5 ∷ range 0 12 4 ∷ range 1 0 4 ∷ range 2 0 4 ∷ []) ≡ range 0 8 2 ∷ []
unfolding merged runs_from runs run ended begun covers lies choose
past_end = refl

-- Over the border of a window of 2,097,152 bytes.
over_border : merged (2097160 ∷ []) (range 0 2097150 4 ∷ []) ≡ range 0 2097150 4 ∷ []
over_border = merged_itself (2097160 ∷ []) (range 0 2097150 4 ∷ []) (inr (refl, omega arith), omega arith, tt) inside
  where
    inside : (f b : ℕ) → covers (range 0 2097150 4 ∷ []) f b ≡ true → b < get_or (2097160 ∷ []) f 0
    inside zero b e = let l = lies_true (range 0 2097150 4) 0 b (sym (covers_one (range 0 2097150 4) 0 b) ∙ e) in let h = l.2 in omega arith
    inside (suc f) b e = let l = lies_true (range 0 2097150 4) (suc f) b (sym (covers_one (range 0 2097150 4) (suc f) b) ∙ e) in let h = l.0 in absurd (omega arith)

-- Three words each, and what stands behind them is left; with one word too few nothing is written.
room : merged_into (20 ∷ 20 ∷ []) (range 1 2 3 ∷ range 0 5 4 ∷ []) (7 ∷ 7 ∷ 7 ∷ 7 ∷ 7 ∷ 7 ∷ 7 ∷ []) ≡ result (value 2) (0 ∷ 5 ∷ 4 ∷ 1 ∷ 2 ∷ 3 ∷ 7 ∷ [])
unfolding merged_into written range_words merged runs_from runs run ended begun covers lies choose
room = refl

no_room : merged_into (20 ∷ 20 ∷ []) (range 1 2 3 ∷ range 0 5 4 ∷ []) (7 ∷ 7 ∷ 7 ∷ 7 ∷ 7 ∷ []) ≡ result (refused RangeRoom) (7 ∷ 7 ∷ 7 ∷ 7 ∷ 7 ∷ [])
unfolding merged_into written range_words merged runs_from runs run ended begun covers lies choose
no_room = refl
