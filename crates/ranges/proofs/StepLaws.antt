-- A step of a sweep leaves all that is to be put out as it was: a window, with the bytes to the next that is used; and the end of a file.
use Prim.Native.Nat.{ℕ, zero, suc, ◌+◌, ◌-◌, ◌^◌, ◌≤◌, ◌<◌, min, max}
use mathlib.Core.Path.{◌≡◌, refl, sym, ap, subst, ◌∙◌}
use mathlib.Core.Bool.{Bool, true, false}
use mathlib.Core.List.{List, [], ◌∷◌}
use native.Mathlib.Omega.{arith}
use lib.Dec.{ltb}
use lib.ListN.{length, get_or, drop, replicate, drop_of_length-le, get_or-eq_default}
use lib.Seq.{drop-cons}
use borrow.Author.Tests.{le-leb, lt-leb, leb-true, leb-false, ltb-true, ltb-false}
use Rattle.reads.specs.Outcome.{choose}
use Rattle.reads.proofs.Tests.{by_choose}
use Rattle.ranges.specs.Range.{Range, covers}
use Rattle.ranges.specs.Runs.{ended, begun, runs, runs_from, merged}
use Rattle.ranges.specs.Sheet.{window, sheet_words, sheet_next, shown, headed, blank, noted_all}
use Rattle.ranges.specs.Sweep.{more, Output, tell, Progress, progress_of, closed_at, passed, swept, leapt, Reached, reached_at, over_window, over_end, stepped, finished}
use Rattle.ranges.proofs.RunLaws.{run_none}
use Rattle.ranges.proofs.Shown.{Shows, shows_ranges}
use Rattle.ranges.proofs.SweepLaws.{leapt_far, leapt_near, tell_append, swept_runs, swept_same, swept_add}

-- The numbers of a window: its sheet's word 2 is `known`, and `left` bytes are left of the file.
pub next_known : (left n next known : ℕ) → n ≡ min window left → next ≡ min known left → min window left ≤ known → known ≤ left → next ≡ known
next_known left n next known e d a b = omega arith

n_next : (left n next known : ℕ) → n ≡ min window left → next ≡ known → min window left ≤ known → n ≤ next
n_next left n next known e d a = omega arith

n_window : (left n next known : ℕ) → n ≡ min window left → next ≡ known → known ≤ left → n < next → n ≡ window
n_window left n next known e d b l = omega arith

n_most : (left n : ℕ) → n ≡ min window left → n ≤ window
n_most left n e = omega arith

max_right : (n next : ℕ) → n ≤ next → max n next ≡ next
max_right n next h = omega arith

in_parts : (size at n next : ℕ) → n ≤ next → next ≤ size - at → size - at ≡ n + ((next - n) + (size - (at + next)))
in_parts size at n next h l = omega arith

module _ (f : ℕ) (u : ℕ → Bool) where
  closed_after : (b : ℕ) (p : Progress) → closed_at f (suc b) (passed f false b p) ≡ closed_at f b p
  unfolding closed_at passed ended begun tell
  closed_after b p = rw (run_none f (suc b) (suc b) (omega arith)) refl

  unused_step : (g b : ℕ) (p : Progress) → u b ≡ false → swept f u (suc g) b p ≡ swept f u g (suc b) (passed f false b p)
  unfolding swept
  unused_step g b p e = rw e refl

  -- Bytes that are not used end the run before them.
  swept_unused : (g b : ℕ) (p : Progress) → ((x : ℕ) → b ≤ x → x < b + suc g → u x ≡ false) → swept f u (suc g) b p ≡ progress_of (b + suc g) (closed_at f b p)
  unfolding swept
  swept_unused zero b p h =
      let e : b + 1 ≡ suc b = omega arith in
      unused_step zero b p (h b (omega arith) (omega arith)) ∙ rw e (unfold passed in unfold closed_at in unfold begun in unfold ended in refl)
  swept_unused (suc g) b p h =
      let e : b + suc (suc g) ≡ suc b + suc g = omega arith in
      unused_step (suc g) b p (h b (omega arith) (omega arith))
      ∙ swept_unused g (suc b) (passed f false b p) (λ x l m. h x (omega arith) (omega arith))
      ∙ rw (e, closed_after b p) refl

  leap_unused : (at n next : ℕ) (p : Progress) → ((x : ℕ) → at + n ≤ x → x < at + next → u x ≡ false) → swept f u (next - n) (at + n) p ≡ leapt f at n next p
  leap_unused at n next p none = go (ltb n next) refl
    where
      go : (t : Bool) → ltb n next ≡ t → swept f u (next - n) (at + n) p ≡ leapt f at n next p
      go true e =
          let l = ltb-true n next e in
          let g : next - n ≡ suc (next - n - 1) = omega arith in
          let d : at + n + suc (next - n - 1) ≡ at + next = omega arith in
          rw g (swept_unused (next - n - 1) (at + n) p (λ x k m. none x k (omega arith)) ∙ rw d (leapt_far f at n next _ _ p l refl))
      go false e =
          let l = ltb-false n next e in
          let g : next - n ≡ 0 = omega arith in
          rw g (unfold swept in leapt_near f at n next p l)

  window_seen : (least at n : ℕ) (m : List ℕ) (p : Progress) → Shows f at least m u → n ≤ window → swept f (shown at m) n at p ≡ swept f u n at p
  unfolding shown
  window_seen least at n m p s h = swept_same f (shown at m) u n at p (λ x l k. s.bits (x - at) (omega arith) ∙ ap u (omega arith))

  -- The rest of a file, from a window's first byte and from the byte after the leap.
  window_passed : (size at n next : ℕ) (m : List ℕ) (p : Progress) → at < size → Shows f at (size - at) m u → n ≡ min window (size - at) → next ≡ min (sheet_next m) (size - at)
      → swept f u (size - (at + max n next)) (at + max n next) (leapt f at n next (swept f (shown at m) n at p)) ≡ swept f u (size - at) at p
  window_passed size at n next m p h s e d =
      let known = next_known (size - at) n next (sheet_next m) e d s.beyond s.within in
      let up = n_next (size - at) n next (sheet_next m) e known s.beyond in
      let within : next ≤ size - at = subst (λ (k : ℕ). k ≤ size - at) (sym known) s.within in
      let seen = window_seen (size - at) at n m p s (n_most (size - at) n e) in
      let none : (x : ℕ) → at + n ≤ x → x < at + next → u x ≡ false = λ x l k.
      let all = n_window (size - at) n next (sheet_next m) e known s.within (lt_by at n next x l k) in
      ap u (sym (back at n x l)) ∙ s.clear (x - at) (past at n x all l) (short at next (sheet_next m) x known (low at n x l) k) in
      let mid : at + n + (next - n) ≡ at + next = omega (arith, up) in
      rw (seen, max_right n next up)
      (ap (swept f u (size - (at + next)) (at + next)) (sym (leap_unused at n next (swept f u n at p) none))
      ∙ ap (λ b. swept f u (size - (at + next)) b (swept f u (next - n) (at + n) (swept f u n at p))) (sym mid)
      ∙ sym (swept_add f u (next - n) (size - (at + next)) (at + n) (swept f u n at p))
      ∙ sym (swept_add f u n ((next - n) + (size - (at + next))) at p)
      ∙ ap (λ k. swept f u k at p) (sym (in_parts size at n next up within)))
    where
      lt_by : (a n next x : ℕ) → a + n ≤ x → x < a + next → n < next
      lt_by a n next x l k = omega arith

      low : (a n x : ℕ) → a + n ≤ x → a ≤ x
      low a n x l = omega arith

      back : (a n x : ℕ) → a + n ≤ x → a + (x - a) ≡ x
      back a n x l = omega arith

      past : (a n x : ℕ) → n ≡ window → a + n ≤ x → window ≤ x - a
      past a n x e l = omega arith

      short : (a next known x : ℕ) → next ≡ known → a ≤ x → x < a + next → x - a < known
      short a next known x e l k = omega arith

-- What is to be put out from the first byte of a file on: the runs of this file and of the later ones.
module _ (lengths : List ℕ) (u : ℕ → ℕ → Bool) where
  pub finished_file : (f : ℕ) (o : Output) → finished lengths u (reached_at f 0 (progress_of 0 o)) ≡ tell (runs_from f (drop f lengths) u) o
  unfolding finished
  finished_file f o = go (ltb f (length lengths)) refl
    where
      rest : Output → Output
      rest o' = tell (runs_from (suc f) (drop (suc f) lengths) u) o'

      go : (t : Bool) → ltb f (length lengths) ≡ t
          → rest (closed_at f (get_or lengths f 0) (swept f (u f) (get_or lengths f 0 - 0) 0 (progress_of 0 o))) ≡ tell (runs_from f (drop f lengths) u) o
      go true e =
          let all : get_or lengths f 0 - 0 ≡ get_or lengths f 0 = omega arith in
          let end : get_or lengths f 0 ≡ 0 + get_or lengths f 0 = omega arith in
          rw (drop-cons lengths f 0 (ltb-true f (length lengths) e), all)
          (ap rest (ap (λ b. closed_at f b (swept f (u f) (get_or lengths f 0) 0 (progress_of 0 o))) end ∙ swept_runs f (u f) (get_or lengths f 0) 0 (progress_of 0 o))
          ∙ sym (unfold runs_from in tell_append (runs f (u f) (get_or lengths f 0) 0 0) (runs_from (suc f) (drop (suc f) lengths) u) o))
      go false e =
          let l = ltb-false f (length lengths) e in
          rw (drop_of_length-le lengths {i = f} l, drop_of_length-le lengths {i = suc f} (omega arith), get_or-eq_default lengths 0 l)
          (unfold runs_from in unfold tell in unfold swept in unfold closed_at in rw (run_none f 0 0 (omega arith)) refl)

  -- At the end of all files nothing is left to do.
  pub finished_last : (s : Reached) → length lengths ≤ s.file → finished lengths u s ≡ s.progress.told
  unfolding finished
  finished_last s h =
      let none : 0 - s.at ≡ 0 = omega arith in
      rw (drop_of_length-le lengths {i = suc s.file} (omega arith), get_or-eq_default lengths 0 h, none)
      (unfold runs_from in unfold tell in unfold swept in unfold closed_at in rw (run_none s.file s.progress.start 0 (omega arith)) refl)

  -- A run ends with its file.
  finished_past : (s : Reached) → get_or lengths s.file 0 ≤ s.at
      → finished lengths u s ≡ tell (runs_from (suc s.file) (drop (suc s.file) lengths) u) (closed_at s.file (get_or lengths s.file 0) s.progress)
  unfolding finished swept
  finished_past s h = let none : get_or lengths s.file 0 - s.at ≡ 0 = omega arith in rw none refl

  finished_end : (s : Reached) → get_or lengths s.file 0 ≤ s.at → more s.file ≡ suc s.file
      → finished lengths u (over_end (get_or lengths s.file 0) s) ≡ finished lengths u s
  unfolding over_end
  finished_end s h next =
      ap (λ f. finished lengths u (reached_at f 0 (progress_of 0 (closed_at s.file (get_or lengths s.file 0) s.progress)))) next
      ∙ finished_file (suc s.file) (closed_at s.file (get_or lengths s.file 0) s.progress)
      ∙ sym (finished_past s h)

  finished_window : (s : Reached) (m : List ℕ) → s.at < get_or lengths s.file 0 → Shows s.file s.at (get_or lengths s.file 0 - s.at) m (u s.file)
      → finished lengths u (over_window (get_or lengths s.file 0) m s) ≡ finished lengths u s
  unfolding finished over_window
  finished_window s m h shows =
      ap (λ p. tell (runs_from (suc s.file) (drop (suc s.file) lengths) u) (closed_at s.file (get_or lengths s.file 0) p))
      (window_passed s.file (u s.file) (get_or lengths s.file 0) s.at _ _ m s.progress h shows refl refl)

-- A sweep over the files: a step leaves all that is put out in the end as it is.
module _ (lengths : List ℕ) (rs : List Range) where
  pub step_finished : (s : Reached) → suc s.file < 2 ^ 64 → finished lengths (covers rs) (stepped lengths rs s) ≡ finished lengths (covers rs) s
  unfolding stepped
  step_finished s h =
      by_choose (λ r. finished lengths (covers rs) r ≡ finished lengths (covers rs) s)
      (λ e. finished_end lengths (covers rs) s (leb-true (get_or lengths s.file 0) s.at e) (unfold more in omega arith))
      (λ e. finished_window lengths (covers rs) s (noted_all rs (blank s.file s.at (get_or lengths s.file 0 - s.at))) (leb-false (get_or lengths s.file 0) s.at e)
      (shows_ranges rs s.file s.at (get_or lengths s.file 0 - s.at)))

  -- From the first byte on all that is put out is the merged ranges.
  pub sweep_merged : (o : Output) → finished lengths (covers rs) (reached_at 0 0 (progress_of 0 o)) ≡ tell (merged lengths rs) o
  unfolding merged
  sweep_merged o = finished_file lengths (covers rs) 0 o

-- A step by its branches in the code: at a file's end, and else with a sheet of zeros that is begun and on which the ranges are noted.
module _ (lengths : List ℕ) (rs : List Range) (s r : Reached) (size : ℕ) (is-size : size ≡ get_or lengths s.file 0) where
  pub step_end : size ≤ s.at → r ≡ over_end size s → r ≡ stepped lengths rs s
  unfolding stepped choose
  step_end h e = rw (← is-size, le-leb size s.at h) e

  pub step_window : (m m' : List ℕ) → s.at < size → m ≡ headed s.file s.at (size - s.at) (replicate sheet_words 0) → m' ≡ noted_all rs m → r ≡ over_window size m' s
      → r ≡ stepped lengths rs s
  unfolding stepped choose blank
  step_window m m' h e d i = rw (← is-size, lt-leb size s.at h, ← e, ← d) i

-- What is left to pass falls with each step: a measure, of the files that are left and the bytes of all files.
total : List ℕ → ℕ
total [] = 0
total (n ∷ ns) = n + total ns

total_most : (lengths : List ℕ) (f : ℕ) → get_or lengths f 0 ≤ total lengths
unfolding total
total_most [] f = omega arith
total_most (n ∷ ns) zero = omega arith
total_most (n ∷ ns) (suc f) = let ih = total_most ns f in omega arith

times : ℕ → ℕ → ℕ
times zero k = 0
times (suc d) k = k + times d k

pub remaining : List ℕ → Reached → ℕ
remaining lengths s = times (length lengths - s.file) (suc (total lengths)) + (total lengths - s.at)

pub step_less : (lengths : List ℕ) (rs : List Range) (s : Reached) → s.file < length lengths → suc s.file < 2 ^ 64
    → remaining lengths (stepped lengths rs s) < remaining lengths s
unfolding stepped remaining
step_less lengths rs s l h =
    by_choose (λ r. remaining lengths r < remaining lengths s)
    (λ e. unfold over_end in unfold more in end_less (length lengths) s.file s.at (min (suc s.file) (2 ^ 64 - 1)) (total lengths) l (omega arith))
    (λ e. unfold over_window in
    window_less (times (length lengths - s.file) (suc (total lengths))) s.at (get_or lengths s.file 0) _ _ (total lengths) (leb-false (get_or lengths s.file 0) s.at e)
    (total_most lengths s.file) refl)
  where
    end_less : (files f at g all : ℕ) → f < files → g ≡ suc f → times (files - g) (suc all) + (all - 0) < times (files - f) (suc all) + (all - at)
    end_less files f at g all a b = go (files - g) (files - f) (omega arith)
      where
        go : (d e : ℕ) → e ≡ suc d → times d (suc all) + (all - 0) < times e (suc all) + (all - at)
        go d e i = rw i (unfold times in omega arith)

    window_less : (rest at size n next all : ℕ) → at < size → size ≤ all → n ≡ min window (size - at)
        → rest + (all - (at + max n next)) < rest + (all - at)
    window_less rest at size n next all a b e = omega arith
