-- A sweep (src/sweep.rt) over the bytes of all files in order: the runs found are counted, and put out where there is room.
use Rattle.std.specs.Prelude.{ℕ, zero, suc, ◌+◌, ◌-◌, ◌*◌, ◌/◌, ◌^◌, min, max, Bool, List, [], ◌∷◌, leb, ltb, length, get_or, set, drop}
use Rattle.reads.specs.Outcome.{choose}
use Rattle.ranges.specs.Range.{Range}
use Rattle.ranges.specs.Runs.{run, ended, begun, runs_from}
use Rattle.ranges.specs.Sheet.{window, sheet_next, shown, blank, noted_all}
use Rattle.ranges.specs.declared.sweep.Open.{Open}
use Rattle.ranges.specs.declared.sweep.Sweep.{Sweep}

-- One more, up to the greatest word.
unfoldable pub more : ℕ → ℕ
more n = min (suc n) (2 ^ 64 - 1)

-- What is put out: how many ranges, and the words.
pub record Output : Type 0 where
  pub count : ℕ
  pub words : List ℕ

abbrev pub output : ℕ → List ℕ → Output
output count words = record { count = count; words = words }

-- A range put out as number i, if there is room.
unfoldable pub put_at : List ℕ → ℕ → Range → List ℕ
put_at out i r = choose (ltb i (length out / 3)) (set (set (set out (i * 3) r.file) (i * 3 + 1) r.offset) (i * 3 + 2) r.len) out

unfoldable pub tell : List Range → Output → Output
tell [] o = o
tell (r ∷ rs) o = tell rs (output (more o.count) (put_at o.words o.count r))

-- The same, and from where on all bytes are used.
pub record Progress : Type 0 where
  pub start : ℕ
  pub told : Output

abbrev pub progress_of : ℕ → Output → Progress
progress_of start told = record { start = start; told = told }

abbrev pub progress : Open → List ℕ → Progress
progress w words = progress_of w.start (output w.count words)

-- The run that is open at byte b of file f is put out; and byte b, used or not, is passed.
unfoldable pub closed_at : ℕ → ℕ → Progress → Output
closed_at f b p = tell (run f p.start b) p.told

unfoldable pub passed : ℕ → Bool → ℕ → Progress → Progress
passed f used b p = progress_of (begun used p.start b) (tell (ended used f p.start b) p.told)

-- k bytes from b on are passed.
unfoldable pub swept : ℕ → (ℕ → Bool) → ℕ → ℕ → Progress → Progress
swept f u zero b p = p
swept f u (suc k) b p = swept f u k (suc b) (passed f (u b) b p)

-- From byte at + n to at + next, where none is used.
unfoldable pub leapt : ℕ → ℕ → ℕ → ℕ → Progress → Progress
leapt f at n next p = choose (ltb n next) (progress_of (at + next) (closed_at f (at + n) p)) p

-- A sweep that has come to byte `at` of a file.
pub record Reached : Type 0 where
  pub file : ℕ
  pub at : ℕ
  pub progress : Progress

abbrev pub reached_at : ℕ → ℕ → Progress → Reached
reached_at file at progress = record { file = file; at = at; progress = progress }

-- At the first byte of the first file.
abbrev pub first_byte : Sweep
first_byte = record { file = 0; at = 0; run = record { start = 0; count = 0 } }

abbrev pub reached : Sweep → List ℕ → Reached
reached w words = reached_at w.file w.at (progress w.run words)

-- The window at `at` of a file of `size` bytes is passed, and the bytes past it to the next that its sheet knows to be used.
unfoldable pub over_window : ℕ → List ℕ → Reached → Reached
over_window size m s =
    let n = min window (size - s.at) in
    let next = min (sheet_next m) (size - s.at) in
    reached_at s.file (s.at + max n next) (leapt s.file s.at n next (swept s.file (shown s.at m) n s.at s.progress))

-- The end of a file of `size` bytes: a run ends with its file.
unfoldable pub over_end : ℕ → Reached → Reached
over_end size s = reached_at (more s.file) 0 (progress_of 0 (closed_at s.file size s.progress))

-- One step, in files of these lengths whose bytes in rs are used.
unfoldable pub stepped : List ℕ → List Range → Reached → Reached
stepped lengths rs s =
    let size = get_or lengths s.file 0 in
    choose (leb size s.at)
    (over_end size s)
    (over_window size (noted_all rs (blank s.file s.at (size - s.at))) s)

-- All that is put out when every byte from here on is passed.
unfoldable pub finished : List ℕ → (ℕ → ℕ → Bool) → Reached → Output
finished lengths u s =
    let size = get_or lengths s.file 0 in
    tell (runs_from (suc s.file) (drop (suc s.file) lengths) u)
    (closed_at s.file size (swept s.file (u s.file) (size - s.at) s.at s.progress))
