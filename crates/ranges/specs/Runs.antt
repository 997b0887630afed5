-- The runs of the bytes that a test has, in order; and ranges merged (document 02, note 13): the runs of the bytes that lie in one of them.
use Rattle.std.specs.Prelude.{ℕ, zero, suc, ◌+◌, ◌-◌, ◌≤◌, ◌<◌, ◌≡◌, Bool, true, false, List, [], ◌∷◌, ◌++◌, ◌⊎◌, ltb}
use Rattle.reads.specs.Outcome.{choose}
use Rattle.ranges.specs.Range.{Range, range, covers}

-- The run of the bytes of file f from s to b, if there is one.
unfoldable pub run : ℕ → ℕ → ℕ → List Range
run f s b = choose (ltb s b) (range f s (b - s) ∷ []) []

-- At byte b, used or not, with the bytes from s to b used: the run that ends there, and from where on all bytes to the next are used.
unfoldable pub ended : Bool → ℕ → ℕ → ℕ → List Range
ended true f s b = []
ended false f s b = run f s b

unfoldable pub begun : Bool → ℕ → ℕ → ℕ
begun true s b = s
begun false s b = suc b

-- The runs in k bytes of file f from b on, where the bytes from s to b are used.
unfoldable pub runs : ℕ → (ℕ → Bool) → ℕ → ℕ → ℕ → List Range
runs f u zero b s = run f s b
runs f u (suc k) b s = ended (u b) f s b ++ runs f u k (suc b) (begun (u b) s b)

-- The ranges of the bytes that a test has, of files with these lengths, numbered from f on: runs end with their file.
unfoldable pub runs_from : ℕ → List ℕ → (ℕ → ℕ → Bool) → List Range
runs_from f [] u = []
runs_from f (n ∷ ns) u = runs f (u f) n 0 0 ++ runs_from (suc f) ns u

-- Ranges merged: those of the bytes that lie in a given one and below the length of their file.
unfoldable pub merged : List ℕ → List Range → List Range
merged lengths rs = runs_from 0 lengths (covers rs)

-- A range that begins in a later file than f, or in f at byte lo or after it.
abbrev pub Past : ℕ → ℕ → Range → Type 0
Past f lo r = (f < r.file) ⊎ ((f ≡ r.file) × (lo ≤ r.offset))

-- Ranges from byte lo of file f on that ascend, do not touch, and have a byte each.
abbrev pub Apart : ℕ → ℕ → List Range → Type 0
Apart f lo [] = Unit {0}
Apart f lo (r ∷ rs) = Past f lo r × (0 < r.len) × Apart r.file (suc (r.offset + r.len)) rs
