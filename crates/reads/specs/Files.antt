-- The files of an image (document 02, note 6): at most four are lent, numbered from 0.
use Rattle.std.specs.Prelude.{ℕ, max, Bool, List, [], ◌∷◌, map, length, take, nat_lt, slice_index_or}
use Rattle.std.specs.Borrow.{Bor}
use Rattle.reads.specs.Reference.{Slices, before}

-- The bytes of the files that are lent, in the order of their numbers: slices past the fourth are not.
unfoldable pub files_lent : List (Bor (List ℕ)) → List (List ℕ)
files_lent files = take 4 (map (λ x. x.now) files)

-- The same, of the slices that a function takes.
abbrev pub files_of : Slices → List (List ℕ)
files_of files = files_lent (before files)

-- A file number that has a lent slice; an empty slice that is lent is a file of length 0.
abbrev pub is_lent : List (List ℕ) → ℕ → Bool
is_lent files f = nat_lt f (length files)

-- The bytes of file f: none where it is not lent.
unfoldable pub file_of : List (List ℕ) → ℕ → List ℕ
file_of files f = slice_index_or files f []

-- The length of the longest file.
unfoldable pub longest : List (List ℕ) → ℕ
longest [] = 0
longest (f ∷ fs) = max (length f) (longest fs)
