-- When an old page is still good (document 02, note 13): two images that open with files of equal lengths, the same tables and image info, are
-- read alike, and have equal bytes in the ranges used.
use Rattle.std.specs.Prelude.{ℕ, ◌≡◌, true, List, get_or}
use Rattle.reads.specs.Files.{file_of}
use Rattle.pointers.specs.Open.{Opened}
use Rattle.pointers.specs.Tables.{Tables}
use Rattle.ranges.specs.Range.{Range, covers}
use Rattle.ranges.specs.Runs.{merged}
use Rattle.used.specs.Used.{file_lengths}

-- What is not a byte of a file. Of the index nothing is said: both images are opened, and its further words are the caller's.
pub record SameTables (t u : Tables) : Type 0 where
  pub lengths : file_lengths t.files ≡ file_lengths u.files
  pub segments : t.segments ≡ u.segments
  pub sections : t.sections ≡ u.sections
  pub info : t.info ≡ u.info
  pub rebases : t.rebases ≡ u.rebases
  pub binds : t.binds ≡ u.binds
  pub setting : t.setting ≡ u.setting

-- Each byte that lies in one of the ranges is equal in both.
abbrev pub SameBytes : List (List ℕ) → List (List ℕ) → List Range → Type 0
SameBytes files others rs = (f b : ℕ) → covers rs f b ≡ true → get_or (file_of files f) b 0 ≡ get_or (file_of others f) b 0

-- t's page is still good for u, as far as some ranges are used.
pub record StillGood (t u : Tables) (rs : List Range) : Type 0 where
  pub opened : Opened t
  pub opens : Opened u
  pub tables : SameTables t u
  pub bytes : SameBytes t.files u.files (merged (file_lengths t.files) rs)
