-- The first readable entry of a list, index by index: the plain definition (document 01, Lists), and all of them.
use Rattle.std.specs.Prelude.{ℕ, zero, suc, ◌+◌, ◌-◌, ◌*◌, Bool, List, [], ◌∷◌, Some, None, Option}
use Rattle.reads.specs.Outcome.{choose}
use Rattle.reads.specs.Place.{Image}
use Rattle.reads.specs.Segment.{segment_words}
use Rattle.reads.specs.Table.{records}
use Rattle.records.specs.List.{entry}
use Rattle.records.specs.declared.list.Layout.{Layout}

-- The first of the k indices from i on that passes a test.
unfoldable pub first : (ℕ → Bool) → ℕ → ℕ → Option ℕ
first test zero i = None
first test (suc k) i = choose (test i) (Some i) (first test k (suc i))

-- Those of the k indices from i on that pass it, in order.
unfoldable pub all_from : (ℕ → Bool) → ℕ → ℕ → List ℕ
all_from test zero i = []
all_from test (suc k) i = choose (test i) (i ∷ all_from test k (suc i)) (all_from test k (suc i))

-- The first entry from i on, below the count, that is readable.
unfoldable pub first_readable : Image → Layout → ℕ → Option ℕ
first_readable m h i = first (entry m h) (h.count - i) i

-- Every entry below the count that is readable, in order.
unfoldable pub readables : Image → Layout → List ℕ
readables m h = all_from (entry m h) h.count 0

-- How many indices a step may try (document 01, Steps): 3 x S + 1, of a segment table of S rows.
abbrev pub search_budget : List ℕ → ℕ
search_budget segments = 3 * records segment_words segments + 1
