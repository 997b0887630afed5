-- The table of selectors that the pass which writes keeps in the result buffer: while it runs, the last word of an entry is the number of
-- its row's source.
use Rattle.std.specs.Prelude.{ℕ, suc, ◌-◌, ◌*◌, ◌<◌, ◌≤◌, ◌≡◌, Option, None, Some, List, [], ◌∷◌, ◌++◌, ltb, eqb, length, drop}
use Rattle.reads.specs.Outcome.{choose}
use Rattle.reads.specs.declared.text.Text.{Text}
use Rattle.dispatch.specs.declared.rows.Appearance.{Appearance}
use Rattle.dispatch.specs.declared.table.Selectors.{Selectors}
use Rattle.pointers.specs.Tables.{Tables}
use Rattle.reads.specs.Text.{or_none}
use Rattle.dispatch.specs.SlotSources.{listed_at}
use Rattle.dispatch.specs.Dispatch.{same_selector, words}
use Rattle.dispatch.specs.Claims.{In}

unfoldable pub marks : List Appearance → List ℕ
marks [] = []
marks (a ∷ more) = a.selector.file ∷ a.selector.offset ∷ a.selector.len ∷ a.source ∷ marks more

-- The number of the entry with a selector, the number of all where none has it.
unfoldable pub position : List (List ℕ) → Text → List Appearance → ℕ
position files s [] = 0
position files s (a ∷ more) = choose (same_selector files a.selector s) 0 (suc (position files s more))

-- A row is noted: it takes the place of one of an earlier source with its selector, and comes last where none has it.
unfoldable pub note : List (List ℕ) → Appearance → List Appearance → List Appearance
note files b [] = b ∷ []
note files b (a ∷ more) =
    choose (same_selector files a.selector b.selector) (choose (ltb a.source b.source) b a ∷ more) (a ∷ note files b more)

unfoldable pub note_all : List (List ℕ) → List Appearance → List Appearance → List Appearance
note_all files table [] = table
note_all files table (b ∷ more) = note_all files (note files b table) more

-- The result buffer holds a table in front, and behind it what the old one held.
pub record Holds (old : List ℕ) (table : List Appearance) (count : ℕ) (result : List ℕ) : Type 0 where
  pub stored : result ≡ marks table ++ drop (4 * count) old
  pub many : length table ≡ count

-- What a search for a selector finds, whatever table the buffer holds: the entry that has it, if there is one.
abbrev pub Finds : List (List ℕ) → List ℕ → ℕ → Text → Option ℕ → Type 0
Finds files result count s (Some j) = (j < count) × ((old : List ℕ) (table : List Appearance) → Holds old table count result → j ≡ position files s table)
Finds files result count s None = (old : List ℕ) (table : List Appearance) → Holds old table count result → count ≡ position files s table

pub record FoundIn (files : List (List ℕ)) (result : List ℕ) (count : ℕ) (s : Text) (r : Option ℕ) : Type 0 where
  pub finds : Finds files result count s r

-- A table is in the same words.
pub record SameWords (o p : Selectors) : Type 0 where
  pub words : p.words.ghost_name ≡ o.words.ghost_name
  pub size : length p.words.now ≡ length o.words.now

-- What noting a row leaves, whatever table the buffer holds.
pub record Noted (files : List (List ℕ)) (result : List ℕ) (count : ℕ) (b : Appearance) (r : ℕ) (after : List ℕ) : Type 0 where
  pub same : length after ≡ length result
  pub holds : (old : List ℕ) (table : List Appearance) → Holds old table count result → 4 * length (note files b table) ≤ length old → length result ≡ length old
      → Holds old (note files b table) r after

-- The record of source n: the class's own, or the category in slot n - 1.
unfoldable pub origin_of : ℕ → Tables → ℕ → ℕ
origin_of own t n = choose (eqb n 0) own (or_none (listed_at t (n - 1)))

abbrev pub Origins : ℕ → Tables → List Appearance → Type 0
Origins own t rows = (a : Appearance) → In a rows → a.origin ≡ origin_of own t a.source

-- With the records in place of their numbers.
pub record Named (own : ℕ) (t : Tables) (result : List ℕ) (count : ℕ) (after : List ℕ) : Type 0 where
  pub same : length after ≡ length result
  pub named : (old : List ℕ) (table : List Appearance) → Holds old table count result → Origins own t table → after ≡ words table ++ drop (4 * count) old
