-- What the passes over the rows say: the end, the count, the room, and what is written.
use Rattle.std.specs.Prelude.{ℕ, ◌*◌, ◌≤◌, ◌≡◌, Bool, true, false, List, leb, length, Result, Ok, Err}
use Rattle.dispatch.specs.declared.rows.Appearance.{Appearance}
use Rattle.dispatch.specs.declared.effective.Counted.{Counted}
use Rattle.dispatch.specs.declared.effective.Counted.TheVariants as counted
use Rattle.reads.specs.Outcome.{value, refused}
use Rattle.reads.specs.declared.answer.Question.{Question}
use Rattle.dispatch.specs.Appearances.{Rows}
use Rattle.dispatch.specs.Dispatch.{firsts, effective_of, filled}
use Rattle.dispatch.specs.Table.{Holds}

-- At most so many of some rows are the first of their selector among all.
unfoldable pub few_firsts : List (List ℕ) → List Appearance → List Appearance → ℕ → Bool
few_firsts files all rows room = leb (length (firsts files all rows)) room

-- At most so many rows.
unfoldable pub few_rows : List Appearance → ℕ → Bool
few_rows rows room = leb (length rows) room

-- What a pass to the end says: that the rows are at most so many, or may be more; or the question that refuses.
abbrev pub Surveys : Rows → ℕ → Result Bool Question → Type 0
Surveys rs room (Ok true) = (rs.end ≡ value tt) × (few_rows rs.rows room ≡ true)
Surveys rs room (Ok false) = rs.end ≡ value tt
Surveys rs room (Err k) = rs.end ≡ refused k

pub record Surveyed (rs : Rows) (room : ℕ) (r : Result Bool Question) : Type 0 where
  pub found : Surveys rs room r

-- What is said of the room for the selectors.
abbrev pub Rooms : List (List ℕ) → Rows → ℕ → Result Bool Question → Type 0
Rooms files rs room (Ok enough) = (rs.end ≡ value tt) × (few_firsts files rs.rows rs.rows room ≡ enough)
Rooms files rs room (Err k) = rs.end ≡ refused k

pub record RoomFor (files : List (List ℕ)) (rs : Rows) (room : ℕ) (r : Result Bool Question) : Type 0 where
  pub told : Rooms files rs room r

-- What a count of the selectors says.
abbrev pub Counts : List (List ℕ) → List Appearance → Counted → Type 0
Counts files rows (counted.All n) = n ≡ length (firsts files rows rows)
Counts files rows (counted.AtLeast n) = n ≤ length (firsts files rows rows)

pub record CountedAll (files : List (List ℕ)) (rows : List Appearance) (r : Counted) : Type 0 where
  pub counts : Counts files rows r

-- The result buffer holds the table of all selectors.
pub record Tabled (files : List (List ℕ)) (rows : List Appearance) (old : List ℕ) (count : ℕ) (result : List ℕ) : Type 0 where
  pub holds : Holds old (effective_of files rows) count result
  pub fits : 4 * count ≤ length result
  pub same : length result ≡ length old

-- How many selectors were written, and the result buffer with their words in front.
pub record WroteAll (files : List (List ℕ)) (rows : List Appearance) (old : List ℕ) (count : ℕ) (result : List ℕ) : Type 0 where
  pub counted : count ≡ length (firsts files rows rows)
  pub contents : result ≡ filled (effective_of files rows) old
