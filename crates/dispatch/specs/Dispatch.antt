-- Which method gets called (document 02, note 10): each selector once, by first appearance, with the row that stands.
use Rattle.std.specs.Prelude.{ℕ, ◌*◌, Bool, true, false, ◌&&◌, ◌||◌, List, [], ◌∷◌, ◌++◌, leb, ltb, eqb, length, drop}
use Rattle.reads.specs.Outcome.{Outcome, value, absent, refused, and_then, choose}
use Rattle.reads.specs.Files.{file_of}
use Rattle.reads.specs.Place.{part}
use Rattle.reads.specs.declared.text.Text.{Text}
use Rattle.pointers.specs.Tables.{Tables}
use Rattle.pointers.specs.Question.{guarded}
use Rattle.records.specs.Class.{class_at}
use Rattle.walks.specs.PlainSections.{plain_categories}
use Rattle.dispatch.specs.declared.sources.Side.{Side}
use Rattle.dispatch.specs.declared.rows.Appearance.{Appearance}
use Rattle.dispatch.specs.Appearances.{Rows, appearances}
use Rattle.reads.specs.declared.answer.Question.TheVariants.{SelectorRoom}

-- Selectors are compared as bytes, wherever they stand.
abbrev pub selector_bytes : List (List ℕ) → Text → List ℕ
selector_bytes files s = part (file_of files s.file) s.offset s.len

unfoldable pub same_bytes : List ℕ → List ℕ → Bool
same_bytes [] [] = true
same_bytes [] (b ∷ bs) = false
same_bytes (a ∷ more) [] = false
same_bytes (a ∷ more) (b ∷ bs) = eqb a b && same_bytes more bs

unfoldable pub same_selector : List (List ℕ) → Text → Text → Bool
same_selector files s u = same_bytes (selector_bytes files s) (selector_bytes files u)

-- A row stands before another: in an earlier source, or in the same at an earlier entry.
unfoldable pub comes_before : Appearance → Appearance → Bool
comes_before b a = ltb b.source a.source || (eqb b.source a.source && ltb b.entry a.entry)

-- Some row before a has its selector.
unfoldable pub has_earlier : List (List ℕ) → Appearance → List Appearance → Bool
has_earlier files a [] = false
has_earlier files a (b ∷ bs) = (comes_before b a && same_selector files a.selector b.selector) || has_earlier files a bs

-- Of some rows those that are the first of their selector among all.
unfoldable pub firsts : List (List ℕ) → List Appearance → List Appearance → List Appearance
firsts files all [] = []
firsts files all (a ∷ more) = choose (has_earlier files a all) (firsts files all more) (a ∷ firsts files all more)

-- A row of a later source supersedes one with the same selector.
unfoldable pub supersedes : List (List ℕ) → Appearance → Appearance → Bool
supersedes files b a = ltb a.source b.source && same_selector files a.selector b.selector

-- The row that stands for a's selector: each row that supersedes takes its place; within one source the first stays.
unfoldable pub standing : List (List ℕ) → Appearance → List Appearance → Appearance
standing files a [] = a
standing files a (b ∷ bs) = standing files (choose (supersedes files b a) b a) bs

-- The effective methods among rows: for each first row of a selector the one that stands.
unfoldable pub standing_for : List (List ℕ) → List Appearance → List Appearance → List Appearance
standing_for files all [] = []
standing_for files all (a ∷ more) = standing files a all ∷ standing_for files all more

unfoldable pub effective_of : List (List ℕ) → List Appearance → List Appearance
effective_of files rows = standing_for files rows (firsts files rows rows)

unfoldable pub effective_among : List (List ℕ) → Rows → Outcome (List Appearance)
effective_among files r = and_then r.end (λ _. value (effective_of files r.rows))

-- The effective methods of the class at an address, absent if it does not decode.
unfoldable pub effective : Tables → Side → ℕ → Outcome (List Appearance)
effective t s va =
    guarded t (and_then (class_at t va false) (λ c. and_then (plain_categories t) (λ categories. effective_among t.files (appearances t s categories c))))

-- The words of rows: the selector's file, offset and length, and the address of the record that it came from.
unfoldable pub words : List Appearance → List ℕ
words [] = []
words (a ∷ more) = a.selector.file ∷ a.selector.offset ∷ a.selector.len ∷ a.origin ∷ words more

-- A result buffer with the words of rows in front, and behind them as it was.
unfoldable pub filled : List Appearance → List ℕ → List ℕ
filled more result = words more ++ drop (4 * length more) result

-- A call's answer, with the result buffer as it leaves it.
pub record Left : Type 0 where
  pub answer : Outcome ℕ
  pub result : List ℕ

abbrev pub leaves : Outcome ℕ → List ℕ → Left
leaves answer result = record { answer = answer; result = result }

-- 22, asked last: does the result buffer hold four words for each selector? Refused or absent, it is as it was.
unfoldable pub left : Outcome (List Appearance) → List ℕ → Left
left (value more) result = choose (leb (4 * length more) (length result)) (leaves (value (length more)) (filled more result)) (leaves (refused SelectorRoom) result)
left (absent why) result = leaves (absent why) result
left (refused k) result = leaves (refused k) result
