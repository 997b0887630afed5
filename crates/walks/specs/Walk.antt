-- List walks (document 01, Lists and Steps): what a step answers, and the walk after it.
use Rattle.reads.specs.declared.answer.Missing.{Missing}
use Rattle.std.specs.Prelude.{ℕ, suc, Option, None, Some, Result}
use Rattle.reads.specs.Outcome.{Outcome, value, absent, refused}
use Rattle.reads.specs.declared.answer.Reason.{Reason}
use Rattle.pointers.specs.Tables.{Tables, image_in, under}
use Rattle.pointers.specs.Question.{asked}
use Rattle.records.specs.List.{list_at, entry_address}
use Rattle.records.specs.Search.{first_readable}
use Rattle.records.specs.Row.{row_at}
use Rattle.walks.specs.Handed.{unless_refused, Handed, hands, hands_back, from_cursor, step_answer, stepped}
use Rattle.pointers.specs.declared.setting.Setting.{Setting}
use Rattle.records.specs.declared.list.Layout.{Layout}
use Rattle.records.specs.declared.list.ListKind.{ListKind}
use Rattle.records.specs.declared.row.Row.{Row}
use Rattle.walks.specs.declared.list_walk.ListWalk.{ListWalk}
use Rattle.walks.specs.declared.list_walk.ListStep.{ListStep}
use Rattle.walks.specs.declared.list_walk.ListStep.TheVariants as step
use Rattle.walks.specs.declared.stepped.Stepped.{Stepped}

-- A walk over a list, under the setting that it began with.
abbrev pub walk_of : Setting → ℕ → ListKind → ℕ → ListWalk
walk_of setting list kind cursor = record { list = list; kind = kind; setting = setting; cursor = cursor }

-- The walk at another cursor.
abbrev pub moved : ListWalk → ℕ → ListWalk
moved w cursor = walk_of w.setting w.list w.kind cursor

-- What a step reaches where no question refuses it: a row, or an entry whose row is skipped, with its index and why; or it has finished.
-- As an outcome, absent is an absent list.
pub data ReachedRow : Type 0 where
  row_reached : Row → ReachedRow
  row_skipped : ℕ → Reason → ReachedRow
  rows_finished : ReachedRow

abbrev pub RowLeft : Type 0
RowLeft = Handed ReachedRow ListWalk

-- What entry j answers: its row, or skipped with its index and the reason for which the row is absent.
abbrev pub entry_answer : ℕ → Outcome Row → Outcome ReachedRow
entry_answer j (value r) = value (row_reached r)
entry_answer j (absent r) = value (row_skipped j r)
entry_answer j (refused k) = refused k

abbrev pub entry_row : Tables → Layout → ℕ → Outcome ReachedRow
entry_row t h j = entry_answer j (row_at t h.kind (entry_address h j))

-- It is settled, and the cursor is one past it; a number refuses the step.
abbrev pub settles : ListWalk → ℕ → Outcome Row → RowLeft
settles w j row = unless_refused row (hands_back w) (hands (entry_answer j row) (moved w (suc j)))

-- The first readable entry from the cursor on; with none left the walk has finished, at the count.
abbrev pub searched : Tables → ListWalk → Layout → Option ℕ → RowLeft
searched t w h (Some j) = settles w j (row_at t h.kind (entry_address h j))
searched t w h None = hands (value rows_finished) (moved w h.count)

unfoldable pub over_rows : Tables → ListWalk → Outcome Layout → RowLeft
over_rows t w list = from_cursor w w.cursor (λ h. h.count) (λ h. searched t w h (first_readable (image_in t) h w.cursor)) list

-- A step under a setting: 1 to 6 and 8, then 10, then the next readable entry.
unfoldable pub next_under : Tables → ListWalk → RowLeft
next_under t w = unless_refused (asked t) (hands_back w) (over_rows t w (list_at t w.kind w.list))

-- A step, which takes the setting from the walk, never from what it is lent (document 02, note 12).
abbrev pub next_of : Tables → ListWalk → RowLeft
next_of t w = next_under (under w.setting t) w

-- Document 01's meaning of each case of the code's answers.
abbrev pub row_step : ListStep → ReachedRow
row_step (step.Row r) = row_reached r
row_step (step.Skipped j r) = row_skipped j r
row_step step.Finished = rows_finished

abbrev pub list_answer : Result ListStep Missing → Outcome ReachedRow
list_answer walked = step_answer row_step walked

abbrev pub row_left : Stepped ListStep ListWalk → RowLeft
row_left r = stepped row_step r
