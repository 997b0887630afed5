-- The rows of a list for C: a step of its walk, whose state is words, and the steps of a call, one for each row that the lent table has room for.
use Rattle.std.specs.Prelude.{◌≡◌, ℕ, zero, suc, ◌*◌, ◌^◌, List, ltb, eqb, Option, Some, None, Result, Ok, Err, MatchResult}
use Rattle.std.proofs.lemmas.List.Edits.{sets}
use Rattle.reads.specs.Outcome.{choose}
use Rattle.pointers.specs.Tables.{Tables, under}
use Rattle.pointers.specs.Question.{asked}
use Rattle.records.specs.List.{list_at}
use Rattle.records.specs.declared.list.ListKind.{ListKind}
use Rattle.records.specs.declared.list.ListKind.TheVariants.{Methods, Ivars, Properties}
use Rattle.walks.specs.Handed.{unless_refused}
use Rattle.walks.specs.Walk.{walk_of, RowLeft, over_rows, next_of}
use Rattle.walks.specs.ProtocolNames.{walk_at, protocol_list_at, NameLeft, over_names, next_name}
use Rattle.walks.specs.declared.list_walk.ListWalk.{ListWalk}
use Rattle.walks.specs.declared.protocol_names.ProtocolNameWalk.{ProtocolNameWalk}
use Rattle.face.specs.Status.{says_more, says_refused}
use Rattle.face.specs.Words.{setting_in}
use Rattle.face.specs.Row.{row_size, list_row, name_row}
use Rattle.face.specs.declared.status.Status.{Status}
use Rattle.face.specs.declared.rows.Listed.{Listed}
use Rattle.face.specs.declared.rows.Listed.TheVariants.{Rows, Names}
use Rattle.face.specs.declared.rows.RowWalk.{RowWalk}
use Rattle.face.specs.declared.rows.RowTurn.{RowTurn}
use Rattle.face.specs.declared.rows.RowsTold.{RowsTold}
use Rattle.reads.specs.declared.answer.Question.{Question}
use Rattle.reads.specs.declared.answer.Question.TheVariants.{WalkState}

-- What a list lists, by the kind of its walk.
unfoldable pub listed : ℕ → Option Listed
listed kind =
    choose (eqb kind 0) (Some (Rows Methods))
    (choose (eqb kind 1) (Some (Rows Ivars)) (choose (eqb kind 2) (Some (Rows Properties)) (choose (eqb kind 3) (Some Names) None)))

-- What the code says of a kind: what its list lists, or that it is no state.
abbrev pub Lists : ℕ → Result Listed Question → Type 0
Lists kind r = MatchResult r (λ l. listed kind ≡ Some l) (λ q. (listed kind ≡ None) × (q ≡ WalkState))

-- The walk at another cursor.
abbrev pub moved_to : RowWalk → ℕ → RowWalk
moved_to w cursor = record { list = w.list; kind = w.kind; cursor = cursor; old_reading = w.old_reading }

-- A refused step hands the walk back as given.
abbrev pub refused_turn : RowWalk → Question → RowTurn
refused_turn w k = record { said = Err (says_refused k); walk = w }

-- A step of the library's walk that the words say, and its answer in words.
abbrev pub list_turn : (ListWalk → RowLeft) → RowWalk → ListKind → RowTurn
list_turn step w k =
    let left = step (walk_of (setting_in w.old_reading) w.list k w.cursor) in
    record { said = list_row left.answer; walk = moved_to w left.walk.cursor }

abbrev pub name_turn : (ProtocolNameWalk → NameLeft) → RowWalk → RowTurn
name_turn step w =
    let left = step (walk_at (setting_in w.old_reading) w.list w.cursor) in
    record { said = name_row left.answer; walk = moved_to w left.walk.cursor }

-- A step by what is listed. What is no state, by its kind or by a cursor of 2^32 or more in a list of at most 2^32 - 1 entries, has `none`.
abbrev pub turn_by : (ListWalk → RowLeft) → (ProtocolNameWalk → NameLeft) → RowTurn → RowWalk → Option Listed → RowTurn
turn_by rows names none w (Some (Rows k)) = choose (ltb w.cursor (2 ^ 32)) (list_turn rows w k) none
turn_by rows names none w (Some Names) = name_turn names w
turn_by rows names none w None = none

-- The step: what is no state is 10, after the questions 1 to 6 and 8.
unfoldable pub row_turn : Tables → RowWalk → RowTurn
row_turn t w =
    turn_by (next_of t) (next_name t) (unless_refused (asked t) (refused_turn w) (refused_turn w WalkState)) w (listed w.kind)

-- The same over tables of which these questions have been asked.
abbrev pub list_over : Tables → ListWalk → RowLeft
list_over t w = over_rows (under w.setting t) w (list_at (under w.setting t) w.kind w.list)

abbrev pub names_over : Tables → ProtocolNameWalk → NameLeft
names_over t w = over_names (under w.setting t) w (protocol_list_at (under w.setting t) w.list)

unfoldable pub turn_over : Tables → RowWalk → RowTurn
turn_over t w = turn_by (list_over t) (names_over t) (refused_turn w WalkState) w (listed w.kind)

-- What a call leaves: what ended it, how many rows it gave and the walk after them; and the lent table.
pub record Filled : Type 0 where
  pub told : RowsTold
  pub table : List ℕ

abbrev pub filled : Status → ℕ → RowWalk → List ℕ → Filled
filled s n w table = record { told = record { status = s; rows = n; walk = w }; table = table }

-- By what a step says: a row's words, or what ends the rows.
abbrev pub row_or : {A : Type 0} → (List ℕ → A) → (Status → A) → Result (List ℕ) Status → A
row_or row end (Ok ws) = row ws
row_or row end (Err s) = end s

-- The steps of a call, at most k more after n rows: each row goes behind those before it, and the first step that finds none ends the call.
unfoldable pub gather : (RowWalk → RowTurn) → ℕ → RowWalk → ℕ → List ℕ → Filled
gather turn zero w n table = filled says_more n w table
gather turn (suc k) w n table =
    row_or (λ ws. gather turn k (turn w).walk (suc n) (sets table (row_size * n) ws)) (λ s. filled s n (turn w).walk table) (turn w).said
