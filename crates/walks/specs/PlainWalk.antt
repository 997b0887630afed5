-- The plain walk over a list (document 01, Lists): fed the opened tables under a setting, which holds the reading (document 02, note 12),
-- list address and kind, it holds a position, and asks of what a step is lent only whether a question refuses it there under that setting.
use Rattle.std.specs.Prelude.{ℕ, suc, ◌-◌, ◌≡◌, List, [], ◌∷◌, leb, Option, None, Some}
use Rattle.reads.specs.Outcome.{Outcome, value, absent, refused, and_then}
use Rattle.pointers.specs.Tables.{Tables, image_in, under}
use Rattle.pointers.specs.declared.setting.Setting.{Setting}
use Rattle.pointers.specs.Question.{question, asked}
use Rattle.records.specs.List.{list_at, entry_address, entry}
use Rattle.records.specs.Search.{all_from, first_readable}
use Rattle.records.specs.Row.{row_at}
use Rattle.walks.specs.Handed.{unless_refused, hands, count_by}
use Rattle.walks.specs.Walk.{walk_of, ReachedRow, rows_finished, RowLeft, entry_answer, next_of}
use Rattle.records.specs.declared.list.Layout.{Layout}
use Rattle.records.specs.declared.list.ListKind.{ListKind}
use Rattle.records.specs.declared.row.Row.{Row}
use Rattle.walks.specs.declared.list_walk.ListWalk.{ListWalk}
use Rattle.reads.specs.declared.answer.Question.TheVariants.{WalkState}
use Rattle.reads.specs.declared.answer.Question.{Question}

-- An answer, with the position after it.
pub record Told : Type 0 where
  pub answer : Outcome ReachedRow
  pub position : ℕ

abbrev pub told : Outcome ReachedRow → ℕ → Told
told answer position = record { answer = answer; position = position }

-- The count of a list, 0 for an absent one (question WalkState).
abbrev pub count_of : Outcome Layout → ℕ
count_of list = count_by (λ h. h.count) list

-- Whether a lookup refuses: its number.
abbrev pub refused_by : {A : Type 0} → Outcome A → Outcome (Unit {0})
refused_by o = unless_refused o refused (value tt)

-- Whether a lookup of the row refuses that a step over a list reaches from position p; where it reaches none, or the list is absent, there
-- is none.
abbrev pub row_refusal : Tables → Layout → Option ℕ → Outcome (Unit {0})
row_refusal t h (Some j) = refused_by (row_at t h.kind (entry_address h j))
row_refusal t h None = value tt

abbrev pub refusal_from : Tables → Outcome Layout → ℕ → Outcome (Unit {0})
refusal_from t (value h) p = row_refusal t h (first_readable (image_in t) h p)
refusal_from t (absent r) p = value tt
refusal_from t (refused k) p = refused k

-- The first question that refuses a step which is lent t and stands at p: 1 to 6 and 8; 10, by the count of the lent list; 9, while the row
-- that it reaches is decoded.
unfoldable pub refusal : Tables → ListKind → ℕ → ℕ → Outcome (Unit {0})
refusal t k list p =
    and_then (asked t) (λ _.
    and_then (question WalkState (leb p (count_of (list_at t k list)))) (λ _.
    refusal_from t (list_at t k list) p))

-- Entry j is settled: its row, or skipped with its index and reason; the position is one past it.
abbrev pub settling : ℕ → Outcome Row → Told
settling j row = told (entry_answer j row) (suc j)

-- With the readable entries that are left: the first of them is settled, or with none left the walk stands at the count and is finished.
abbrev pub go_on : Tables → Layout → List ℕ → Told
go_on t h [] = told (value rows_finished) h.count
go_on t h (j ∷ js) = settling j (row_at t h.kind (entry_address h j))

-- The readable entries from position p on, of those below the count.
abbrev pub left_from : Tables → Layout → ℕ → List ℕ
left_from t h p = all_from (entry (image_in t) h) (h.count - p) p

-- A step that no question refuses, over the opened tables.
abbrev pub plain_over : Tables → ℕ → Outcome Layout → Told
plain_over t p (value h) = go_on t h (left_from t h p)
plain_over t p (absent r) = told (absent r) p
plain_over t p (refused k) = told (refused k) p

-- A step of the plain walk: a refused one gives the number and stays.
unfoldable pub plain_step : Tables → ListKind → ℕ → Tables → ℕ → Told
plain_step opened k list lent p =
    unless_refused (refusal (under opened.setting lent) k list p) (λ q. told (refused q) p) (plain_over opened p (list_at opened k list))

-- The plain walk over a list of loans.
unfoldable pub plain_walk : Tables → ListKind → ℕ → List Tables → ℕ → List Told
plain_walk opened k list [] p = []
plain_walk opened k list (lent ∷ loans) p =
    plain_step opened k list lent p ∷ plain_walk opened k list loans (plain_step opened k list lent p).position

-- The steps of the library over the same loans, each given the walk that the last handed back.
unfoldable pub steps : List Tables → ListWalk → List RowLeft
steps [] w = []
steps (lent ∷ loans) w = next_of lent w ∷ steps loans (next_of lent w).walk

-- What the plain walk tells, as the library hands it back.
abbrev pub shown : Setting → ListKind → ℕ → Told → RowLeft
shown s k list a = hands a.answer (walk_of s list k a.position)

abbrev pub shown_all : Setting → ListKind → ℕ → List Told → List RowLeft
shown_all s k list [] = []
shown_all s k list (a ∷ more) = shown s k list a ∷ shown_all s k list more

-- What is lent step by step, under the setting of the opened tables: these, or tables that a question refuses where the walk stands.
pub data Loans (opened : Tables) (k : ListKind) (list : ℕ) : List Tables → ℕ → Type 0 where
  loans_end : {p : ℕ} → Loans opened k list [] p
  loan_opened : {lent : Tables} {loans : List Tables} {p : ℕ}
      → under opened.setting lent ≡ opened → Loans opened k list loans (plain_step opened k list opened p).position → Loans opened k list (lent ∷ loans) p
  loan_refused : {lent : Tables} {loans : List Tables} {p : ℕ} (q : Question)
      → refusal (under opened.setting lent) k list p ≡ refused q → Loans opened k list loans p → Loans opened k list (lent ∷ loans) p

-- The entries handed out one by one: a step that is not refused takes the first that is left and settles it; with none left it is finished
-- at the count. The answer, and what is left after it.
abbrev pub hand_out : Tables → Layout → List ℕ → Told × List ℕ
hand_out t h [] = (told (value rows_finished) h.count, [])
hand_out t h (e ∷ es) = (settling e (row_at t h.kind (entry_address h e)), es)

abbrev pub hand_step : Tables → Layout → Outcome (Unit {0}) → List ℕ → ℕ → Told × List ℕ
hand_step t h refusing es p = unless_refused refusing (λ q. (told (refused q) p, es)) (hand_out t h es)

unfoldable pub handed_out : Tables → ListKind → ℕ → Layout → List Tables → List ℕ → ℕ → List Told
handed_out t k list h [] es p = []
handed_out t k list h (lent ∷ loans) es p =
    let step = hand_step t h (refusal (under t.setting lent) k list p) es p in
    step.0 ∷ handed_out t k list h loans step.1 step.0.position
