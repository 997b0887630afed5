-- Laws of a step over a list, by the tests and the answers that the code goes by; and what the search finds.
use Prim.Native.Nat.{ℕ, ◌^◌, ◌≤◌, ◌<◌}
use mathlib.Core.Path.{◌≡◌, refl, sym, ap, ◌∙◌}
use lib.Dec.{ltb}
use borrow.Author.Tests.{le-leb, lt-leb, ltb-true}
use Rattle.reads.specs.Answer.{missed}
use Rattle.reads.specs.Outcome.{Outcome, value}
use Rattle.reads.specs.Place.{Image}
use Rattle.reads.specs.declared.answer.Missing.{Missing}
use Rattle.reads.specs.declared.answer.Missing.TheVariants.{Absent, Refused}
use Rattle.reads.proofs.Tests.{both_true}
use Rattle.pointers.proofs.Questions.{question_yes, question_no}
use Rattle.records.specs.List.{entry_address, entry}
use Rattle.records.specs.Search.{first_readable}
use Rattle.records.specs.declared.list.Layout.{Layout}
use Rattle.records.proofs.Readables.{found}
use Rattle.walks.specs.Handed.{unless_refused, Handed, hands, hands_back, over_list, count_by, from_cursor}
use Rattle.std.specs.Prelude.{Some}
use Rattle.reads.specs.declared.answer.Question.TheVariants.{WalkState}

-- The address of what the search finds fits.
pub found_fits : (m : Image) (h : Layout) (i j : ℕ) → first_readable m h i ≡ Some j → entry_address h j < 2 ^ 64
unfolding entry
found_fits m h i j e = ltb-true (entry_address h j) (2 ^ 64) (both_true (ltb (entry_address h j) (2 ^ 64)) _ (found m h i j e).passes).0

-- An answer of the code that is matched: its outcome.
pub outcome_told : {R A : Type 0} (out : R → A) {r v : R} {x : A} → out r ≡ x → r ≡ v → x ≡ out v
outcome_told out e g = sym e ∙ ap out g

-- The questions before a step.
module _ {A W : Type 0} (w : W) (y : Handed A W) {x : Handed A W} {o : Outcome (Unit {0})} where
  pub asked_on : o ≡ value tt → x ≡ y → x ≡ unless_refused o (hands_back w) y
  asked_on e h = rw e h

-- A missing list has count 0, and a step over it hands the walk back.
count_missing : {L : Type 0} (count : L → ℕ) (m : Missing) → count_by count (missed m) ≡ 0
count_missing count (Absent r) = refl
count_missing count (Refused k) = refl

over_missing : {L A W : Type 0} (w : W) (step : L → Handed A W) (m : Missing) → over_list w step (missed m) ≡ hands (missed m) w
over_missing w step (Absent r) = refl
over_missing w step (Refused k) = refl

-- Question 10, of a list that is there and of one that is missing.
module _ {L A W : Type 0} (w : W) (cursor : ℕ) (count : L → ℕ) (step : L → Handed A W) {x : Handed A W} {o : Outcome L} where
  module _ (l : L) (e : o ≡ value l) where
    pub list_past : count l < cursor → x ≡ hands_back w WalkState → x ≡ from_cursor w cursor count step o
    unfolding from_cursor
    list_past h g = rw (e, question_no WalkState _ (lt-leb cursor (count l) h)) g

    pub list_on : cursor ≤ count l → x ≡ step l → x ≡ from_cursor w cursor count step o
    unfolding from_cursor
    list_on h g = rw (e, question_yes WalkState _ (le-leb cursor (count l) h)) g

  module _ (m : Missing) (e : o ≡ missed m) where
    pub missing_past : 0 < cursor → x ≡ hands_back w WalkState → x ≡ from_cursor w cursor count step o
    unfolding from_cursor
    missing_past h g = rw (e, count_missing count m, question_no WalkState _ (lt-leb cursor 0 h)) g

    pub missing_on : cursor ≤ 0 → x ≡ hands (missed m) w → x ≡ from_cursor w cursor count step o
    unfolding from_cursor
    missing_on h g = rw (e, count_missing count m, question_yes WalkState _ (le-leb cursor 0 h), over_missing w step m) g
