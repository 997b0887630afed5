-- Laws of the questions: what the code's tests come to, and tests of every row.
use Prim.Native.Nat.{ℕ, zero, suc, ◌+◌, ◌*◌, ◌/◌, ◌%◌, ◌≤◌, ◌<◌}
use mathlib.Core.Path.{◌≡◌, refl}
use mathlib.Core.Bool.{Bool, true, false, and-false}
use mathlib.Core.List.{List}
use mathlib.Core.Logic.{⊎_elim}
use native.Mathlib.Omega.{arith}
use native.Mathlib.Nat.{eq-or-lt_of_le, le_of_suc-le-suc}
use native.Mathlib.Numerals.{add-one}
use lib.Dec.{leb, eqb}
use lib.ListN.{length}
use borrow.Author.Tests.{lt-leb, leb-true, eq-eqb, ne_eqb, eqb-true}
use Rattle.reads.specs.Outcome.{Outcome, value, refused, and_then, choose}
use Rattle.reads.specs.Table.{records}
use Rattle.reads.proofs.Tests.{both_true}
use Rattle.reads.proofs.Outcomes.{on_value, on_number}
use Rattle.pointers.specs.Tables.{Tables, tables_of, under, section_words, chains, section_table_words}
use Rattle.pointers.specs.Question.{question, whole_rows, section_fits, every, section_row_fits, section_table, index_fits, asked_tables, asked_index, asked_lent}
use Rattle.pointers.specs.declared.setting.Setting.{Setting}
use Rattle.std.specs.Prelude.{Result, Ok, Err}
use Rattle.reads.specs.Answer.{answered}
use Rattle.reads.specs.declared.answer.Question.{Question}

-- A question that says yes goes on, and one that says no ends.
pub question_yes : (k : Question) (b : Bool) → b ≡ true → question k b ≡ value tt
unfolding question choose
question_yes k b e = rw e

pub question_no : (k : Question) (b : Bool) → b ≡ false → question k b ≡ refused k
unfolding question choose
question_no k b e = rw e

pub after_yes : {A : Type 0} (k : Question) (b : Bool) (f : Unit {0} → Outcome A) {y : Outcome A} → b ≡ true → y ≡ f tt → y ≡ and_then (question k b) f
after_yes k b f e g = rw (question_yes k b e) g

pub after_no : {A : Type 0} (k : Question) (b : Bool) (f : Unit {0} → Outcome A) → b ≡ false → refused k ≡ and_then (question k b) f
after_no k b f e = rw (question_no k b e)

pub question_came : (k : Question) (b : Bool) (u : Unit {0}) → question k b ≡ value u → b ≡ true
unfolding question choose
question_came k true u e = refl
question_came k false u e = let z : ◌≡◌ {A = ℕ} 0 1 = cc in absurd (omega arith)

-- The answer of the code, matched: a yes goes on, a number ends.
module _ {B : Type 0} where
  pub asked_on : (w : Result (Unit {0}) Question) (x : Outcome (Unit {0})) (f : Unit {0} → Outcome B) (y : Outcome B) → answered w ≡ x → w ≡ (Ok tt) → y ≡ f tt → y ≡ and_then x f
  asked_on w x f y e g h = on_value answered f e g refl h

  pub asked_ends : (w : Result (Unit {0}) Question) (x : Outcome (Unit {0})) (f : Unit {0} → Outcome B) (k : Question) → answered w ≡ x → w ≡ Err k → refused k ≡ and_then x f
  asked_ends w x f k e g = on_number answered f e g refl

-- The questions 1 to 6 ask nothing of the index, and none asks of the setting.
pub asked_any_index : (files : List (List ℕ)) (segments sections info rebases binds one other : List ℕ)
    → asked_tables (tables_of files segments sections info rebases binds one) ≡ asked_tables (tables_of files segments sections info rebases binds other)
unfolding asked_tables
asked_any_index files segments sections info rebases binds one other = refl

pub asked_set : (s : Setting) (t : Tables) → asked_lent (under s t) ≡ asked_lent t
unfolding asked_lent asked_tables asked_index
asked_set s t = refl

-- Questions in order, and the code's answer to those before.
pub ruleset in_order = (question_yes, question_no, after_yes, after_no, asked_on, asked_ends)

module _ (width most n : ℕ) where
  pub rows_whole : n % width ≡ 0 → leb (n / width) most ≡ whole_rows width most n
  unfolding whole_rows
  rows_whole h = simp (eq-eqb (n % width) 0 h)

  pub rows_most : whole_rows width most n ≡ true → n / width ≤ most
  unfolding whole_rows
  rows_most e = leb-true (n / width) most (both_true (eqb (n % width) 0) (leb (n / width) most) e).1

module _ (n present len : ℕ) where
  pub section_by : (present ≡ 0 → ⊥) → present ≡ 1 → leb len n ≡ section_fits n present len
  unfolding section_fits
  section_by g h = simp (ne_eqb present 0 g, eq-eqb present 1 h)

-- Every row below a count.
module _ (test : ℕ → Bool) where
  pub every_more : (i : ℕ) → every test i ≡ true → test i ≡ true → every test (i + 1) ≡ true
  unfolding every
  every_more i e h = simp (add-one, e, h)

  -- One that fails fails all.
  pub every_fails : (n i : ℕ) → i < n → test i ≡ false → false ≡ every test n
  unfolding every
  every_fails zero i h e = absurd (omega arith)
  every_fails (suc n) i h e =
      ⊎_elim
      (λ same. rw (← same, e, and-false))
      (λ less. rw (← every_fails n i less e))
      (eq-or-lt_of_le (le_of_suc-le-suc h))

  -- Where all pass, each does.
  pub every_at : (n : ℕ) → every test n ≡ true → (i : ℕ) → i < n → test i ≡ true
  unfolding every
  every_at zero e i h = absurd (omega arith)
  every_at (suc n) e i h =
      let both = both_true (every test n) (test n) e in
      ⊎_elim
      (λ same. rw same both.1)
      (λ less. every_at n both.0 i less)
      (eq-or-lt_of_le (le_of_suc-le-suc h))

-- Each row of a section table that passes question SectionTable fits.
pub section_row : (n : ℕ) (ws : List ℕ) → section_table n ws ≡ true → (i : ℕ) → i < 5 → section_row_fits n ws i ≡ true
unfolding section_table
section_row n ws e i h =
    let both = both_true (eqb (length ws) section_table_words) (every (section_row_fits n ws) (records section_words ws)) e in
    every_at (section_row_fits n ws) (records section_words ws) both.1 i (omega (arith, eqb-true (length ws) section_table_words both.0))

module _ (rebases binds words : ℕ) where
  pub index_short : words < 2 * chains + rebases + binds → false ≡ index_fits rebases binds words
  unfolding index_fits
  index_short h = simp (lt-leb (2 * chains + rebases + binds) words h)

  pub index_room : index_fits rebases binds words ≡ true → 2 * chains + rebases + binds ≤ words
  unfolding index_fits
  index_room e = leb-true (2 * chains + rebases + binds) words e
