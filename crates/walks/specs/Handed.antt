-- What a step hands back, and the questions before it (document 01, "The questions, in order" and Steps).
use Rattle.std.specs.Prelude.{ℕ, zero, suc, List, [], ◌∷◌, leb, Result, Ok, Err}
use Rattle.reads.specs.Answer.{missed}
use Rattle.reads.specs.declared.answer.Missing.{Missing}
use Rattle.walks.specs.declared.stepped.Stepped.{Stepped}
use Rattle.reads.specs.Outcome.{Outcome, value, absent, refused}
use Rattle.pointers.specs.Question.{question}
use Rattle.reads.specs.declared.answer.Question.TheVariants.{WalkState}
use Rattle.reads.specs.declared.answer.Question.{Question}

-- A step that a question refuses gives its number; any other goes on.
abbrev pub unless_refused : {A B : Type 0} → Outcome A → (Question → B) → B → B
unless_refused (value a) refusing on = on
unless_refused (absent r) refusing on = on
unless_refused (refused k) refusing on = refusing k

-- An answer, with the walk that the step hands back.
pub record Handed (A W : Type 0) : Type 0 where
  pub answer : Outcome A
  pub walk : W

abbrev pub hands : {A W : Type 0} → Outcome A → W → Handed A W
hands answer w = record { answer = answer; walk = w }

-- With a number the walk comes back as given.
abbrev pub hands_back : {A W : Type 0} → W → Question → Handed A W
hands_back w k = hands (refused k) w

-- A step over a list, if there is one: with a number or absent the walk comes back as given.
abbrev pub over_list : {L A W : Type 0} → W → (L → Handed A W) → Outcome L → Handed A W
over_list w step (value l) = step l
over_list w step (absent r) = hands (absent r) w
over_list w step (refused k) = hands_back w k

-- The count of a list, 0 for an absent one. The last clause is never met: a list is looked up by reads alone, and these give no number,
-- whatever the tables (list_unrefused in records/proofs/Headers.antt, protocol_list_unrefused in proofs/ProtocolNameWalks.antt).
abbrev pub count_by : {L : Type 0} → (L → ℕ) → Outcome L → ℕ
count_by count (value l) = count l
count_by count (absent r) = 0
count_by count (refused k) = 0

-- Question 10: is the cursor at most the list's count?
unfoldable pub from_cursor : {L A W : Type 0} → W → ℕ → (L → ℕ) → (L → Handed A W) → Outcome L → Handed A W
from_cursor w cursor count step list =
    unless_refused (question WalkState (leb cursor (count_by count list))) (hands_back w) (over_list w step list)

-- The answers of n steps, each given the walk that the last handed back.
unfoldable pub answers_of : {A W : Type 0} → (W → Handed A W) → ℕ → W → List (Outcome A)
answers_of step zero w = []
answers_of step (suc n) w = (step w).answer ∷ answers_of step n (step w).walk

-- Document 01's meaning of the code's answers to a step over a list, by the meaning of each case of a step; and the walk as given beside an
-- absence or refusal.
abbrev pub step_answer : {S A : Type 0} → (S → A) → Result S Missing → Outcome A
step_answer meaning (Ok s) = value (meaning s)
step_answer meaning (Err m) = missed m

abbrev pub stepped : {S A W : Type 0} → (S → A) → Stepped S W → Handed A W
stepped meaning r = hands (step_answer meaning r.walked) r.walk

abbrev pub kept : {S W : Type 0} → W → Missing → Stepped S W
kept w m = record { walked = Err m; walk = w }
