-- What a lookup gives, and a question at each slot: no answer refuses, or the first question that does.
use Rattle.std.specs.Prelude.{ℕ, ◌<◌, ◌≡◌, List, [], ◌∷◌, length, get_or, Result}
use Rattle.reads.specs.Outcome.{Outcome, value, and_then}
use Rattle.reads.specs.Answer.{answered}
use Rattle.reads.specs.declared.answer.Question.{Question}

unfoldable pub each_settled : (ℕ → Outcome (Unit {0})) → List ℕ → Outcome (Unit {0})
each_settled s [] = value tt
each_settled s (a ∷ slots) = and_then (s a) (λ _. each_settled s slots)

-- The answer at slot k is what s says of the address in it.
abbrev pub AnswersAt : (ℕ → Result (Unit {0}) Question → Type 0) → (ℕ → Outcome (Unit {0})) → List ℕ → Type 0
AnswersAt answers s slots = (k : ℕ) (r : Result (Unit {0}) Question) → k < length slots → answers k r → answered r ≡ s (get_or slots k 0)
