-- Ranges written into a lent buffer (document 02, note 13), or 24 where it is too short.
use Rattle.std.specs.Prelude.{ℕ, ◌*◌, List, ◌++◌, leb, length, drop, Result}
use Rattle.reads.specs.Answer.{answered}
use Rattle.reads.specs.Outcome.{Outcome, value, refused, choose}
use Rattle.ranges.specs.Range.{Range, range_words}
use Rattle.ranges.specs.Runs.{merged}
use Rattle.reads.specs.declared.answer.Question.{Question}
use Rattle.reads.specs.declared.answer.Question.TheVariants.{RangeRoom}

-- The answer, and the buffer as it is left.
pub record Settled : Type 0 where
  pub answer : Outcome ℕ
  pub words : List ℕ

abbrev pub result : Outcome ℕ → List ℕ → Settled
result answer words = record { answer = answer; words = words }

abbrev pub result_of : Result ℕ Question → List ℕ → Settled
result_of r words = result (answered r) words

-- A number of ranges, three words each, or 24 where a buffer has no room for them.
unfoldable pub room_for : ℕ → List ℕ → Outcome ℕ
room_for n out = choose (leb (n * 3) (length out)) (value n) (refused RangeRoom)

-- Ranges written at the front of the buffer; with 24 nothing is written.
unfoldable pub written : List Range → List ℕ → Settled
written rs out =
    choose (leb (length rs * 3) (length out))
    (result (value (length rs)) (range_words rs ++ drop (length rs * 3) out))
    (result (refused RangeRoom) out)

unfoldable pub merged_into : List ℕ → List Range → List ℕ → Settled
merged_into lengths rs out = written (merged lengths rs) out
