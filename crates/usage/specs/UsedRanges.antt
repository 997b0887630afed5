-- The ranges that a listing uses, written into a lent buffer: what a pass uses, merged. With the number of a question that refuses, of the tables
-- or of a read on the way, nothing is written.
use Rattle.std.specs.Prelude.{ℕ, List}
use Rattle.reads.specs.Outcome.{and_then, refused}
use Rattle.pointers.specs.Question.{asked}
use Rattle.pointers.specs.Tables.{Tables}
use Rattle.records.specs.Decode.{run}
use Rattle.walks.specs.Handed.{unless_refused}
use Rattle.ranges.specs.Range.{Range}
use Rattle.ranges.specs.Written.{Settled, result, merged_into}
use Rattle.used.specs.Used.{used, file_lengths}
use Rattle.usage.specs.Pass.{decode_pass}

abbrev pub pass_uses : Tables → List Range
pass_uses t = used t (decode_pass t.sections)

unfoldable pub used_into : Tables → List ℕ → Settled
used_into t out =
    unless_refused (and_then (asked t) (λ _. run t (decode_pass t.sections))) (λ k. result (refused k) out)
    (merged_into (file_lengths t.files) (pass_uses t) out)
