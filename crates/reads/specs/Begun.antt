-- What is left of a text that is begun: its first byte was read, and the pass over the bytes from there on finds the rest.
use Rattle.std.specs.Prelude.{ℕ, Result, Ok, Err}
use Rattle.reads.specs.Outcome.{Outcome}
use Rattle.reads.specs.Answer.{missed}
use Rattle.reads.specs.Text.{scan_of, text_of_scan}
use Rattle.reads.specs.declared.answer.Missing.{Missing}
use Rattle.reads.specs.declared.text.Begun.{Begun}
use Rattle.reads.specs.declared.text.Reading.{Reading}
use Rattle.reads.specs.declared.text.Text.{Text}

-- The text, or why it is missing.
abbrev pub text_begun : Reading → Result Begun Missing → Outcome Text
text_begun r (Ok t) = text_of_scan r t.place (scan_of t.bytes.now)
text_begun r (Err m) = missed m

-- How many bytes are read for it in all.
abbrev pub read_begun : Result Begun Missing → ℕ
read_begun (Ok t) = (scan_of t.bytes.now).read
read_begun (Err m) = 0
