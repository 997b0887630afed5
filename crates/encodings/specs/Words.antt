-- What `type_words` gives and leaves (note 5), by what the machine reads.
use Rattle.std.specs.Prelude.{ℕ, ◌*◌, Bool, List, leb, length}
use Rattle.reads.specs.Outcome.{Outcome, value, absent, refused, and_then}
use Rattle.pointers.specs.Open.{left_by}
use Rattle.pointers.specs.Question.{question}
use Rattle.encodings.specs.Grammar.{Types, count, filled}
use Rattle.encodings.specs.Machine.{parse}
use Rattle.reads.specs.declared.answer.Question.TheVariants.{ItemRoom}

-- Document 01's outcome of each case of the code's answer.
-- 12: do the words of so many types, four each, fit a buffer of `room` words?
unfoldable pub words_fit : ℕ → ℕ → Bool
words_fit count room = leb (4 * count) room

-- How many types there are: absent or 17, whichever the first byte that decides gives, then question ItemRoom.
abbrev pub count_fitting : Outcome Types → ℕ → Outcome ℕ
count_fitting o room = and_then o (λ ts. and_then (question ItemRoom (words_fit (count ts) room)) (λ _. value (count ts)))

-- What type_words gives, of a text and the words of the lent buffer: the text is read with at most 32 levels.
unfoldable pub types_of : List ℕ → ℕ → Outcome ℕ
types_of text room = count_fitting (parse 32 text) room

-- A buffer with the words of what was read in front.
abbrev pub filled_by : Outcome Types → List ℕ → List ℕ
filled_by (value ts) buffer = filled ts buffer
filled_by (absent r) buffer = buffer
filled_by (refused k) buffer = buffer

-- What the lent buffer holds afterwards: the words of each type, or with absent or a number what it held.
unfoldable pub types_left : List ℕ → List ℕ → List ℕ
types_left text buffer = left_by (types_of text (length buffer)) (filled_by (parse 32 text) buffer) buffer
