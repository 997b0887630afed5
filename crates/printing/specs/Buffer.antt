-- A lent buffer that takes a part of a text, and numbers as text.
use Rattle.std.specs.Prelude.{◌≡◌, ℕ, zero, suc, ◌+◌, ◌-◌, ◌/◌, min, List, ltb, length, drop}
use Rattle.std.proofs.Math.Seq.{paste}
use Rattle.io.specs.Digits.{last_digits}
use Rattle.reads.specs.Outcome.{choose}
use Rattle.printing.specs.declared.buffer.Out.{Out}

-- The buffer's bytes, how many bytes of the text to come are passed over, and how many bytes of the buffer are taken.
pub record Buffer : Type 0 where
  pub bytes : List ℕ
  pub skip : ℕ
  pub at : ℕ

abbrev pub held : List ℕ → ℕ → ℕ → Buffer
held bytes skip at = record { bytes = bytes; skip = skip; at = at }

abbrev pub buffer : Out → Buffer
buffer o = held o.to.now o.skip o.at

-- How many bytes of a text go in: those after the ones that are passed over, as far as there is room.
abbrev pub fitting : Buffer → List ℕ → ℕ
fitting s text = min (length s.bytes - s.at) (length text - s.skip)

-- The buffer then: they stand after those that were taken before.
unfoldable pub put_all : Buffer → List ℕ → Buffer
put_all s text =
    held
    (paste s.bytes s.at (drop s.skip text) (fitting s text))
    (s.skip - length text)
    (s.at + fitting s text)

-- What is done to a lent buffer that takes a text: it is the same buffer.
pub record Puts (o : Out) (text : List ℕ) (p : Out) : Type 0 where
  pub same : p.to.ghost_name ≡ o.to.ghost_name
  pub put : buffer p ≡ put_all (buffer o) text

-- The digits that a number takes in base b, at least one; k bounds those after the first.
unfoldable pub places : ℕ → ℕ → ℕ → ℕ
places b zero n = 1
places b (suc k) n = choose (ltb n b) 1 (suc (places b k (n / b)))

-- A number in lower-case hex, of one word or two.
unfoldable pub hex_text : ℕ → List ℕ
hex_text n = last_digits 16 (places 16 31 n) n

-- A word's sixteen digits.
unfoldable pub hex_word : ℕ → List ℕ
hex_word n = last_digits 16 16 n

-- A number in decimal.
unfoldable pub decimal_text : ℕ → List ℕ
decimal_text n = last_digits 10 (places 10 19 n) n
