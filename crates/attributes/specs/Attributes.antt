-- The attribute string of a property (document 01, Attributes; property.rs, parse_attributes): items, each a key byte and a
-- value, that commas outside double quotes end.
use Rattle.std.specs.Prelude.{ℕ, zero, suc, ◌+◌, ◌*◌, ◌%◌, Bool, ◌&&◌, List, [], ◌∷◌, ◌++◌, leb, ltb, eqb, length, get_or, take, drop, Option, None, Some, Ok, Err, ◌≡◌}
use Rattle.reads.specs.Outcome.{Outcome, value, absent, and_then, choose}
use Rattle.reads.specs.Utf8.{Verdict, verdict}
use Rattle.reads.specs.declared.answer.Reason.TheVariants.{NotUtf8}
use Rattle.pointers.specs.Open.{left_by}
use Rattle.pointers.specs.Question.{question}
use Rattle.attributes.specs.declared.items.Attributes.{Attributes}
use Rattle.attributes.specs.declared.items.Item.{Item}
use Rattle.attributes.specs.declared.items.Value.{Value}
use Rattle.reads.specs.declared.answer.Question.TheVariants.{ItemRoom}

-- Document 01's outcome of each case of the code's answer.
-- How many of the bytes are double quotes.
unfoldable pub quotes : List ℕ → ℕ
quotes [] = 0
quotes (b ∷ s) = choose (eqb b 0x22) 1 0 + quotes s

-- A comma at p of s, which follows a key byte, stands outside double quotes: there is an even number of them before it in s.
unfoldable pub splits : List ℕ → ℕ → Bool
splits s p = eqb (get_or s p 0) 0x2C && eqb (quotes (take p s) % 2) 0

-- The first of the n numbers from i on that passes a test, i + n if none does.
unfoldable pub first : (ℕ → Bool) → ℕ → ℕ → ℕ
first test zero i = i
first test (suc n) i = choose (test i) i (first test n (suc i))

-- The length of the value in front of s: up to the first comma outside double quotes, or all of s.
unfoldable pub value_length : List ℕ → ℕ
value_length s = first (splits s) (length s) 0

abbrev pub value_of : ℕ → ℕ → Value
value_of start len = record { start = start; len = len }

-- The item of a key byte whose value starts at `start` and takes n bytes. A key byte of 0x80 or more begins a character of
-- several bytes: the value would start inside it, and its length is 0.
unfoldable pub item_of : ℕ → ℕ → ℕ → Item
item_of key start n = record { key = key; value = value_of start (choose (ltb key 0x80) n 0) }

-- The items of s, which stands at `at` in the text, at most n of them: a key byte, its value, a comma, and so on.
unfoldable pub items_from : ℕ → ℕ → List ℕ → List Item
items_from zero at s = []
items_from (suc n) at [] = []
items_from (suc n) at (key ∷ s) =
    item_of key (at + 1) (value_length s) ∷ items_from n (at + 1 + value_length s + 1) (drop (value_length s + 1) s)

-- The items of a text. Each takes a byte at least, so there are no more of them than bytes; proofs/AttributeItems.antt shows
-- that no greater number gives more.
unfoldable pub items : List ℕ → List Item
items text = items_from (length text) 0 text

-- A T value that is not empty.
unfoldable pub is_type : Item → Bool
is_type i = eqb i.key 0x54 && ltb 0 i.value.len

-- The type: the first of these, if there is one.
unfoldable pub type_among : List Item → Option Value
type_among [] = None
type_among (i ∷ is) = choose (is_type i) (Some i.value) (type_among is)

-- How many items a text has, and its type.
unfoldable pub attributes : List ℕ → Attributes
attributes text = record { count = length (items text); type_encoding = type_among (items text) }

-- 12: do the items, three words each, fit a buffer of `room` words?
unfoldable pub items_fit : ℕ → ℕ → Bool
items_fit count room = leb (3 * count) room

abbrev pub if_utf8 : {A : Type 0} → Verdict → Outcome A → Outcome A
if_utf8 (Ok u) o = o
if_utf8 (Err k) o = absent (NotUtf8 k)

-- What comes back where items of a text are handed out into a buffer of `room` words: absent unless UTF-8, then question ItemRoom.
unfoldable pub handed_out : {A : Type 0} → List ℕ → List Item → ℕ → A → Outcome A
handed_out text is room a = if_utf8 (verdict text) (and_then (question ItemRoom (items_fit (length is) room)) (λ _. value a))

-- What parse_attributes gives, of a text and the words of the lent buffer.
unfoldable pub attributes_of : List ℕ → ℕ → Outcome Attributes
attributes_of text room = handed_out text (items text) room (attributes text)

-- The words of items: key, value start, length.
unfoldable pub words : List Item → List ℕ
words [] = []
words (i ∷ is) = i.key ∷ i.value.start ∷ i.value.len ∷ words is

-- A buffer with the words of items in front, and behind them as it was.
unfoldable pub filled : List Item → List ℕ → List ℕ
filled is buffer = words is ++ drop (3 * length is) buffer

-- `o` comes back and the buffer holds `now`, where `is` are handed out with `a`.
abbrev pub Handed : {A : Type 0} → List ℕ → List ℕ → List Item → A → Outcome A → List ℕ → Type 0
Handed text buffer is a o now =
    (o ≡ handed_out text is (length buffer) a) × (now ≡ left_by (handed_out text is (length buffer) a) (filled is buffer) buffer)

-- What the lent buffer holds afterwards: the items, or with absent or a number what it held.
unfoldable pub items_left : List ℕ → List ℕ → List ℕ
items_left text buffer = left_by (attributes_of text (length buffer)) (filled (items text) buffer) buffer
