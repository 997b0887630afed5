-- The text that a declared property is written out as (note 1). Values are taken as bytes.
use Rattle.std.specs.Prelude.{ℕ, zero, suc, ◌%◌, List, [], ◌∷◌, ◌++◌, map, leb, length, take, drop, Some, None, Option}
use Rattle.reads.specs.Outcome.{Outcome, value, and_then}
use Rattle.pointers.specs.Open.{left_by}
use Rattle.pointers.specs.Question.{question}
use Rattle.pointers.specs.Symbol.{ascii}
use Rattle.attributes.specs.Attributes.{items, value_of}
use Rattle.attributes.specs.Property.{unknowns, declared}
use Rattle.attributes.specs.declared.items.Item.{Item}
use Rattle.attributes.specs.declared.items.Value.{Value}
use Rattle.attributes.specs.declared.property.Declared.{Declared}
use Rattle.reads.specs.declared.answer.Question.TheVariants.{ItemRoom}

-- A letter and its value.
pub record Part : Type 0 where
  pub key : ℕ
  pub value : List ℕ

-- A declared property: what is given of T, the flags, G, S and t, the unknown letters, and what is given of V.
pub record Declaration : Type 0 where
  pub front : List (Option (List ℕ))
  pub unknown : List Part
  pub variable : Option (List ℕ)

-- The letters that are written before the unknown ones, and the one that is written behind them.
abbrev pub front_letters : List ℕ
front_letters = ascii "TRC&NDWPGSt"

abbrev pub back_letters : List ℕ
back_letters = ascii "V"

-- What is given of the front letters.
abbrev pub front_of : Declared → List (Option Value)
front_of d =
    d.type_encoding
    ∷ d.readonly
    ∷ d.copy
    ∷ d.retain
    ∷ d.nonatomic
    ∷ d.dynamic
    ∷ d.weak
    ∷ d.collectable
    ∷ d.getter
    ∷ d.setter
    ∷ d.old_type_encoding
    ∷ []

-- The bytes of a value: as many as the text has of them.
unfoldable pub bytes_of : List ℕ → Value → List ℕ
bytes_of text v = take v.len (drop v.start text)

abbrev pub bytes_given : List ℕ → Option Value → Option (List ℕ)
bytes_given text (Some v) = Some (bytes_of text v)
bytes_given text None = None

abbrev pub part_of : List ℕ → Item → Part
part_of text i = record { key = i.key; value = bytes_of text i.value }

-- The declared property d over a text, its unknown letters being these items.
unfoldable pub declaration_in : List ℕ → Declared → List Item → Declaration
declaration_in text d is =
    record { front = map (bytes_given text) (front_of d); unknown = map (part_of text) is; variable = bytes_given text d.variable }

-- The property that a text declares.
unfoldable pub declaration : List ℕ → Declaration
declaration text = declaration_in text (declared text) (unknowns (items text))

-- The letters that are given, with their values.
unfoldable pub given : List ℕ → List (Option (List ℕ)) → List Part
given [] vs = []
given (l ∷ ls) [] = []
given (l ∷ ls) (None ∷ vs) = given ls vs
given (l ∷ ls) (Some v ∷ vs) = record { key = l; value = v } ∷ given ls vs

-- T, the flags, G, S, t, the unknown letters, V.
unfoldable pub in_order : Declaration → List Part
in_order d = given front_letters d.front ++ (d.unknown ++ given back_letters (d.variable ∷ []))

-- Each with a comma before it.
unfoldable pub following : List Part → List ℕ
following [] = []
following (p ∷ ps) = 0x2C ∷ p.key ∷ (p.value ++ following ps)

-- With commas between them.
unfoldable pub joined : List Part → List ℕ
joined [] = []
joined (p ∷ ps) = p.key ∷ (p.value ++ following ps)

unfoldable pub written : Declaration → List ℕ
written d = joined (in_order d)

-- The items that rows of three words say: n of them, or as many as are there whole. A key is a byte.
unfoldable pub items_in : ℕ → List ℕ → List Item
items_in zero rows = []
items_in (suc n) [] = []
items_in (suc n) (key ∷ []) = []
items_in (suc n) (key ∷ start ∷ []) = []
items_in (suc n) (key ∷ start ∷ len ∷ rows) = record { key = key % 256; value = value_of start len } ∷ items_in n rows

-- The text of d, whose values stand in a text and whose unknown letters are the items of the rows.
unfoldable pub written_text : List ℕ → Declared → List ℕ → List ℕ
written_text text d rows = written (declaration_in text d (items_in d.unknown_count rows))

-- What write_attributes gives, of a buffer of `room` bytes: the length of the text, or 12 where it does not fit.
unfoldable pub written_of : List ℕ → Declared → List ℕ → ℕ → Outcome ℕ
written_of text d rows room =
    and_then (question ItemRoom (leb (length (written_text text d rows)) room)) (λ _. value (length (written_text text d rows)))

-- What the buffer holds afterwards: the text in front and behind it as it was, or with a number what it held.
unfoldable pub written_left : List ℕ → Declared → List ℕ → List ℕ → List ℕ
written_left text d rows out =
    left_by (written_of text d rows (length out)) (written_text text d rows ++ drop (length (written_text text d rows)) out) out
