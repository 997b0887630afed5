-- The property that an attribute string declares (note 1; Apple, "Declared Properties"): the first value of each letter of
-- Apple's list, and the items of all other letters, in order.
use Rattle.std.specs.Prelude.{ℕ, Bool, false, ◌&&◌, ◌||◌, List, [], ◌∷◌, leb, eqb, length, Option, Some, None}
use Prim.Native.Char.{code}
use Rattle.reads.specs.Outcome.{Outcome, choose}
use Rattle.pointers.specs.Open.{left_by}
use Rattle.pointers.specs.Symbol.{ascii}
use Rattle.attributes.specs.Attributes.{items, handed_out, filled}
use Rattle.attributes.specs.declared.items.Item.{Item}
use Rattle.attributes.specs.declared.property.Declared.{Declared}
use Rattle.attributes.specs.declared.items.Value.{Value}

-- Document 01's outcome of each case of the code's answer.
-- Apple's letters.
abbrev pub letters : List ℕ
letters = ascii "TRC&NDWPGStV"

-- A byte is one of these.
unfoldable pub among : List ℕ → ℕ → Bool
among [] b = false
among (l ∷ ls) b = eqb l b || among ls b

-- The items of all other letters.
unfoldable pub unknowns : List Item → List Item
unknowns [] = []
unknowns (i ∷ is) = choose (among letters i.key) (unknowns is) (i ∷ unknowns is)

-- The first value of a letter that has `least` bytes or more.
unfoldable pub first_value : ℕ → ℕ → List Item → Option Value
first_value letter least [] = None
first_value letter least (i ∷ is) =
    choose (eqb i.key letter && leb least i.value.len) (Some i.value) (first_value letter least is)

-- The first value of each letter, of any length, and how many items have other letters.
unfoldable pub declared : List ℕ → Declared
declared text =
    record {
      type_encoding = first_value (code "T") 0 (items text);
      readonly = first_value (code "R") 0 (items text);
      copy = first_value (code "C") 0 (items text);
      retain = first_value (code "&") 0 (items text);
      nonatomic = first_value (code "N") 0 (items text);
      dynamic = first_value (code "D") 0 (items text);
      weak = first_value (code "W") 0 (items text);
      collectable = first_value (code "P") 0 (items text);
      getter = first_value (code "G") 0 (items text);
      setter = first_value (code "S") 0 (items text);
      old_type_encoding = first_value (code "t") 0 (items text);
      variable = first_value (code "V") 0 (items text);
      unknown_count = length (unknowns (items text));
    }

-- What decode_attributes gives, of a text and the words of the lent buffer, which takes the items of unknown letters.
unfoldable pub declared_of : List ℕ → ℕ → Outcome Declared
declared_of text room = handed_out text (unknowns (items text)) room (declared text)

-- What the lent buffer holds afterwards: these items, or with absent or a number what it held.
unfoldable pub unknown_left : List ℕ → List ℕ → List ℕ
unknown_left text buffer = left_by (declared_of text (length buffer)) (filled (unknowns (items text)) buffer) buffer
