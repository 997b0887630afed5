-- Worked cases of the attribute items, computed from the definitions.
use Prim.Native.Nat.{ℕ}
use mathlib.Core.Path.{◌≡◌, refl}
use mathlib.Core.List.{List, [], ◌∷◌}
use Rattle.reads.specs.Outcome.{Outcome, value, absent, refused, choose}
use Rattle.reads.specs.Utf8.{judge}
use Rattle.reads.specs.declared.answer.Reason.TheVariants.{NotUtf8}
use Rattle.pointers.specs.Question.{question}
use Rattle.pointers.specs.Symbol.{ascii}
use Rattle.std.specs.Prelude.{Option, None, Some}
use Rattle.attributes.specs.declared.items.Value.{Value}
use Rattle.attributes.specs.Attributes.{handed_out, quotes, splits, first, value_length, value_of, item_of, items_from, items, is_type, type_among, attributes, items_fit, attributes_of, words, filled, items_left}
use Rattle.attributes.specs.declared.items.Attributes.{Attributes}
use Rattle.reads.specs.declared.answer.Question.TheVariants.{ItemRoom}

abbrev told : List ℕ → List ℕ
told text = words (items text)

abbrev found : ℕ → Option Value → Outcome Attributes
found count type = value (record { count = count; type_encoding = type })

-- T with the value @"NSString", C, N, V with the value _name.
name_items : told (ascii "T@\"NSString\",C,N,V_name") ≡ 0x54 ∷ 1 ∷ 11 ∷ 0x43 ∷ 14 ∷ 0 ∷ 0x4E ∷ 16 ∷ 0 ∷ 0x56 ∷ 18 ∷ 5 ∷ []
unfolding words items items_from item_of value_length first splits quotes choose
name_items = refl

name_found : attributes_of (ascii "T@\"NSString\",C,N,V_name") 12 ≡ found 4 (Some (value_of 1 11))
unfolding attributes_of handed_out attributes type_among is_type items items_from item_of value_length first splits quotes items_fit question judge choose
name_found = refl

-- Four items want twelve words.
name_refused : attributes_of (ascii "T@\"NSString\",C,N,V_name") 11 ≡ refused ItemRoom
unfolding attributes_of handed_out items items_from item_of value_length first splits quotes items_fit question judge choose
name_refused = refl

-- The key is not tested: the second item has key `,` and value `R`.
comma_key : told (ascii "T,,R") ≡ 0x54 ∷ 1 ∷ 0 ∷ 0x2C ∷ 3 ∷ 1 ∷ []
unfolding words items items_from item_of value_length first splits quotes choose
comma_key = refl

comma_in_quotes : told (ascii "T@\"A,B\",N") ≡ 0x54 ∷ 1 ∷ 6 ∷ 0x4E ∷ 9 ∷ 0 ∷ []
unfolding words items items_from item_of value_length first splits quotes choose
comma_in_quotes = refl

-- A comma in a C++ type that is not quoted ends the value.
comma_in_template : told (ascii "T{pair<int,int>=ii},R") ≡ 0x54 ∷ 1 ∷ 9 ∷ 0x69 ∷ 12 ∷ 7 ∷ 0x52 ∷ 21 ∷ 0 ∷ []
unfolding words items items_from item_of value_length first splits quotes choose
comma_in_template = refl

-- Quotes that do not close run to the end; a double quote that is the key is none of the value's.
quote_open : told (ascii "T\"A,N") ≡ 0x54 ∷ 1 ∷ 4 ∷ []
unfolding words items items_from item_of value_length first splits quotes choose
quote_open = refl

quote_key : told (ascii "\",N") ≡ 0x22 ∷ 1 ∷ 0 ∷ 0x4E ∷ 3 ∷ 0 ∷ []
unfolding words items items_from item_of value_length first splits quotes choose
quote_key = refl

-- The key 0xC3 of U+00E9: its item goes on to the comma, its value has length 0.
high_key : told (0xC3 ∷ 0xA9 ∷ 0x78 ∷ 0x2C ∷ 0x4E ∷ []) ≡ 0xC3 ∷ 1 ∷ 0 ∷ 0x4E ∷ 5 ∷ 0 ∷ []
unfolding words items items_from item_of value_length first splits quotes choose
high_key = refl

-- A last comma begins no item.
last_comma : told (ascii "N,") ≡ 0x4E ∷ 1 ∷ 0 ∷ []
unfolding words items items_from item_of value_length first splits quotes choose
last_comma = refl

empty_items : attributes_of [] 0 ≡ found 0 None
unfolding attributes_of handed_out attributes type_among items items_from items_fit question judge choose
empty_items = refl

-- The type is the first T value that is not empty, if there is one.
first_type : attributes_of (ascii "T,Ti,Tj") 9 ≡ found 3 (Some (value_of 3 1))
unfolding attributes_of handed_out attributes type_among is_type items items_from item_of value_length first splits quotes items_fit question judge choose
first_type = refl

no_type : attributes_of (ascii "T,N") 6 ≡ found 2 None
unfolding attributes_of handed_out attributes type_among is_type items items_from item_of value_length first splits quotes items_fit question judge choose
no_type = refl

-- Bytes that are not UTF-8 are absent, with the first bad offset, though the item would not fit either.
items_not_utf8 : attributes_of (0x54 ∷ 0xFF ∷ []) 0 ≡ absent (NotUtf8 1)
unfolding attributes_of handed_out judge choose
items_not_utf8 = refl

-- The word behind the items stays; of a buffer that is too short every word does.
seventh_word : items_left (ascii "T,,R") (9 ∷ 9 ∷ 9 ∷ 9 ∷ 9 ∷ 9 ∷ 9 ∷ []) ≡ 0x54 ∷ 1 ∷ 0 ∷ 0x2C ∷ 3 ∷ 1 ∷ 9 ∷ []
unfolding items_left filled words attributes_of handed_out attributes type_among is_type items items_from item_of value_length first splits quotes items_fit question judge choose
seventh_word = refl

too_short : items_left (ascii "T,,R") (9 ∷ 9 ∷ 9 ∷ 9 ∷ 9 ∷ []) ≡ 9 ∷ 9 ∷ 9 ∷ 9 ∷ 9 ∷ []
unfolding items_left filled words attributes_of handed_out attributes type_among is_type items items_from item_of value_length first splits quotes items_fit question judge choose
too_short = refl
