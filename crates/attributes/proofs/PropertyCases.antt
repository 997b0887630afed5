-- Worked cases of declared properties, computed from the definitions.
use Prim.Native.Nat.{ℕ}
use mathlib.Core.Path.{◌≡◌, refl}
use mathlib.Core.List.{[], ◌∷◌}
use Rattle.reads.specs.Outcome.{value, absent, refused, choose}
use Rattle.reads.specs.Utf8.{judge, verdict}
use Rattle.reads.specs.declared.answer.Reason.TheVariants.{NotUtf8}
use Rattle.pointers.specs.Question.{question}
use Rattle.pointers.specs.Symbol.{ascii}
use Rattle.attributes.specs.Attributes.{handed_out, quotes, splits, first, value_length, value_of, item_of, items_from, items, items_fit, words, filled}
use Rattle.attributes.specs.Property.{among, unknowns, first_value, declared, declared_of, unknown_left}
use Rattle.attributes.specs.Written.{bytes_of, declaration_in, declaration, given, in_order, following, joined, written, items_in, written_text, written_of, written_left}
use Rattle.attributes.specs.declared.property.Declared.{Declared}
use Rattle.std.specs.Prelude.{Option, Some, None, Err}
use Rattle.attributes.specs.declared.items.Value.{Value}
use Rattle.reads.specs.declared.answer.Question.TheVariants.{ItemRoom}

-- A letter that is not given, and a value of n bytes from k on.
abbrev o : Option Value
o = None

abbrev at : ℕ → ℕ → Option Value
at k n = Some (value_of k n)

-- What is given of T R C & N D W P G S t V, and how many letters are unknown.
abbrev property : Option Value → Option Value → Option Value → Option Value → Option Value → Option Value
    → Option Value → Option Value → Option Value → Option Value → Option Value → Option Value → ℕ → Declared
property type readonly copy retain nonatomic dynamic weak collectable getter setter old variable n =
    record {
      type_encoding = type;
      readonly = readonly;
      copy = copy;
      retain = retain;
      nonatomic = nonatomic;
      dynamic = dynamic;
      weak = weak;
      collectable = collectable;
      getter = getter;
      setter = setter;
      old_type_encoding = old;
      variable = variable;
      unknown_count = n;
    }

-- Its type is @"NSString", it is copy and nonatomic, its variable is _name. No unknown letter wants a word.
name_declared : declared_of (ascii "T@\"NSString\",C,N,V_name") 0 ≡ value (property (at 1 11) o (at 14 0) o (at 16 0) o o o o o o (at 18 5) 0)
unfolding declared_of handed_out declared first_value unknowns among items items_from item_of value_length first splits quotes items_fit question judge choose
name_declared = refl

-- Every letter, out of order.
every_letter : declared_of (ascii "V_v,tc,SsetA:,GisA,P,W,D,N,&,C,R,Tc") 0
    ≡ value (property (at 34 1) (at 32 0) (at 30 0) (at 28 0) (at 26 0) (at 24 0) (at 22 0) (at 20 0) (at 15 3) (at 8 5) (at 5 1) (at 1 2) 0)
unfolding declared_of handed_out declared first_value unknowns among items items_from item_of value_length first splits quotes items_fit question judge choose
every_letter = refl

every_letter_written : written (declaration (ascii "V_v,tc,SsetA:,GisA,P,W,D,N,&,C,R,Tc")) ≡ ascii "Tc,R,C,&,N,D,W,P,GisA,SsetA:,tc,V_v"
unfolding written in_order given joined following declaration declaration_in bytes_of declared first_value unknowns among items items_from item_of value_length first splits quotes choose
every_letter_written = refl

-- A C++ type: a comma in quotes belongs to the value; without quotes it ends the value, and a letter i follows.
quoted_comma : declared_of (ascii "T@\"A<B,C>\",N") 0 ≡ value (property (at 1 9) o o o (at 12 0) o o o o o o o 0)
unfolding declared_of handed_out declared first_value unknowns among items items_from item_of value_length first splits quotes items_fit question judge choose
quoted_comma = refl

bare_comma : declared_of (ascii "T{pair<int,int>=ii},R") 3 ≡ value (property (at 1 9) (at 21 0) o o o o o o o o o o 1)
unfolding declared_of handed_out declared first_value unknowns among items items_from item_of value_length first splits quotes items_fit question judge choose
bare_comma = refl

bare_comma_written : written (declaration (ascii "T{pair<int,int>=ii},R")) ≡ ascii "T{pair<int,R,int>=ii}"
unfolding written in_order given joined following declaration declaration_in bytes_of declared first_value unknowns among items items_from item_of value_length first splits quotes choose
bare_comma_written = refl

-- A letter met twice keeps its first value, the empty one too, where parse_attributes takes the first type that is not empty.
first_value_lem : declared_of (ascii "T,Ti,Rx,R") 0 ≡ value (property (at 1 0) (at 6 1) o o o o o o o o o o 0)
unfolding declared_of handed_out declared first_value unknowns among items items_from item_of value_length first splits quotes items_fit question judge choose
first_value_lem = refl

-- Unknown letters are all kept, in order, and go into the lent words; the word behind them stays.
unknown_letters : declared_of (ascii "x1,?,x2") 10 ≡ value (property o o o o o o o o o o o o 3)
unfolding declared_of handed_out declared first_value unknowns among items items_from item_of value_length first splits quotes items_fit question judge choose
unknown_letters = refl

unknown_rows : unknown_left (ascii "x1,R,x2") (9 ∷ 9 ∷ 9 ∷ 9 ∷ 9 ∷ 9 ∷ 9 ∷ []) ≡ 0x78 ∷ 1 ∷ 1 ∷ 0x78 ∷ 6 ∷ 1 ∷ 9 ∷ []
unfolding unknown_left filled words declared_of handed_out declared first_value unknowns among items items_from item_of value_length first splits quotes items_fit question judge choose
unknown_rows = refl

unknown_written : written (declaration (ascii "V_a,x1,T@\"A,B\",R,Ti,x2")) ≡ ascii "T@\"A,B\",R,x1,x2,V_a"
unfolding written in_order given joined following declaration declaration_in bytes_of declared first_value unknowns among items items_from item_of value_length first splits quotes choose
unknown_written = refl

-- 12: an unknown letter wants three words, and with a number nothing is written; not UTF-8 comes before it.
unknown_refused : declared_of (ascii "x,R") 2 ≡ refused ItemRoom
unfolding declared_of handed_out declared first_value unknowns among items items_from item_of value_length first splits quotes items_fit question judge choose
unknown_refused = refl

unknown_untouched : unknown_left (ascii "x,R") (9 ∷ 9 ∷ []) ≡ 9 ∷ 9 ∷ []
unfolding unknown_left filled words declared_of handed_out declared first_value unknowns among items items_from item_of value_length first splits quotes items_fit question judge choose
unknown_untouched = refl

declared_not_utf8 : declared_of (0x78 ∷ 0xFF ∷ []) 0 ≡ absent (NotUtf8 1)
unfolding declared_of handed_out judge choose
declared_not_utf8 = refl

-- Nothing is written as the empty text, into a buffer of no bytes.
nothing_written : written_of [] (property o o o o o o o o o o o o 0) [] 0 ≡ value 0
unfolding written_of written_text written in_order given joined following declaration_in bytes_of items_in question choose
nothing_written = refl

-- 12: the text fits its own length and no less; what stands behind it stays, and with a number all does.
text_fits : written_of (ascii "R,x1") (property o (at 1 0) o o o o o o o o o o 1) (0x78 ∷ 3 ∷ 1 ∷ []) 4 ≡ value 4
unfolding written_of written_text written in_order given joined following declaration_in bytes_of items_in question choose
text_fits = refl

text_refused : written_of (ascii "R,x1") (property o (at 1 0) o o o o o o o o o o 1) (0x78 ∷ 3 ∷ 1 ∷ []) 3 ≡ refused ItemRoom
unfolding written_of written_text written in_order given joined following declaration_in bytes_of items_in question choose
text_refused = refl

text_left : written_left (ascii "R,x1") (property o (at 1 0) o o o o o o o o o o 1) (0x78 ∷ 3 ∷ 1 ∷ []) (9 ∷ 9 ∷ 9 ∷ 9 ∷ 9 ∷ [])
    ≡ 0x52 ∷ 0x2C ∷ 0x78 ∷ 0x31 ∷ 9 ∷ []
unfolding written_left written_of written_text written in_order given joined following declaration_in bytes_of items_in question choose
text_left = refl

text_untouched : written_left (ascii "R,x1") (property o (at 1 0) o o o o o o o o o o 1) (0x78 ∷ 3 ∷ 1 ∷ []) (9 ∷ 9 ∷ 9 ∷ []) ≡ 9 ∷ 9 ∷ 9 ∷ []
unfolding written_left written_of written_text written in_order given joined following declaration_in bytes_of items_in question choose
text_untouched = refl

-- What no decoding made: a value has as many bytes as the text has of it, a key is its low byte, and of the rows as many are
-- taken as are counted and whole.
made_up : written_text (ascii "abc") (property (at 1 9) o o o o o o o o o o (at 7 1) 3) (0x178 ∷ 0 ∷ 2 ∷ 0x79 ∷ 2 ∷ 1 ∷ 0x7A ∷ 0 ∷ [])
    ≡ ascii "Tbc,xab,yc,V"
unfolding written_of written_text written in_order given joined following declaration_in bytes_of items_in question choose
made_up = refl

counted : written_text (ascii "abc") (property o o o o o o o o o o o o 1) (0x78 ∷ 0 ∷ 1 ∷ 0x79 ∷ 1 ∷ 1 ∷ []) ≡ ascii "xa"
unfolding written_of written_text written in_order given joined following declaration_in bytes_of items_in question choose
counted = refl

-- An unknown letter may be a comma: `T,,R` has one, and its text is the same.
comma_letter : written (declaration (ascii "T,,R")) ≡ ascii "T,,R"
unfolding written in_order given joined following declaration declaration_in bytes_of declared first_value unknowns among items items_from item_of value_length first splits quotes choose
comma_letter = refl

-- Why the round trip has its conditions. An open quote takes in what is written behind it; an unknown letter that is not
-- ASCII has lost its value, and its text is not UTF-8.
open_quote : written (declaration (ascii "V_a,x\"")) ≡ ascii "x\",V_a"
unfolding written in_order given joined following declaration declaration_in bytes_of declared first_value unknowns among items items_from item_of value_length first splits quotes choose
open_quote = refl

open_quote_given : declared_of (ascii "V_a,x\"") 3 ≡ value (property o o o o o o o o o o o (at 1 2) 1)
unfolding declared_of handed_out declared first_value unknowns among items items_from item_of value_length first splits quotes items_fit question judge choose
open_quote_given = refl

open_quote_lost : declared_of (ascii "x\",V_a") 3 ≡ value (property o o o o o o o o o o o o 1)
unfolding declared_of handed_out declared first_value unknowns among items items_from item_of value_length first splits quotes items_fit question judge choose
open_quote_lost = refl

high_letter : written (declaration (0xC3 ∷ 0xA9 ∷ [])) ≡ 0xC3 ∷ []
unfolding written in_order given joined following declaration declaration_in bytes_of declared first_value unknowns among items items_from item_of value_length first splits quotes choose
high_letter = refl

high_letter_lost : verdict (0xC3 ∷ []) ≡ Err 1
unfolding judge choose
high_letter_lost = refl
