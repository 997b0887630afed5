-- Worked examples of the text of lines, and the ◆ listing's text (document 01, "The program's listing").
use Rattle.std.specs.Prelude.{Bool}
use Prim.Native.Nat.{ℕ, ◌+◌, ◌-◌, ◌*◌, ◌^◌}
use mathlib.Core.Bool.{true, false}
use mathlib.Core.Path.{◌≡◌, refl}
use mathlib.Core.List.{List, [], ◌∷◌, ◌++◌, flat_map}
use Rattle.reads.specs.Outcome.{choose, text_of}
use Rattle.reads.specs.Files.{file_of}
use Rattle.pointers.specs.Symbol.{ascii}
use Rattle.records.specs.Row.{method_of}
use Rattle.records.specs.declared.method.Method.{Method}
use Rattle.records.specs.declared.method.MethodKind.TheVariants as kind
use Rattle.records.specs.declared.row.Row.TheVariants as row
use Rattle.records.proofs.HubImage.{bytes, four_files, counted}
use Rattle.reads.specs.declared.text.Reading.TheVariants.{New}
use Rattle.listing.specs.declared.line.Line.{Line}
use Rattle.listing.specs.declared.line.Line.TheVariants as line
use Rattle.printing.specs.Buffer.{places, hex_text, decimal_text}
use Rattle.printing.specs.LineText.{none_field, number_field, string_field, part_field, text_field, text_fields, info_text, class_text, ro_text, method_text, ivar_text, name_text, end_text, line_text, refused_text}
use Rattle.std.specs.Prelude.{Option, Some, None}
use Rattle.frames.specs.declared.frames.Mark.{Mark}
use Rattle.frames.specs.declared.frames.Mark.TheVariants.{Unmarked, Marked}
use Rattle.reads.specs.declared.text.Text.{Text}
use Rattle.reads.specs.declared.answer.Question.TheVariants.{BundleLength}

-- A line with its newline.
abbrev ended : List ℕ → List ℕ
ended text = text ++ (10 ∷ [])

-- A file of one byte, and one of 15 bytes.
abbrev files : List (List ℕ)
files = ascii "1" ∷ ascii "fifteen letters" ∷ []

abbrev class_line : Option Text → Line
class_line name =
    line.Class
    (record {
      class = record { address = 4096; isa = 0; superclass_address = 2 ^ 64 - 1; bits = 10; is_meta = true };
      superclass_name = name;
    })

abbrev method_line : Method → Mark → Line
method_line m x = line.Row (record { list = 6; row = row.Method m; mark = x })

abbrev ivar_line : Option ℕ → Option ℕ → Option Bool → Line
ivar_line o k a =
    line.Row
    (record {
      list = 1;
      row = row.Ivar (record { name = text_of 1 0 7; type_encoding = text_of 1 0 0; offset = o; size = 16; log2_alignment = k; aligned = a });
      mark = Unmarked;
    })

abbrev end_line : ℕ → ℕ → Line
end_line high low = line.End (record { records = 10; settled = high * 2 ^ 64 + low })

-- A name: its length is a number like the others. A name that is none, one that is empty, and one that its file ends before.
pub with_name : line_text files (class_line (Some (text_of 1 0 15))) ≡ ended (ascii "M 1000 0 ffffffffffffffff a f:fifteen letters")
unfolding line_text class_text text_field part_field file_of string_field number_field hex_text places choose
with_name = refl

pub with_no_name : line_text files (class_line None) ≡ ended (ascii "M 1000 0 ffffffffffffffff a -")
unfolding line_text class_text none_field number_field hex_text places choose
with_no_name = refl

pub with_empty_name : line_text files (class_line (Some (text_of 1 15 0))) ≡ ended (ascii "M 1000 0 ffffffffffffffff a 0:")
unfolding line_text class_text text_field part_field file_of string_field number_field hex_text places choose
with_empty_name = refl

pub past_the_file : line_text files (line.Name (record { list = 3; name = text_of 1 15 1 })) ≡ ended (ascii "q 3 -")
unfolding line_text name_text text_field part_field file_of none_field number_field hex_text places choose
past_the_file = refl

-- An imp that is there can be 0; 2 is a direct selector. The mark comes last.
pub imp_zero :
    line_text files (method_line (method_of (text_of 1 0 3) (text_of 1 0 0) (Some 0) kind.SmallDirect) Marked) ≡ ended (ascii "m 6 3:fif 0: 0 2 1")
unfolding line_text method_text text_fields text_field part_field file_of string_field number_field hex_text places choose
imp_zero = refl

pub imp_none :
    line_text files (method_line (method_of (text_of 1 0 3) (text_of 1 0 0) None kind.SmallIndirect) Unmarked) ≡ ended (ascii "m 6 3:fif 0: - 1 0")
unfolding line_text method_text text_fields text_field part_field file_of string_field none_field number_field hex_text places choose
imp_none = refl

-- An ivar's offset 0 is there; an offset without its alignment; no offset; an alignment that is none.
pub offset_zero :
    line_text files (ivar_line (Some 0) (Some 40) (Some true)) ≡ ended (ascii "v 1 7:fifteen 0: 0 10 28 1")
unfolding line_text ivar_text text_fields text_field part_field file_of string_field number_field hex_text places choose
offset_zero = refl

pub offset_unaligned :
    line_text files (ivar_line (Some 12) (Some 3) (Some false)) ≡ ended (ascii "v 1 7:fifteen 0: c 10 3 0")
unfolding line_text ivar_text text_fields text_field part_field file_of string_field number_field hex_text places choose
offset_unaligned = refl

pub offset_none :
    line_text files (ivar_line None (Some 3) None) ≡ ended (ascii "v 1 7:fifteen 0: - 10 3 -")
unfolding line_text ivar_text text_fields text_field part_field file_of string_field none_field number_field hex_text places choose
offset_none = refl

pub alignment_none :
    line_text files (ivar_line (Some 8) None None) ≡ ended (ascii "v 1 7:fifteen 0: 8 10 - -")
unfolding line_text ivar_text text_fields text_field part_field file_of string_field none_field number_field hex_text places choose
alignment_none = refl

-- The entries settled, of one word and of two.
pub one_word : line_text files (end_line 0 (2 ^ 64 - 1)) ≡ ended (ascii "E a ffffffffffffffff")
unfolding line_text end_text number_field hex_text places choose
one_word = refl

pub end_line_two_words : line_text files (end_line 2 31) ≡ ended (ascii "E a 2000000000000001f")
unfolding line_text end_text number_field hex_text places choose
end_line_two_words = refl

-- Only the number after `refused` is decimal.
pub refused_13_text : refused_text BundleLength ≡ ended (ascii "refused 13")
unfolding refused_text decimal_text places choose
refused_13_text = refl

-- ◆ the listing's lines.
abbrev hub_lines : List Line
hub_lines =
    line.Info (record { info = record { version = 0; flags = 0 }; reading = New })
    ∷ line.Class
    (record {
      class = record { address = 0x1000; isa = 0; superclass_address = 0; bits = 0x1028; is_meta = false };
      superclass_name = Some (text_of 0 182 8);
    })
    ∷ line.Ro
    (record {
      address = 0x1028;
      flags = 0;
      instance_start = 8;
      instance_size = 8;
      name = text_of 0 144 3;
      ivar_layout_address = 0;
      methods = 0x1070;
      protocols = 0;
      ivars = 0;
      weak_ivar_layout_address = 0;
      properties = 0;
    })
    ∷ line.Row (record { list = 0; row = row.Method (method_of (text_of 0 148 2) (text_of 0 151 1) (Some 0x2000) kind.Legacy); mark = Unmarked })
    ∷ line.End (record { records = 1; settled = 2 })
    ∷ []

-- ◆ its text.
pub hub_text :
    flat_map (line_text (four_files bytes)) hub_lines
    ≡ ended (ascii "I 0 0 1")
    ++ ended (ascii "C 1000 0 0 1028 8:NSObject")
    ++ ended (ascii "R 1028 0 8 8 3:Hub")
    ++ ended (ascii "m 0 2:up 1:v 2000 0 0")
    ++ ended (ascii "E 1 2")
unfolding counted flat_map line_text info_text class_text ro_text method_text end_text text_fields text_field part_field file_of string_field number_field hex_text places choose
hub_text = refl
