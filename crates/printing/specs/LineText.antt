-- The text of a listing's lines (document 01, "The program's listing"): fields split by one space, numbers lower-case hex, strings length,
-- colon, bytes; `-` is none. An ivar's last field: note 8. A method's: note 11.
use Rattle.std.specs.Prelude.{ℕ, ◌+◌, Bool, true, false, List, [], ◌∷◌, ◌++◌, leb, length, Option, Some, None}
use Rattle.reads.specs.Outcome.{choose}
use Rattle.reads.specs.Files.{file_of}
use Rattle.reads.specs.Place.{part}
use Rattle.reads.specs.declared.text.Text.{Text}
use Rattle.pointers.specs.Symbol.{ascii}
use Rattle.reads.specs.declared.text.Reading.{Reading}
use Rattle.reads.specs.declared.text.Reading.TheVariants as reading
use Rattle.records.specs.declared.class.ClassRo.{ClassRo}
use Rattle.records.specs.declared.ivar.Ivar.{Ivar}
use Rattle.records.specs.declared.method.Method.{Method}
use Rattle.records.specs.declared.method.MethodKind.{MethodKind}
use Rattle.records.specs.declared.method.MethodKind.TheVariants as kind
use Rattle.records.specs.declared.property.Property.{Property}
use Rattle.records.specs.declared.protocol.ObjcProtocol.{ObjcProtocol}
use Rattle.records.specs.declared.row.Row.{Row}
use Rattle.records.specs.declared.row.Row.TheVariants as row
use Rattle.frames.specs.Marks.{mark_number}
use Rattle.frames.specs.declared.frames.Mark.{Mark}
use Rattle.listing.specs.declared.line.CategoryLine.{CategoryLine}
use Rattle.listing.specs.declared.line.ClassLine.{ClassLine}
use Rattle.listing.specs.declared.line.EndLine.{EndLine}
use Rattle.listing.specs.declared.line.InfoLine.{InfoLine}
use Rattle.listing.specs.declared.line.Line.{Line}
use Rattle.listing.specs.declared.line.Line.TheVariants as line
use Rattle.listing.specs.declared.line.NameLine.{NameLine}
use Rattle.printing.specs.Buffer.{hex_text, decimal_text}
use Rattle.reads.specs.Question.{number_of}
use Rattle.reads.specs.declared.answer.Question.{Question}

-- Each field comes after a space: none, a number, a string.
unfoldable pub none_field : List ℕ
none_field = ascii " -"

unfoldable pub number_field : ℕ → List ℕ
number_field n = ascii " " ++ hex_text n

unfoldable pub string_field : List ℕ → List ℕ
string_field s = number_field (length s) ++ (ascii ":" ++ s)

-- A text is a part of its file, which has these bytes; one that does not lie there is none.
unfoldable pub part_field : List ℕ → Text → List ℕ
part_field bytes t = choose (leb (t.offset + t.len) (length bytes)) (string_field (part bytes t.offset t.len)) none_field

unfoldable pub text_field : List (List ℕ) → Text → List ℕ
text_field files t = part_field (file_of files t.file) t

unfoldable pub text_fields : List (List ℕ) → Text → Text → List ℕ
text_fields files a b = text_field files a ++ text_field files b

abbrev pub named_field : List (List ℕ) → Option Text → List ℕ
named_field files (Some t) = text_field files t
named_field files None = none_field

-- An implementation's address, an ivar's offset or its alignment, or none.
abbrev pub optional_field : Option ℕ → List ℕ
optional_field (Some n) = number_field n
optional_field None = none_field

-- 1 or 0.
abbrev pub aligned_field : Option Bool → List ℕ
aligned_field (Some true) = number_field 1
aligned_field (Some false) = number_field 0
aligned_field None = none_field

-- 0 legacy, 1 indirect, 2 direct.
abbrev pub kind_number : MethodKind → ℕ
kind_number kind.Legacy = 0
kind_number kind.SmallIndirect = 1
kind_number kind.SmallDirect = 2

-- C (class) or M (metaclass).
abbrev pub class_letter : Bool → ℕ
class_letter true = 77
class_letter false = 67

-- 0 under the old reading, 1 under the new (document 02, note 12).
abbrev pub reading_number : Reading → ℕ
reading_number reading.Old = 0
reading_number reading.New = 1

-- I version flags reading.
unfoldable pub info_text : InfoLine → List ℕ
info_text i = ascii "I" ++ (number_field i.info.version ++ (number_field i.info.flags ++ number_field (reading_number i.reading)))

-- C or M: address, isa, superclass, bits, superclass name.
unfoldable pub class_text : List (List ℕ) → ClassLine → List ℕ
class_text files l =
    (class_letter l.class.is_meta ∷ [])
    ++ (number_field l.class.address
    ++ (number_field l.class.isa
    ++ (number_field l.class.superclass_address
    ++ (number_field l.class.bits ++ named_field files l.superclass_name))))

-- R: address, flags, start, size, name.
unfoldable pub ro_text : List (List ℕ) → ClassRo → List ℕ
ro_text files r =
    ascii "R"
    ++ (number_field r.address
    ++ (number_field r.flags
    ++ (number_field r.instance_start ++ (number_field r.instance_size ++ text_field files r.name))))

-- P: address, size, flags, name.
unfoldable pub protocol_text : List (List ℕ) → ObjcProtocol → List ℕ
protocol_text files p =
    ascii "P" ++ (number_field p.address ++ (number_field p.size ++ (number_field p.flags ++ text_field files p.name)))

-- K: address, class address, name, class name.
unfoldable pub category_text : List (List ℕ) → CategoryLine → List ℕ
category_text files l =
    ascii "K"
    ++ (number_field l.category.address
    ++ (number_field l.category.class_address ++ (text_field files l.category.name ++ named_field files l.class_name)))

-- Rows carry a list number: m selector types imp kind mark.
unfoldable pub method_text : List (List ℕ) → ℕ → Method → Mark → List ℕ
method_text files n m mark =
    ascii "m"
    ++ (number_field n
    ++ (text_fields files m.selector m.types ++ (optional_field m.implementation ++ (number_field (kind_number m.kind) ++ number_field (mark_number mark)))))

-- v name type offset size alignment aligned.
unfoldable pub ivar_text : List (List ℕ) → ℕ → Ivar → List ℕ
ivar_text files n v =
    ascii "v"
    ++ (number_field n
    ++ (text_fields files v.name v.type_encoding
    ++ (optional_field v.offset
    ++ (number_field v.size ++ (optional_field v.log2_alignment ++ aligned_field v.aligned)))))

-- p name attributes.
unfoldable pub property_text : List (List ℕ) → ℕ → Property → List ℕ
property_text files n p = ascii "p" ++ (number_field n ++ text_fields files p.name p.attributes)

-- Only a method shows its mark.
abbrev pub row_text : List (List ℕ) → ℕ → Row → Mark → List ℕ
row_text files n (row.Method m) mark = method_text files n m mark
row_text files n (row.Ivar v) mark = ivar_text files n v
row_text files n (row.Property p) mark = property_text files n p

-- q protocol name.
unfoldable pub name_text : List (List ℕ) → NameLine → List ℕ
name_text files l = ascii "q" ++ (number_field l.list ++ text_field files l.name)

-- E: records, and the entries settled, a number of two words.
unfoldable pub end_text : EndLine → List ℕ
end_text l = ascii "E" ++ (number_field l.records ++ number_field l.settled)

abbrev pub fields_text : List (List ℕ) → Line → List ℕ
fields_text files (line.Info i) = info_text i
fields_text files (line.Class l) = class_text files l
fields_text files (line.Ro r) = ro_text files r
fields_text files (line.Protocol p) = protocol_text files p
fields_text files (line.Category l) = category_text files l
fields_text files (line.Row l) = row_text files l.list l.row l.mark
fields_text files (line.Name l) = name_text files l
fields_text files (line.End l) = end_text l

-- A line with its newline.
unfoldable pub line_text : List (List ℕ) → Line → List ℕ
line_text files x = fields_text files x ++ (10 ∷ [])

-- Refused: `refused` and the number in decimal.
unfoldable pub refused_text : Question → List ℕ
refused_text k = ascii "refused " ++ (decimal_text (number_of k) ++ (10 ∷ []))
