-- How long a line can be: some numbers of at most 32 digits, and at most two texts, each a part of a file.
use Rattle.std.specs.Prelude.{Bool, true, false}
use Prim.Native.Nat.{ℕ, zero, suc, ◌+◌, ◌-◌, ◌*◌, ◌/◌, ◌%◌, ◌≤◌, min}
use mathlib.Core.Path.{◌≡◌, refl, ◌∙◌}
use mathlib.Core.List.{List, [], ◌∷◌}
use native.Mathlib.Omega.{arith}
use lib.ListN.{length, length-append, length-take, length-drop}
use Rattle.io.specs.Digits.{last_digits, hex_digit_ascii}
use Rattle.reads.specs.Outcome.{Outcome, value, absent, refused}
use Rattle.reads.specs.Files.{file_of, longest}
use Rattle.reads.proofs.LentFiles.{longest_most}
use Rattle.reads.specs.declared.text.Text.{Text}
use Rattle.reads.proofs.Tests.{by_choose}
use Rattle.records.specs.declared.row.Row.{Row}
use Rattle.records.specs.declared.row.Row.TheVariants as row
use Rattle.listing.specs.Listing.{Answer, says, lacks, nothing, ended}
use Rattle.listing.specs.declared.line.Line.{Line}
use Rattle.listing.specs.declared.line.Line.TheVariants as line
use Rattle.printing.specs.Buffer.{places, hex_text, decimal_text}
use Rattle.frames.specs.Marks.{mark_number}
use Rattle.frames.specs.declared.frames.Mark.{Mark}
use Rattle.printing.specs.LineText.{none_field, number_field, string_field, part_field, text_field, text_fields, named_field, optional_field, aligned_field, kind_number, reading_number, info_text, class_text, ro_text, protocol_text, category_text, method_text, ivar_text, property_text, row_text, name_text, end_text, fields_text, line_text, refused_text}
use Rattle.printing.specs.Pieces.{said_text}
use Rattle.std.specs.Prelude.{Option, Some, None}
use Rattle.reads.specs.declared.answer.Question.{Question}
use Rattle.reads.specs.Question.{number_of}

places_few : (b k n : ℕ) → places b k n ≤ suc k
unfolding places
places_few b zero n = omega arith
places_few b (suc k) n = by_choose (λ (m : ℕ). m ≤ suc (suc k)) (λ e. omega arith) (λ e. omega (arith, places_few b k (n / b)))

length_digits : (b k n : ℕ) → length (last_digits b k n) ≡ k
length_digits b zero n = refl
length_digits b (suc k) n = length-append (last_digits b k (n / b)) (hex_digit_ascii (n % b) ∷ []) ∙ rw (length_digits b k (n / b)) (omega arith)

number_short : (n : ℕ) → length (number_field n) ≤ 33
unfolding number_field hex_text
number_short n = rw (length_digits 16 (places 16 31 n) n) (omega (arith, places_few 16 31 n))

none_short : length none_field ≤ 33
unfolding none_field
none_short = omega arith

refused_short : (k : Question) → length (refused_text k) ≤ 32
unfolding refused_text decimal_text
refused_short k = simp (length-append, length_digits) (omega (arith, places_few 10 19 (number_of k)))

part_short : (bytes : List ℕ) (t : Text) → length (part_field bytes t) ≤ 34 + length bytes
unfolding part_field string_field
part_short bytes t =
    by_choose (λ (s : List ℕ). length s ≤ 34 + length bytes)
    (λ e. simp (length-append, length-take, length-drop) (omega (arith, number_short (min t.len (length bytes - t.offset)))))
    (λ e. omega (arith, none_short))

module _ (files : List (List ℕ)) where
  text_short : (t : Text) → length (text_field files t) ≤ 34 + longest files
  unfolding text_field
  text_short t = omega (arith, part_short (file_of files t.file) t, longest_most files t.file)

  texts_short : (a b : Text) → length (text_fields files a b) ≤ 68 + 2 * longest files
  unfolding text_fields
  texts_short a b = simp length-append (omega (arith, text_short a, text_short b))

  named_short : (n : Option Text) → length (named_field files n) ≤ 34 + longest files
  named_short (Some t) = text_short t
  named_short None = omega (arith, none_short)

  optional_short : (n : Option ℕ) → length (optional_field n) ≤ 33
  optional_short (Some n) = number_short n
  optional_short None = none_short

  aligned_short : (a : Option Bool) → length (aligned_field a) ≤ 33
  aligned_short (Some true) = number_short 1
  aligned_short (Some false) = number_short 0
  aligned_short None = none_short

  abbrev Short : List ℕ → Type 0
  Short text = length text ≤ 300 + 2 * longest files

  row_short : (n : ℕ) (r : Row) (mark : Mark) → Short (row_text files n r mark)
  unfolding method_text ivar_text property_text
  row_short n (row.Method m) mark =
      simp length-append
      (omega (arith, number_short n, texts_short m.selector m.types, optional_short m.implementation, number_short (kind_number m.kind), number_short (mark_number mark)))
  row_short n (row.Ivar v) mark =
      simp length-append
      (omega (
        arith,
        number_short n,
        texts_short v.name v.type_encoding,
        optional_short v.offset,
        number_short v.size,
        optional_short v.log2_alignment,
        aligned_short v.aligned,
      ))
  row_short n (row.Property p) mark = simp length-append (omega (arith, number_short n, texts_short p.name p.attributes))

  fields_short : (x : Line) → Short (fields_text files x)
  unfolding info_text class_text ro_text protocol_text category_text name_text end_text
  fields_short (line.Info i) = simp length-append (omega (arith, number_short i.info.version, number_short i.info.flags, number_short (reading_number i.reading)))
  fields_short (line.Class l) =
      simp length-append
      (omega (
        arith,
        number_short l.class.address,
        number_short l.class.isa,
        number_short l.class.superclass_address,
        number_short l.class.bits,
        named_short l.superclass_name,
      ))
  fields_short (line.Ro r) =
      simp length-append
      (omega (
        arith,
        number_short r.address,
        number_short r.flags,
        number_short r.instance_start,
        number_short r.instance_size,
        text_short r.name,
      ))
  fields_short (line.Protocol p) =
      simp length-append
      (omega (arith, number_short p.address, number_short p.size, number_short p.flags, text_short p.name))
  fields_short (line.Category l) =
      simp length-append
      (omega (
        arith,
        number_short l.category.address,
        number_short l.category.class_address,
        text_short l.category.name,
        named_short l.class_name,
      ))
  fields_short (line.Row l) = row_short l.list l.row l.mark
  fields_short (line.Name l) = simp length-append (omega (arith, number_short l.list, text_short l.name))
  fields_short (line.End l) =
      simp length-append (omega (arith, number_short l.records, number_short l.settled))

  -- What a step says has at most 301 bytes beside the texts.
  pub said_length_lem : (o : Outcome Answer) → length (said_text files o) ≤ 301 + 2 * longest files
  unfolding line_text
  said_length_lem (value (says x)) = simp length-append (omega (arith, fields_short x))
  said_length_lem (value (lacks x)) = omega arith
  said_length_lem (value nothing) = omega arith
  said_length_lem (value ended) = omega arith
  said_length_lem (absent r) = omega arith
  said_length_lem (refused k) = omega (arith, refused_short k)
