-- Worked cases of absences, one for each reason that reads make (document 02, note 2); no data stands in ReadCases, malformed in LebCases.
use Rattle.std.proofs.Common.{◌≡◌, ℕ, [], ◌∷◌, refl}
use Rattle.reads.specs.Outcome.{absent, or_else, or_first, choose, sum64, nonzero}
use Rattle.reads.specs.Files.{file_of}
use Rattle.reads.specs.Segment.{rows, ends, holds, place_at, placed, lookup}
use Rattle.reads.specs.Place.{Image, image_of, readable_at, readable}
use Rattle.reads.specs.Utf8.{judge}
use Rattle.reads.specs.Text.{text, text_from, text_in}
use Rattle.reads.specs.declared.answer.Reason.TheVariants.{NullAddress, Unmapped, PastEnd, Unterminated, NotUtf8, NoRecord, Unreadable, FieldOverflow}
use Rattle.reads.specs.declared.text.Reading.TheVariants.{Old, New}

-- Four bytes, mapped to 0x1000 with room for eight: "a", a byte that no text holds, an E2 that a "(" follows.
abbrev m : Image
m = image_of ((0x61 ∷ 0xFF ∷ 0xE2 ∷ 0x28 ∷ []) ∷ []) (0x1000 ∷ 8 ∷ 0 ∷ 8 ∷ 0 ∷ [])

at_zero : text_in Old m 0 ≡ absent NullAddress
unfolding text_in nonzero choose
at_zero = refl

not_mapped : text_in Old m 0x2000 ≡ absent Unmapped
unfolding text_in nonzero lookup rows ends holds placed sum64 choose
not_mapped = refl

-- fileoff + distance is over 64 bits: the lookup is absent, which is no field address.
offset_over_64 : text_in Old (image_of [] (0x1000 ∷ 0x10 ∷ 0xFFFFFFFFFFFFFFFF ∷ 0x10 ∷ 0 ∷ [])) 0x1001 ≡ absent Unmapped
unfolding text_in nonzero lookup rows ends holds placed sum64 choose
offset_over_64 = refl

past_the_end : text_in Old m 0x1005 ≡ absent PastEnd
unfolding text_in text_from file_of nonzero lookup rows ends holds placed sum64 choose
past_the_end = refl

-- The offset is in the string, not in the file.
bad_byte : text_in Old m 0x1000 ≡ absent (NotUtf8 1)
unfolding text_in text_from file_of text judge nonzero lookup rows ends holds placed sum64 choose
bad_byte = refl

-- E2 28: the second byte continues no text; E2 82 ends inside a character.
misfit : text_in Old m 0x1002 ≡ absent (NotUtf8 1)
unfolding text_in text_from file_of text judge nonzero lookup rows ends holds placed sum64 choose
misfit = refl

cut_character : text_from Old (0xE2 ∷ 0x82 ∷ []) (place_at 0 0) ≡ absent (NotUtf8 2)
unfolding text_from text judge choose
cut_character = refl

-- Under the new reading these have no end, which goes before; past the end is past the end (note 12).
endless : text_in New m 0x1000 ≡ absent Unterminated
unfolding text_in text_from file_of text nonzero lookup rows ends holds placed sum64 choose
endless = refl

past_the_end_new : text_in New m 0x1005 ≡ absent PastEnd
unfolding text_in text_from file_of nonzero lookup rows ends holds placed sum64 choose
past_the_end_new = refl

-- Bytes that are not mapped, and bytes past the file's end.
unmapped_bytes : readable m 0x2000 1 ≡ absent Unreadable
unfolding readable lookup rows ends holds placed sum64 choose
unmapped_bytes = refl

bytes_past_the_end : readable m 0x1002 4 ≡ absent Unreadable
unfolding readable readable_at file_of lookup rows ends holds placed sum64 choose
bytes_past_the_end = refl

field_over_64 : sum64 0xFFFFFFFFFFFFFFF8 8 ≡ absent FieldOverflow
unfolding sum64 choose
field_over_64 = refl

-- Where two lookups are absent: the second's reason, or the first's.
second_stands : or_else {A = ℕ} (absent Unmapped) (absent NoRecord) ≡ absent NoRecord
second_stands = refl

first_stands : or_first {A = ℕ} (absent Unmapped) (absent NoRecord) ≡ absent Unmapped
first_stands = refl
