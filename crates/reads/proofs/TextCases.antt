-- Worked cases of the definitions of texts; the bytes are of RFC 3629, sections 3, 4 and 10, and of ASCII.
use Rattle.std.specs.Prelude.{Err}
use Rattle.std.proofs.Common.{◌≡◌, ℕ, List, [], ◌∷◌, refl}
use Rattle.reads.specs.Outcome.{value, absent, choose, sum64, nonzero, text_of}
use Rattle.reads.specs.Files.{file_of}
use Rattle.reads.specs.Segment.{rows, ends, holds, place_at, placed, lookup}
use Rattle.reads.specs.Place.{Image, image_of}
use Rattle.reads.specs.Utf8.{judge, verdict, utf8}
use Rattle.reads.specs.declared.answer.Reason.TheVariants.{PastEnd, Unterminated, NotUtf8}
use Rattle.reads.specs.declared.text.Reading.TheVariants.{Old, New}
use Rattle.reads.specs.Text.{text, text_from, text_in, read_from, read_in, fixed_length}

-- "\0Hub\0x": the text at 1 is "Hub", at 5 "x" runs to the file's end, at 6 it is empty, and above 6 it is absent.
abbrev hub : List ℕ
hub = 0x00 ∷ 0x48 ∷ 0x75 ∷ 0x62 ∷ 0x00 ∷ 0x78 ∷ []

hub_at_1 : text_from Old hub (place_at 0 1) ≡ value (text_of 0 1 3)
unfolding text_from text judge choose
hub_at_1 = refl

hub_to_the_end : text_from Old hub (place_at 0 5) ≡ value (text_of 0 5 1)
unfolding text_from text judge choose
hub_to_the_end = refl

hub_at_the_end : text_from Old hub (place_at 0 6) ≡ value (text_of 0 6 0)
unfolding text_from text judge choose
hub_at_the_end = refl

hub_beyond : text_from Old hub (place_at 0 7) ≡ absent PastEnd
unfolding text_from choose
hub_beyond = refl

-- Under the new reading (document 02, note 12) "Hub" is the same, "x" and the text at the file's end have no end.
hub_ended : text_from New hub (place_at 0 1) ≡ value (text_of 0 1 3)
unfolding text_from text judge choose
hub_ended = refl

hub_endless : (text_from New hub (place_at 0 5) ≡ absent Unterminated) × (text_from New hub (place_at 0 6) ≡ absent Unterminated)
unfolding text_from text choose
hub_endless = (refl, refl)

hub_beyond_new : text_from New hub (place_at 0 7) ≡ absent PastEnd
unfolding text_from choose
hub_beyond_new = refl

-- A character of each length: U+0041, U+00E9, U+2262, U+233B4.
all_lengths : text_from Old (0x41 ∷ 0xC3 ∷ 0xA9 ∷ 0xE2 ∷ 0x89 ∷ 0xA2 ∷ 0xF0 ∷ 0xA3 ∷ 0x8E ∷ 0xB4 ∷ 0x00 ∷ []) (place_at 0 0) ≡ value (text_of 0 0 10)
unfolding text_from text judge choose
all_lengths = refl

-- A surrogate, two overlong forms, and a character that the zero byte cuts, each with the offset of the first bad byte.
surrogate : text_from Old (0xED ∷ 0xA0 ∷ 0x80 ∷ 0x00 ∷ []) (place_at 0 0) ≡ absent (NotUtf8 1)
unfolding text_from text judge choose
surrogate = refl

overlong_2 : text_from Old (0xC0 ∷ 0x80 ∷ 0x00 ∷ []) (place_at 0 0) ≡ absent (NotUtf8 0)
unfolding text_from text judge choose
overlong_2 = refl

overlong_3 : text_from Old (0xE0 ∷ 0x80 ∷ 0x80 ∷ 0x00 ∷ []) (place_at 0 0) ≡ absent (NotUtf8 1)
unfolding text_from text judge choose
overlong_3 = refl

cut_by_zero : text_from Old (0xE2 ∷ 0x89 ∷ 0x00 ∷ 0xA2 ∷ []) (place_at 0 0) ≡ absent (NotUtf8 2)
unfolding text_from text judge choose
cut_by_zero = refl

first_bad : verdict (0x41 ∷ 0xED ∷ 0xA0 ∷ 0x80 ∷ []) ≡ Err 2
unfolding judge choose
first_bad = refl

-- How many bytes are read (document 02, note 4): the text's and its zero byte; those of "x", which no zero byte ends; the zero byte of an
-- empty text; none at the file's end, and none above it.
count_with_zero : read_from hub 1 ≡ 4
unfolding read_from text choose
count_with_zero = refl

count_without_zero : read_from hub 5 ≡ 1
unfolding read_from text choose
count_without_zero = refl

count_of_empty : read_from hub 0 ≡ 1
unfolding read_from text choose
count_of_empty = refl

count_at_the_end : read_from hub 6 ≡ 0
unfolding read_from text
count_at_the_end = refl

count_beyond : read_from hub 7 ≡ 0
unfolding read_from text
count_beyond = refl

-- "a", a byte that no text holds, "b", a zero byte, "c": all of a malformed text is read, and its zero byte; without that, to the end.
abbrev malformed : List ℕ
malformed = 0x61 ∷ 0xFF ∷ 0x62 ∷ 0x00 ∷ 0x63 ∷ []

malformed_with_zero : (text_from Old malformed (place_at 0 0) ≡ absent (NotUtf8 1)) × (read_from malformed 0 ≡ 4)
unfolding text_from read_from text judge choose
malformed_with_zero = (refl, refl)

malformed_without_zero : (text_from Old (0x61 ∷ 0xFF ∷ 0x62 ∷ []) (place_at 0 0) ≡ absent (NotUtf8 1)) × (read_from (0x61 ∷ 0xFF ∷ 0x62 ∷ []) 0 ≡ 3)
unfolding text_from read_from text judge choose
malformed_without_zero = (refl, refl)

-- Under the new reading: malformed where a zero byte ends it, else without an end.
malformed_new : (text_from New malformed (place_at 0 0) ≡ absent (NotUtf8 1)) × (text_from New (0x61 ∷ 0xFF ∷ 0x62 ∷ []) (place_at 0 0) ≡ absent Unterminated)
unfolding text_from text judge choose
malformed_new = (refl, refl)

-- A character that the zero byte cuts, and one that the file's end cuts.
count_cut_by_zero : read_from (0xE2 ∷ 0x89 ∷ 0x00 ∷ 0xA2 ∷ []) 0 ≡ 3
unfolding read_from text choose
count_cut_by_zero = refl

count_cut_by_the_end : read_from (0xE2 ∷ 0x89 ∷ []) 0 ≡ 2
unfolding read_from text choose
count_cut_by_the_end = refl

-- The same bytes, mapped to 0x1000 with room for eight: an address of a text, 0, one that is not mapped, and one past the file's end.
abbrev mapped_image : Image
mapped_image = image_of (malformed ∷ []) (0x1000 ∷ 8 ∷ 0 ∷ 8 ∷ 0 ∷ [])

count_in : read_in mapped_image 0x1002 ≡ 2
unfolding read_in read_from file_of text nonzero lookup rows ends holds placed sum64 choose
count_in = refl

count_at_address_zero : read_in mapped_image 0 ≡ 0
unfolding read_in nonzero choose
count_at_address_zero = refl

count_not_mapped : read_in mapped_image 0x2000 ≡ 0
unfolding read_in nonzero lookup rows ends holds placed sum64 choose
count_not_mapped = refl

count_past_the_end : read_in mapped_image 0x1006 ≡ 0
unfolding read_in read_from file_of text nonzero lookup rows ends holds placed sum64 choose
count_past_the_end = refl

-- Two files (document 02, note 6): the text lies in the file that the lookup ends in, and to its end alone. "Hub" of the second file is
-- mapped to 0x2000; file 0 is shorter, and the text behind its end is no part of the second.
abbrev two_files : Image
two_files = image_of ((0x41 ∷ []) ∷ hub ∷ []) (0x1000 ∷ 8 ∷ 0 ∷ 8 ∷ 0 ∷ 0x2000 ∷ 8 ∷ 0 ∷ 8 ∷ 1 ∷ [])

second_file : text_in New two_files 0x2001 ≡ value (text_of 1 1 3)
unfolding text_in text_from file_of text judge nonzero lookup rows ends holds placed sum64 choose
second_file = refl

to_its_own_end : (text_in Old two_files 0x1000 ≡ value (text_of 0 0 1)) × (text_in New two_files 0x1000 ≡ absent Unterminated)
unfolding text_in text_from file_of text judge nonzero lookup rows ends holds placed sum64 choose
to_its_own_end = (refl, refl)

-- segname "__TEXT" in 16 bytes, and 16 bytes that are not UTF-8.
segname : fixed_length (0x5F ∷ 0x5F ∷ 0x54 ∷ 0x45 ∷ 0x58 ∷ 0x54 ∷ 0 ∷ 0 ∷ 0 ∷ 0 ∷ 0 ∷ 0 ∷ 0 ∷ 0 ∷ 0 ∷ 0 ∷ []) ≡ 6
unfolding fixed_length text utf8 judge choose
segname = refl

not_utf8 : fixed_length (0x5F ∷ 0xFF ∷ 0 ∷ 0 ∷ 0 ∷ 0 ∷ 0 ∷ 0 ∷ 0 ∷ 0 ∷ 0 ∷ 0 ∷ 0 ∷ 0 ∷ 0 ∷ 0 ∷ []) ≡ 0
unfolding fixed_length text utf8 judge choose
not_utf8 = refl
