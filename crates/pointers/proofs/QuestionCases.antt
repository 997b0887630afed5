-- Worked examples of the questions that are asked of every row, computed from the definitions.
use Prim.Native.Nat.{ℕ}
use mathlib.Core.Path.{◌≡◌, refl}
use mathlib.Core.Bool.{true, false}
use mathlib.Core.List.{List, [], ◌∷◌, ◌++◌}
use lib.ListN.{replicate}
use Rattle.reads.specs.Outcome.{refused, choose}
use Rattle.reads.specs.Files.{file_of, longest}
use Rattle.reads.specs.Utf8.{judge, utf8}
use Rattle.pointers.specs.Tables.{tables_of}
use Rattle.pointers.specs.Question.{question, image_fits, whole_rows, every, section_fits, section_table, info_whole, segment_files, name_inside, name_utf8, asked_tables, bind_files, names_inside, names_utf8}
use Rattle.pointers.specs.Slot.{bind_name}
use Rattle.pointers.specs.Open.{asked_opening}
use Rattle.reads.specs.declared.answer.Question.TheVariants.{NameInside, NameUtf8, FileLent}

-- Question 3, of an image of 64 bytes: class_list and proto_list as given, the others absent.
abbrev asked_sections : ℕ → ℕ → List ℕ
asked_sections present len = 1 ∷ 0x1000 ∷ 64 ∷ replicate 9 0 ++ present ∷ 0x1020 ∷ len ∷ []

sections_fit_lem : section_table 64 (asked_sections 1 64) ≡ true
unfolding section_table every section_fits
sections_fit_lem = refl

too_long : section_table 64 (asked_sections 1 65) ≡ false
unfolding section_table every section_fits
too_long = refl

-- The length of an absent section is not looked at.
absent_length : section_table 64 (asked_sections 0 65) ≡ true
unfolding section_table every section_fits
absent_length = refl

presence_2 : section_table 64 (asked_sections 2 0) ≡ false
unfolding section_table every section_fits
presence_2 = refl

fourteen_words : section_table 64 (replicate 14 0) ≡ false
unfolding section_table every section_fits
fourteen_words = refl

-- Questions 18, 7 and 14, of two files: one of four bytes, the last of which is no UTF-8, and an empty one.
abbrev asked_files : List (List ℕ)
asked_files = (0x61 ∷ 0xC3 ∷ 0xA9 ∷ 0xFF ∷ []) ∷ [] ∷ []

-- The bytes 0 to 2, and none at the end.
abbrev good_names : List ℕ
good_names = 0x1000 ∷ 0 ∷ 3 ∷ 0 ∷ 0x1008 ∷ 4 ∷ 0 ∷ 0 ∷ []

names_inside_lem : names_inside asked_files good_names ≡ true
unfolding names_inside every name_inside file_of
names_inside_lem = refl

names_good_lem : names_utf8 asked_files good_names ≡ true
unfolding names_utf8 every name_utf8 file_of utf8 judge choose
names_good_lem = refl

-- Byte 2 alone is inside, and continues no text.
name_not_utf8 : names_utf8 asked_files (0x1000 ∷ 0 ∷ 3 ∷ 0 ∷ 0x1008 ∷ 2 ∷ 1 ∷ 0 ∷ []) ≡ false
unfolding names_utf8 every name_utf8 file_of utf8 judge choose
name_not_utf8 = refl

name_past_the_end : names_inside asked_files (0x1000 ∷ 4 ∷ 1 ∷ 0 ∷ 0x1008 ∷ 0 ∷ 1 ∷ 0 ∷ []) ≡ false
unfolding names_inside every name_inside file_of
name_past_the_end = refl

-- A name is inside its own file: the same part of the empty one is not.
name_of_other_file : names_inside asked_files (0x1000 ∷ 0 ∷ 3 ∷ 1 ∷ []) ≡ false
unfolding names_inside every name_inside file_of
name_of_other_file = refl

-- A last partial record is none.
partial_record : names_inside asked_files (0x1000 ∷ 0 ∷ 1 ∷ 0 ∷ 0x1008 ∷ 9 ∷ 9 ∷ []) ≡ true
unfolding names_inside every name_inside file_of
partial_record = refl

-- 7 of every record, then 14 of every record: a first name that is not UTF-8, and a second that is outside.
abbrev two_bad_names : List ℕ
two_bad_names = 0x1000 ∷ 3 ∷ 1 ∷ 0 ∷ 0x1008 ∷ 4 ∷ 1 ∷ 0 ∷ []

abbrev no_sections : List ℕ
no_sections = replicate 15 0

seven_of_all_first : asked_opening (tables_of asked_files [] no_sections (replicate 8 0) [] two_bad_names []) ≡ refused NameInside
unfolding asked_opening asked_tables question image_fits longest whole_rows segment_files section_table every section_fits info_whole bind_files names_inside name_inside file_of choose
seven_of_all_first = refl

-- 14 of every record before 8: the index here has no word.
fourteen_before_eight : asked_opening (tables_of asked_files [] no_sections (replicate 8 0) [] (0x1000 ∷ 3 ∷ 1 ∷ 0 ∷ []) []) ≡ refused NameUtf8
unfolding asked_opening asked_tables question image_fits longest whole_rows segment_files section_table every section_fits info_whole bind_files names_inside name_inside names_utf8 name_utf8 file_of utf8 judge choose
fourteen_before_eight = refl

-- Later, of the record used: 7 for one outside, 14 for one that is inside and not UTF-8.
used_not_utf8 : bind_name asked_files two_bad_names 0 ≡ refused NameUtf8
unfolding bind_name question name_inside name_utf8 file_of utf8 judge choose
used_not_utf8 = refl

used_outside : bind_name asked_files two_bad_names 1 ≡ refused NameInside
unfolding bind_name question name_inside file_of choose
used_outside = refl

-- 18 of every segment, also of one that no lookup reaches: the second has no bytes in its file. File 1 is lent, though it is empty.
empty_file_lent : segment_files asked_files (0x1000 ∷ 4 ∷ 0 ∷ 4 ∷ 1 ∷ []) ≡ true
unfolding segment_files every
empty_file_lent = refl

segment_not_lent : segment_files asked_files (0x1000 ∷ 4 ∷ 0 ∷ 4 ∷ 0 ∷ 0x2000 ∷ 4 ∷ 0 ∷ 0 ∷ 2 ∷ []) ≡ false
unfolding segment_files every
segment_not_lent = refl

-- It is asked before 3: here the section table is empty.
eighteen_before_three : asked_tables (tables_of asked_files (0x1000 ∷ 4 ∷ 0 ∷ 4 ∷ 2 ∷ []) [] [] [] [] []) ≡ refused FileLent
unfolding asked_tables question image_fits longest whole_rows segment_files every choose
eighteen_before_three = refl

-- 18 of every bind record before 7 of any, and of the record used before its 7.
abbrev unlent_name : List ℕ
unlent_name = 0x1000 ∷ 4 ∷ 1 ∷ 0 ∷ 0x1008 ∷ 0 ∷ 1 ∷ 2 ∷ []

eighteen_of_all_first : asked_opening (tables_of asked_files [] no_sections (replicate 8 0) [] unlent_name []) ≡ refused FileLent
unfolding asked_opening asked_tables question image_fits longest whole_rows segment_files section_table every section_fits info_whole bind_files choose
eighteen_of_all_first = refl

used_not_lent : bind_name asked_files unlent_name 1 ≡ refused FileLent
unfolding bind_name question choose
used_not_lent = refl
