-- Worked cases: a file of 584 bytes with two segments and five sections, and broken copies of it.
use Prim.Native.Nat.{ℕ, ◌-◌, ◌*◌, ◌/◌, ◌%◌, ◌^◌}
use mathlib.Core.Path.{◌≡◌, refl}
use mathlib.Core.List.{List, [], ◌∷◌, ◌++◌}
use lib.ListN.{length, take, replicate}
use Rattle.reads.specs.Outcome.{value, refused, choose}
use Rattle.reads.specs.Files.{longest}
use Rattle.reads.specs.Segment.{segment_words}
use Rattle.reads.specs.Place.{le, le_in}
use Rattle.pointers.specs.ImageInfo.{info_of, image_info}
use Rattle.pointers.specs.Open.{asked_opening, opening}
use Rattle.pointers.specs.Question.{question, image_fits, whole_rows, section_fits, every, segment_files, section_table, info_whole, bind_files, names_inside, names_utf8, index_fits, asked_tables, asked_index}
use Rattle.pointers.specs.Symbol.{ascii, starts}
use Rattle.pointers.specs.Tables.{chains}
use Rattle.macho.specs.Commands.{headed, sectioned, fits, all_fit, asked_commands, of_kind}
use Rattle.macho.specs.Segments.{segment_rows, written}
use Rattle.macho.specs.Sections.{headers_from, sections_of, named, first_named, section_row, section_rows}
use Rattle.macho.specs.FileTables.{over_file, file_tables}
use Rattle.macho.specs.OpenFile.{segment_table_words, asked_lent, asked_file, opening_file, segments_left}
use Rattle.reads.specs.declared.answer.Question.TheVariants.{SegmentTable, SectionTable, ImageInfoLength, Header, LoadCommands}

-- Numbers in little-endian order.
unfoldable pub u32 : ℕ → List ℕ
u32 n = n % 256 ∷ n / 256 % 256 ∷ n / 2 ^ 16 % 256 ∷ n / 2 ^ 24 % 256 ∷ []

unfoldable pub u64 : ℕ → List ℕ
u64 n = u32 (n % 2 ^ 32) ++ u32 (n / 2 ^ 32)

-- mach_header_64, with a magic, ncmds and sizeofcmds.
unfoldable pub header : ℕ → ℕ → ℕ → List ℕ
header magic count size = u32 magic ++ u32 0x100000C ++ u32 0 ++ u32 2 ++ u32 count ++ u32 size ++ u32 0 ++ u32 0

-- segment_command_64, with its cmdsize.
unfoldable pub command : ℕ → ℕ → ℕ → ℕ → ℕ → ℕ → List ℕ
command size vmaddr vmsize fileoff filesize sections =
    u32 0x19 ++ u32 size ++ replicate 16 0 ++ u64 vmaddr ++ u64 vmsize ++ u64 fileoff ++ u64 filesize ++ u32 7 ++ u32 5 ++ u32 sections ++ u32 0

-- section_64.
unfoldable pub section : List ℕ → ℕ → ℕ → ℕ → List ℕ
section name addr size offset = name ++ replicate (16 - length name) 0 ++ replicate 16 0 ++ u64 addr ++ u64 size ++ u32 offset ++ replicate 28 0

-- A name that another starts with (__objc_catlist and __objc_catlist2), and a name twice (__objc_classlist).
sections : ℕ → ℕ → List ℕ
sections info_at protocols =
    section (ascii "__objc_catlist2") 0x1100 8 544
    ++ section (ascii "__objc_classlist") 0x1000 16 552
    ++ section (ascii "__objc_imageinfo") 0x1020 8 info_at
    ++ section (ascii "__objc_classlist") 0x2000 24 552
    ++ section (ascii "__objc_protolist") 0x1040 protocols 568

-- Two segments, and 8 bytes of image info at 576.
commands : ℕ → ℕ → ℕ → List ℕ
commands size info_at protocols = command 72 0 0x1000 0 0x240 0 ++ command size 0x1000 0x2000 0x240 0x40 5 ++ sections info_at protocols

-- With a magic, a number of commands, their size, the second command's own size, the offset of the image info, and the size of
-- __objc_protolist.
pub made : ℕ → ℕ → ℕ → ℕ → ℕ → ℕ → List ℕ
made magic count all size info_at protocols = header magic count all ++ commands size info_at protocols ++ u32 0 ++ u32 0x40

pub good : List ℕ
good = made 0xFEEDFACF 2 544 472 576 0

length_good : length good ≡ 584
unfolding good made header commands command sections section u32 u64
length_good = refl

-- The tables: both segments; the first __objc_classlist; no __objc_catlist, though __objc_catlist2 starts with that name.
pub tables_case : (rebases binds index : List ℕ) → file_tables good rebases binds index
    ≡ over_file good
    (0 ∷ 0x1000 ∷ 0 ∷ 0x240 ∷ 0 ∷ 0x1000 ∷ 0x2000 ∷ 0x240 ∷ 0x40 ∷ 0 ∷ [])
    (1 ∷ 0x1000 ∷ 16 ∷ 0 ∷ 0 ∷ 0 ∷ 0 ∷ 0 ∷ 0 ∷ 0 ∷ 0 ∷ 0 ∷ 1 ∷ 0x1040 ∷ 0 ∷ [])
    (0 ∷ 0 ∷ 0 ∷ 0 ∷ 0x40 ∷ 0 ∷ 0 ∷ 0 ∷ [])
    rebases binds index
unfolding file_tables good made header commands command sections section u32 u64 le_in le fits sectioned of_kind segment_rows headers_from sections_of named starts first_named section_row section_rows choose
tables_case rebases binds index = refl

-- 15: 31 bytes; the magic of a 32-bit file.
pub short_case : (segments sections rebases binds index : List ℕ) → opening_file (take 31 good) segments sections rebases binds index ≡ refused Header
unfolding good made header commands command sections section u32 u64 le_in le choose opening_file asked_file asked_commands asked_lent question headed
short_case segments sections rebases binds index = refl

pub magic_case : (segments sections rebases binds index : List ℕ) → opening_file (made 0xFEEDFACE 2 544 472 576 0) segments sections rebases binds index ≡ refused Header
unfolding good made header commands command sections section u32 u64 le_in le choose opening_file asked_file asked_commands asked_lent question headed
magic_case segments sections rebases binds index = refl

-- 16: a command outside the stated size; outside the file; one more than there are; one of 7 bytes; one too small for its sections.
pub outside_size_case : (segments sections rebases binds index : List ℕ) → opening_file (made 0xFEEDFACF 2 543 472 576 0) segments sections rebases binds index ≡ refused LoadCommands
unfolding good made header commands command sections section u32 u64 le_in le choose opening_file asked_file asked_commands asked_lent question headed all_fit fits sectioned image_fits
outside_size_case segments sections rebases binds index = refl

pub outside_file_case : (segments sections rebases binds index : List ℕ) → opening_file (take 500 good) segments sections rebases binds index ≡ refused LoadCommands
unfolding good made header commands command sections section u32 u64 le_in le choose opening_file asked_file asked_commands asked_lent question headed all_fit fits sectioned image_fits
outside_file_case segments sections rebases binds index = refl

pub too_many_case : (segments sections rebases binds index : List ℕ) → opening_file (made 0xFEEDFACF 3 544 472 576 0) segments sections rebases binds index ≡ refused LoadCommands
unfolding good made header commands command sections section u32 u64 le_in le choose opening_file asked_file asked_commands asked_lent question headed all_fit fits sectioned image_fits
too_many_case segments sections rebases binds index = refl

pub seven_case : (segments sections rebases binds index : List ℕ) → opening_file (made 0xFEEDFACF 2 544 7 576 0) segments sections rebases binds index ≡ refused LoadCommands
unfolding good made header commands command sections section u32 u64 le_in le choose opening_file asked_file asked_commands asked_lent question headed all_fit fits sectioned image_fits
seven_case segments sections rebases binds index = refl

pub sections_case : (segments sections rebases binds index : List ℕ) → opening_file (made 0xFEEDFACF 2 544 471 576 0) segments sections rebases binds index ≡ refused LoadCommands
unfolding good made header commands command sections section u32 u64 le_in le choose opening_file asked_file asked_commands asked_lent question headed all_fit fits sectioned image_fits
sections_case segments sections rebases binds index = refl

-- 2 and 3: a word too few lent for the segments, with 14 for the sections; 14 for the sections.
pub lent_segments_case : (rebases binds index : List ℕ) → opening_file good (replicate (segment_table_words - 1) 0) (replicate 14 0) rebases binds index ≡ refused SegmentTable
unfolding good made header commands command sections section u32 u64 le_in le choose opening_file asked_file asked_commands asked_lent question headed all_fit fits sectioned image_fits of_kind
lent_segments_case rebases binds index = refl

pub lent_sections_case : (rebases binds index : List ℕ) → opening_file good (replicate segment_table_words 0) (replicate 14 0) rebases binds index ≡ refused SectionTable
unfolding good made header commands command sections section u32 u64 le_in le choose opening_file asked_file asked_commands asked_lent question headed all_fit fits sectioned image_fits of_kind
lent_sections_case rebases binds index = refl

-- 3: a section longer than the file, 585 bytes of 584.
pub long_section_case : (rebases binds index : List ℕ) → opening_file (made 0xFEEDFACF 2 544 472 576 585) (replicate segment_table_words 0) (replicate 15 0) rebases binds index ≡ refused SectionTable
unfolding good made header commands command sections section u32 u64 le_in le choose opening_file asked_file asked_commands asked_lent question headed all_fit fits sectioned image_fits of_kind file_tables segment_rows headers_from sections_of named starts first_named section_row section_rows opening asked_opening asked_tables whole_rows segment_files longest section_table every section_fits
long_section_case rebases binds index = refl

-- 4: no section of image info; seven bytes of it before the file's end.
pub no_info_case : (rebases binds index : List ℕ) → opening_file (made 0xFEEDFACF 1 544 472 576 0) (replicate segment_table_words 0) (replicate 15 0) rebases binds index ≡ refused ImageInfoLength
unfolding good made header commands command sections section u32 u64 le_in le choose opening_file asked_file asked_commands asked_lent question headed all_fit fits sectioned image_fits of_kind file_tables segment_rows headers_from sections_of named starts first_named section_row section_rows opening asked_opening asked_tables whole_rows segment_files longest section_table every section_fits info_whole
no_info_case rebases binds index = refl

pub cut_info_case : (rebases binds index : List ℕ) → opening_file (made 0xFEEDFACF 2 544 472 577 0) (replicate segment_table_words 0) (replicate 15 0) rebases binds index ≡ refused ImageInfoLength
unfolding good made header commands command sections section u32 u64 le_in le choose opening_file asked_file asked_commands asked_lent question headed all_fit fits sectioned image_fits of_kind file_tables segment_rows headers_from sections_of named starts first_named section_row section_rows opening asked_opening asked_tables whole_rows segment_files longest section_table every section_fits info_whole
cut_info_case rebases binds index = refl

-- The file itself: two segments, and image info at 576. Bytes that sizeofcmds counts after the last command are no matter.
pub opened_case : opening_file good (replicate segment_table_words 7) (replicate 15 7) [] [] (replicate (2 * chains) 0)
    ≡ value (record { segments = 2; info = info_of 0 0x40; info_at = 576; info_len = 8 })
unfolding good made header commands command sections section u32 u64 le_in le choose opening_file asked_file asked_commands asked_lent question headed all_fit fits sectioned image_fits of_kind file_tables segment_rows headers_from sections_of named starts first_named section_row section_rows opening asked_opening asked_tables whole_rows segment_files longest section_table every section_fits info_whole bind_files names_inside names_utf8 asked_index index_fits image_info
opened_case = refl

pub spare_case : opening_file (made 0xFEEDFACF 2 552 472 576 0) (replicate segment_table_words 7) (replicate 15 7) [] [] (replicate (2 * chains) 0)
    ≡ value (record { segments = 2; info = info_of 0 0x40; info_at = 576; info_len = 8 })
unfolding good made header commands command sections section u32 u64 le_in le choose opening_file asked_file asked_commands asked_lent question headed all_fit fits sectioned image_fits of_kind file_tables segment_rows headers_from sections_of named starts first_named section_row section_rows opening asked_opening asked_tables whole_rows segment_files longest section_table every section_fits info_whole bind_files names_inside names_utf8 asked_index index_fits image_info
spare_case = refl

-- Its rows at the start of the segment table, and the words past them as they were; with 3 all words as they were.
pub segments_left_case : segments_left good (replicate segment_table_words 7) (replicate 15 7) [] [] (replicate (2 * chains) 0)
    ≡ 0 ∷ 0x1000 ∷ 0 ∷ 0x240 ∷ 0 ∷ 0x1000 ∷ 0x2000 ∷ 0x240 ∷ 0x40 ∷ 0 ∷ replicate (segment_table_words - 2 * segment_words) 7
unfolding segments_left written good made header commands command sections section u32 u64 le_in le choose opening_file asked_file asked_commands asked_lent question headed all_fit fits sectioned image_fits of_kind file_tables segment_rows headers_from sections_of named starts first_named section_row section_rows opening asked_opening asked_tables whole_rows segment_files longest section_table every section_fits info_whole bind_files names_inside names_utf8 asked_index index_fits image_info
segments_left_case = refl

pub segments_kept_case : (rebases binds index : List ℕ) → segments_left (made 0xFEEDFACF 2 544 472 576 585) (replicate segment_table_words 7) (replicate 15 7) rebases binds index ≡ replicate segment_table_words 7
unfolding segments_left written good made header commands command sections section u32 u64 le_in le choose opening_file asked_file asked_commands asked_lent question headed all_fit fits sectioned image_fits of_kind file_tables segment_rows headers_from sections_of named starts first_named section_row section_rows opening asked_opening asked_tables whole_rows segment_files longest section_table every section_fits
segments_kept_case rebases binds index = refl
