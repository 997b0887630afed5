-- Worked examples of lists (document 01, Edges, and the listing's ◆ list).
use Prim.Native.Nat.{ℕ, ◌-◌, ◌/◌, ◌%◌, ◌^◌}
use mathlib.Core.Path.{◌≡◌, refl}
use mathlib.Core.List.{List, [], ◌∷◌, map}
use native.Mathlib.Omega.{arith}
use lib.ListN.{length, replicate}
use Rattle.reads.specs.Outcome.{Outcome, value, absent, choose, sum64, nonzero}
use Rattle.reads.specs.declared.answer.Reason.TheVariants.{OddList, ShortEntry}
use Rattle.reads.specs.Files.{file_of}
use Rattle.reads.specs.Segment.{rows, ends, holds, placed, lookup}
use Rattle.reads.specs.Place.{Image, image_of, le, readable_at, readable, word_in, le_in}
use Rattle.reads.specs.Breaks.{can_read, readable_part, breaks, lower, next_break}
use Rattle.pointers.specs.Tables.{Tables, tables_of}
use Rattle.pointers.specs.ImageInfo.{bit}
use Rattle.records.specs.Ask.{even_list, entry_size}
use Rattle.records.specs.List.{method_rows, list_at, decode_list, entry}
use Rattle.records.specs.Search.{first, first_readable, all_from, readables}
use Rattle.records.specs.declared.list.Layout.{Layout}
use Rattle.records.specs.declared.list.ListKind.{ListKind}
use Rattle.records.specs.declared.list.ListKind.TheVariants as list
use Rattle.records.specs.declared.list.RowKind.{RowKind}
use Rattle.records.specs.declared.list.RowKind.TheVariants as row
use Rattle.records.proofs.Firsts.{first_of_more}
use Rattle.records.proofs.HubImage.{counted, bytes, four_files, segments}
use Rattle.records.proofs.Readables.{readables_before_breaks_end}
use Rattle.std.specs.Prelude.{Some}

abbrev laid : ℕ → ℕ → ℕ → RowKind → Layout
laid base size count kind = record { base = base; size = size; count = count; kind = kind }

-- One segment at 0x1000 that maps the whole of one file.
abbrev in_file : List ℕ → Tables
in_file bytes = tables_of (bytes ∷ []) (0x1000 ∷ length bytes ∷ 0 ∷ length bytes ∷ 0 ∷ []) [] [] [] [] []

-- The list at 0x1000 whose header is a word of four bytes and the count 3.
abbrev headed : ListKind → ℕ → Outcome Layout
headed kind w =
    list_at (in_file (w % 256 ∷ w / 2 ^ 8 % 256 ∷ w / 2 ^ 16 % 256 ∷ w / 2 ^ 24 ∷ 3 ∷ 0 ∷ 0 ∷ 0 ∷ [])) kind 0x1000

-- ◆ 27: legacy, 24. ◆ 23: absent. ◆ 0x8000000C: small. ◆ 0x80000008: absent. 0xC000000C: small, with direct selectors.
-- 0x4000001B: legacy, since bit 30 says nothing of it.
pub method_words : map (headed list.Methods) (27 ∷ 23 ∷ 0x8000000C ∷ 0x80000008 ∷ 0xC000000C ∷ 0x4000001B ∷ [])
    ≡ value (laid 0x1008 24 3 row.Legacy)
    ∷ absent ShortEntry
    ∷ value (laid 0x1008 12 3 row.SmallIndirect)
    ∷ absent ShortEntry
    ∷ value (laid 0x1008 12 3 row.SmallDirect)
    ∷ value (laid 0x1008 24 3 row.Legacy)
    ∷ []
unfolding file_of decode_list even_list entry_size method_rows bit nonzero readable readable_at lookup rows ends holds placed sum64 word_in le_in le choose
method_words = refl

-- Of properties and ivars the whole word is the size.
pub property_words : map (headed list.Properties) (27 ∷ 15 ∷ 0x80000010 ∷ [])
    ≡ value (laid 0x1008 27 3 row.Property) ∷ absent ShortEntry ∷ value (laid 0x1008 0x80000010 3 row.Property) ∷ []
unfolding file_of decode_list even_list entry_size nonzero readable readable_at lookup rows ends holds placed sum64 word_in le_in le choose
property_words = refl

pub ivar_words : map (headed list.Ivars) (33 ∷ 31 ∷ []) ≡ value (laid 0x1008 33 3 row.Ivar) ∷ absent ShortEntry ∷ []
unfolding file_of decode_list even_list entry_size nonzero readable readable_at lookup rows ends holds placed sum64 word_in le_in le choose
ivar_words = refl

-- An odd address: absent, except of ivars.
abbrev odd : List ℕ
odd = 0 ∷ 33 ∷ 0 ∷ 0 ∷ 0 ∷ 1 ∷ 0 ∷ 0 ∷ 0 ∷ []

pub odd_lists : map (λ kind. list_at (in_file odd) kind 0x1001) (list.Methods ∷ list.Ivars ∷ list.Properties ∷ [])
    ≡ absent OddList ∷ value (laid 0x1009 33 1 row.Ivar) ∷ absent OddList ∷ []
unfolding file_of decode_list even_list entry_size nonzero readable readable_at lookup rows ends holds placed sum64 word_in le_in le choose
odd_lists = refl

-- ◆ the listing's method list: 4,294,967,295 rows claimed, two readable in 191 bytes.
abbrev pub hub_list : Layout
hub_list = laid 0x1078 24 4294967295 row.Legacy

abbrev pub hub_image : Image
hub_image = image_of (four_files bytes) segments

pub hub_two : readables hub_image hub_list ≡ 0 ∷ 1 ∷ []
unfolding file_of counted all_from entry can_read readable readable_at lookup rows ends holds placed sum64 choose breaks readable_part next_break lower
hub_two = readables_before_breaks_end hub_image hub_list 3 (omega arith) refl

-- Two segments that overlap, the higher first in the table. The first has one byte of the file, so it hides what the second
-- maps between 0x1019 and 0x1048: the second begins below, and can be read again above.
abbrev hidden_image : Image
hidden_image = image_of (replicate 96 0 ∷ []) (0x1018 ∷ 0x30 ∷ 0 ∷ 1 ∷ 0 ∷ 0x1000 ∷ 96 ∷ 0 ∷ 96 ∷ 0 ∷ [])

abbrev hidden : Layout
hidden = laid 0x1008 16 4294967295 row.Property

pub hidden_three : readables hidden_image hidden ≡ 0 ∷ 1 ∷ 4 ∷ []
unfolding file_of all_from entry can_read readable readable_at lookup rows ends holds placed sum64 choose breaks readable_part next_break lower
hidden_three = readables_before_breaks_end hidden_image hidden 6 (omega arith) refl

-- From entry 2 on, the search finds what is no longer hidden.
pub hidden_next : first_readable hidden_image hidden 2 ≡ Some 4
unfolding file_of first_readable first entry can_read readable readable_at lookup rows ends holds placed sum64 choose
hidden_next = first_of_more (entry hidden_image hidden) 3 (4294967295 - 2 - 3) 2 4 refl

-- A list in a file that is longer than the first one (document 02, note 6): of 16 rows of 16 bytes those in its 96 bytes can be read.
abbrev second_image : Image
second_image = image_of (replicate 24 0 ∷ replicate 96 0 ∷ []) (0x1000 ∷ 24 ∷ 0 ∷ 24 ∷ 0 ∷ 0x2000 ∷ 0x100 ∷ 0 ∷ 0x100 ∷ 1 ∷ [])

abbrev second : Layout
second = laid 0x2008 16 16 row.Property

pub second_five : readables second_image second ≡ 0 ∷ 1 ∷ 2 ∷ 3 ∷ 4 ∷ []
unfolding readables all_from entry can_read readable readable_at file_of lookup rows ends holds placed sum64 choose
second_five = refl
