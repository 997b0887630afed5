-- Worked cases of absences (document 02, note 2): for each record, row and list the reasons that it can be absent for, in the order of its
-- lookups. A name or selector at +0 of bytes that were just read resolves (pointers/proofs/Resolves.antt), so its slot is no case.
use Prim.Native.Nat.{ℕ, ◌-◌, ◌^◌}
use mathlib.Core.Path.{◌≡◌, refl}
use mathlib.Core.Bool.{false}
use mathlib.Core.List.{List, [], ◌∷◌, ◌++◌}
use lib.ListN.{replicate}
use Rattle.reads.specs.Address.{stripped, data_arm64e, data64, mapped, picked_wide, picked}
use Rattle.reads.specs.Outcome.{absent, choose, nonzero, sum64}
use Rattle.reads.specs.Files.{file_of}
use Rattle.reads.specs.Place.{le, readable_at, readable, word, word_in, le_in}
use Rattle.reads.specs.Relative.{signed32, signed_in, modulo64, relative}
use Rattle.reads.specs.Segment.{rows, ends, holds, placed, lookup}
use Rattle.reads.specs.Signed.{twos}
use Rattle.reads.specs.Table.{tabulate}
use Rattle.reads.specs.Text.{text, text_from, text_in}
use Rattle.reads.specs.Utf8.{judge}
use Rattle.reads.specs.declared.answer.Reason.TheVariants.{NullAddress, Unmapped, NotUtf8, NoData, Unresolved, Unreadable, FieldOverflow, OddList, ShortEntry}
use Rattle.pointers.specs.Chain.{follow_from, follow}
use Rattle.pointers.specs.ImageInfo.{image_info, bit}
use Rattle.pointers.specs.Slot.{rebase_at, bind_at, symbol_of, stored, resolve, pointer_at, pointer_or0_at}
use Rattle.pointers.specs.Tables.{Tables, tables_of}
use Rattle.records.specs.Ask.{even_list, entry_size}
use Rattle.records.specs.Class.{class_at, class_ro_at, ro_of, class_name_at, class_name_of, bits_of, decode_data, decode_class, decode_ro_lists, decode_class_ro, decode_ro_of, decode_ro_data, decode_class_name, decode_nonzero_class_name, decode_bound_name, decode_class_name_of}
use Rattle.records.specs.Category.{category_at, decode_category_properties, decode_category_lists, decode_category_of, decode_category}
use Rattle.records.specs.List.{method_rows, list_at, decode_list}
use Rattle.records.specs.Protocol.{protocol_at, decode_trailing, decode_class_properties, decode_protocol_lists, decode_protocol}
use Rattle.records.specs.declared.method.Selectors.TheVariants.{Indirect, Direct}
use Rattle.records.specs.Row.{legacy_method_at, small_method_at, ivar_at, property_at, decode_legacy_method, decode_small_texts, decode_small_method, decode_offset, decode_ivar, decode_property}
use Rattle.records.specs.declared.list.ListKind.TheVariants.{Methods, Ivars, Properties}

-- Bytes whose first `size` are mapped at va: of a record that begins there only the first byte is looked up, so a later field may lie outside.
abbrev mapped_at : List ℕ → ℕ → ℕ → Tables
mapped_at bytes va size = tables_of (bytes ∷ []) (va ∷ size ∷ 0 ∷ size ∷ 0 ∷ []) (replicate 15 0) (replicate 8 0) [] [] []

abbrev zeros : ℕ → ℕ → ℕ → Tables
zeros n va size = mapped_at (replicate n 0) va size

-- k below the last address: the field at +k passes 64 bits.
abbrev top : ℕ → ℕ
top k = 2 ^ 64 - k

-- 40 bytes; +8 and +32; the bits word.
class_reasons : class_at (zeros 39 0x1000 39) 0x1000 false
    ∷ class_at (zeros 40 (top 8) 7) (top 8) false
    ∷ class_at (zeros 40 (top 32) 31) (top 32) false
    ∷ class_at (zeros 40 0x1000 32) 0x1000 false
    ∷ []
    ≡ absent Unreadable ∷ absent FieldOverflow ∷ absent FieldOverflow ∷ absent Unreadable ∷ []
unfolding file_of decode_class decode_data bits_of readable readable_at lookup rows tabulate ends holds placed sum64 resolve rebase_at follow follow_from stored stripped word le nonzero choose
class_reasons = refl

-- 72 bytes; +16; +24; the name slot; +64, before the name's string; the string's.
class_ro_reasons : class_ro_at (zeros 71 0x1000 71) 0x1000
    ∷ class_ro_at (zeros 72 (top 16) 15) (top 16)
    ∷ class_ro_at (zeros 72 (top 24) 23) (top 24)
    ∷ class_ro_at (zeros 72 0x1000 24) 0x1000
    ∷ class_ro_at (zeros 72 (top 64) 63) (top 64)
    ∷ class_ro_at (zeros 72 0x1000 72) 0x1000
    ∷ []
    ≡ absent Unreadable ∷ absent FieldOverflow ∷ absent FieldOverflow ∷ absent Unresolved ∷ absent FieldOverflow ∷ absent NullAddress ∷ []
unfolding file_of decode_class_ro decode_ro_lists pointer_at pointer_or0_at readable readable_at lookup rows tabulate ends holds placed sum64 resolve rebase_at follow follow_from stored stripped word word_in le_in le text_in nonzero choose
class_ro_reasons = refl

-- The bits word of a class, 7, picks nothing.
no_data : (address isa superclass : ℕ) → ro_of (zeros 0 0 0) (record { address = address; isa = isa; superclass_address = superclass; bits = 7; is_meta = false }) ≡ absent NoData
unfolding decode_ro_of picked picked_wide mapped data_arm64e data64 lookup rows nonzero choose
no_data address isa superclass = refl

-- A class at 0x7FE0, its bits word at 0x8000 in chain 0 of the index, with a rebase target there.
abbrev rebased : ℕ → Tables
rebased target = tables_of (replicate 40 0 ∷ []) (0x7FE0 ∷ 40 ∷ 0 ∷ 40 ∷ 0 ∷ []) (replicate 15 0) (replicate 8 0) (0x8000 ∷ target ∷ []) [] (1 ∷ [])

-- 40 bytes; +32; without rebase the word, and its pick; with one +24, the name slot, the string's.
class_name_reasons : class_name_at (zeros 39 0x1000 39) 0x1000
    ∷ class_name_at (zeros 40 (top 32) 31) (top 32)
    ∷ class_name_at (zeros 40 0x1000 32) 0x1000
    ∷ class_name_at (zeros 40 0x1000 40) 0x1000
    ∷ class_name_at (rebased (top 24)) 0x7FE0
    ∷ class_name_at (rebased 0x9000) 0x7FE0
    ∷ class_name_at (rebased 0x7FE0) 0x7FE0
    ∷ []
    ≡ absent Unreadable ∷ absent FieldOverflow ∷ absent Unreadable ∷ absent NoData ∷ absent FieldOverflow ∷ absent Unresolved ∷ absent NullAddress ∷ []
unfolding file_of decode_class_name decode_ro_data picked picked_wide mapped data_arm64e data64 pointer_at readable readable_at lookup rows tabulate ends holds placed sum64 resolve rebase_at follow follow_from stored stripped word le text_in nonzero choose
class_name_reasons = refl

-- A superclass's or host class's name that no bind gives either: the reason is why the class's own is missing. A class at 0; one that is not
-- mapped; one whose bits word picks nothing.
host_name_reasons : class_name_of (zeros 40 0x1000 40) 0x1000 0
    ∷ class_name_of (zeros 40 0x1000 40) 0x1000 0x2000
    ∷ class_name_of (zeros 40 0x1000 40) 0x1000 0x1000
    ∷ []
    ≡ absent NullAddress ∷ absent Unreadable ∷ absent NoData ∷ []
unfolding file_of decode_class_name_of decode_nonzero_class_name decode_bound_name decode_class_name decode_ro_data picked picked_wide mapped data_arm64e data64 symbol_of bind_at readable readable_at lookup rows tabulate ends holds placed sum64 rebase_at follow follow_from word le nonzero choose
host_name_reasons = refl

-- A protocol of size 96 with the name `P` at 0x100, the name's segment after its own.
abbrev sized_bytes : List ℕ
sized_bytes = replicate 9 0 ++ (1 ∷ replicate 54 0) ++ (96 ∷ replicate 7 0) ++ (80 ∷ 0 ∷ [])

abbrev sized_at : ℕ → ℕ → Tables
sized_at va size = tables_of (sized_bytes ∷ []) (va ∷ size ∷ 0 ∷ size ∷ 0 ∷ 0x100 ∷ 2 ∷ 72 ∷ 2 ∷ 0 ∷ []) (replicate 15 0) (replicate 8 0) [] [] []

-- 72 bytes; +8; the name slot; +16, before the name's string; the string's; with size 96 the field at +88, and its bytes.
protocol_reasons : protocol_at (zeros 71 0x1000 71) 0x1000
    ∷ protocol_at (zeros 72 (top 8) 7) (top 8)
    ∷ protocol_at (zeros 72 0x1000 8) 0x1000
    ∷ protocol_at (zeros 72 (top 16) 15) (top 16)
    ∷ protocol_at (zeros 72 0x1000 72) 0x1000
    ∷ protocol_at (sized_at (top 88) 87) (top 88)
    ∷ protocol_at (sized_at 0x1000 72) 0x1000
    ∷ []
    ≡ absent Unreadable ∷ absent FieldOverflow ∷ absent Unresolved ∷ absent FieldOverflow ∷ absent NullAddress ∷ absent FieldOverflow ∷ absent Unreadable ∷ []
unfolding file_of decode_protocol decode_protocol_lists decode_class_properties decode_trailing pointer_at pointer_or0_at readable readable_at lookup rows tabulate ends holds placed sum64 resolve rebase_at follow follow_from stored stripped word word_in le_in le text_in text_from text judge nonzero choose
protocol_reasons = refl

-- 48 bytes; +8, before the name's string; the string's.
category_reasons : category_at (zeros 47 0x1000 47) 0x1000
    ∷ category_at (zeros 48 (top 8) 7) (top 8)
    ∷ category_at (zeros 48 0x1000 48) 0x1000
    ∷ []
    ≡ absent Unreadable ∷ absent FieldOverflow ∷ absent NullAddress ∷ []
unfolding file_of decode_category decode_category_of decode_category_lists decode_category_properties image_info bit pointer_or0_at readable readable_at lookup rows tabulate ends holds placed sum64 resolve rebase_at follow follow_from stored stripped word le text_in nonzero choose
category_reasons = refl

-- 24 bytes; +8; the types slot; +16, before the selector's string; the string's.
legacy_reasons : legacy_method_at (zeros 23 0x1000 23) 0x1000
    ∷ legacy_method_at (zeros 24 (top 8) 7) (top 8)
    ∷ legacy_method_at (zeros 24 0x1000 8) 0x1000
    ∷ legacy_method_at (zeros 24 (top 16) 15) (top 16)
    ∷ legacy_method_at (zeros 24 0x1000 24) 0x1000
    ∷ []
    ≡ absent Unreadable ∷ absent FieldOverflow ∷ absent Unresolved ∷ absent FieldOverflow ∷ absent NullAddress ∷ []
unfolding file_of decode_legacy_method pointer_at pointer_or0_at readable readable_at lookup rows tabulate ends holds placed sum64 resolve rebase_at follow follow_from stored stripped word le text_in nonzero choose
legacy_reasons = refl

-- A small method whose selector's offset has these two low bytes; its other offsets are 0.
abbrev small_bytes : ℕ → ℕ → List ℕ
small_bytes low high = low ∷ high ∷ replicate 10 0

-- 12 bytes; +4 and +8; the slot of an indirect selector; the string of a direct one, not mapped, and not UTF-8.
small_reasons : small_method_at (zeros 11 0x1000 11) 0x1000 Direct
    ∷ small_method_at (zeros 12 (top 4) 3) (top 4) Direct
    ∷ small_method_at (zeros 12 (top 8) 7) (top 8) Direct
    ∷ small_method_at (mapped_at (small_bytes 0 1) 0x1000 12) 0x1000 Indirect
    ∷ small_method_at (mapped_at (small_bytes 0 1) 0x1000 12) 0x1000 Direct
    ∷ small_method_at (mapped_at (small_bytes 12 0 ++ (0x61 ∷ 0xE2 ∷ 0x28 ∷ 0 ∷ [])) 0x1000 16) 0x1000 Direct
    ∷ []
    ≡ absent Unreadable ∷ absent FieldOverflow ∷ absent FieldOverflow ∷ absent Unresolved ∷ absent Unmapped ∷ absent (NotUtf8 2) ∷ []
unfolding file_of decode_small_method decode_small_texts signed_in signed32 twos modulo64 relative readable readable_at lookup rows tabulate ends holds placed sum64 resolve rebase_at follow follow_from stored stripped word word_in le_in le text_in text_from text judge nonzero choose
small_reasons = refl

-- 32 bytes; +8; the name slot; +16, before the name's string; the string's.
ivar_reasons : ivar_at (zeros 31 0x1000 31) 0x1000
    ∷ ivar_at (zeros 32 (top 8) 7) (top 8)
    ∷ ivar_at (zeros 32 0x1000 8) 0x1000
    ∷ ivar_at (zeros 32 (top 16) 15) (top 16)
    ∷ ivar_at (zeros 32 0x1000 32) 0x1000
    ∷ []
    ≡ absent Unreadable ∷ absent FieldOverflow ∷ absent Unresolved ∷ absent FieldOverflow ∷ absent NullAddress ∷ []
unfolding file_of decode_ivar decode_offset pointer_at pointer_or0_at readable readable_at lookup rows tabulate ends holds placed sum64 resolve rebase_at follow follow_from stored stripped word word_in le_in le text_in nonzero choose
ivar_reasons = refl

-- 16 bytes; +8, before the name's string; the string's.
property_reasons : property_at (zeros 15 0x1000 15) 0x1000
    ∷ property_at (zeros 16 (top 8) 7) (top 8)
    ∷ property_at (zeros 16 0x1000 16) 0x1000
    ∷ []
    ≡ absent Unreadable ∷ absent FieldOverflow ∷ absent NullAddress ∷ []
unfolding file_of decode_property pointer_or0_at readable readable_at lookup rows tabulate ends holds placed sum64 resolve rebase_at follow follow_from stored stripped word le text_in nonzero choose
property_reasons = refl

-- At 0; odd, but for ivars, whose header is then read; 8 bytes; an entry size of 0; address + 8, after the entry size.
list_reasons : list_at (zeros 8 0x1000 8) Methods 0
    ∷ list_at (zeros 8 0x1000 8) Properties 0x1001
    ∷ list_at (zeros 8 0x1000 8) Ivars 0x1001
    ∷ list_at (zeros 7 0x1000 7) Methods 0x1000
    ∷ list_at (zeros 8 (top 8) 7) Methods (top 8)
    ∷ list_at (mapped_at (24 ∷ replicate 7 0) (top 8) 7) Methods (top 8)
    ∷ []
    ≡ absent NullAddress ∷ absent OddList ∷ absent Unreadable ∷ absent Unreadable ∷ absent ShortEntry ∷ absent FieldOverflow ∷ []
unfolding file_of decode_list even_list entry_size method_rows bit readable readable_at lookup rows tabulate ends holds placed sum64 word_in le_in le nonzero choose
list_reasons = refl
