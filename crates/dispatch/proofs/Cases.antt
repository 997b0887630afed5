-- Worked cases: an image over two files, with two classes and three categories, of which one is listed twice; and rows alone.
use Prim.Native.Nat.{ℕ, ◌+◌, ◌*◌}
use mathlib.Core.Path.{◌≡◌, refl}
use mathlib.Core.List.{List, [], ◌∷◌, ◌++◌, map}
use lib.ListN.{replicate}
use Rattle.reads.specs.Breaks.{can_read}
use Rattle.reads.specs.Outcome.{value, absent, refused, choose, sum64, nonzero, text_of}
use Rattle.reads.specs.Files.{file_of, longest}
use Rattle.reads.specs.Place.{le, readable_at, readable, word, word_in, le_in}
use Rattle.reads.specs.Address.{stripped, data_arm64e, data64, mapped, picked_wide, picked}
use Rattle.reads.specs.Relative.{slot_address}
use Rattle.reads.specs.Segment.{rows, ends, holds, placed, lookup}
use Rattle.reads.specs.Text.{text, text_from, text_in}
use Rattle.reads.specs.Utf8.{judge, utf8}
use Rattle.reads.specs.declared.answer.Reason.TheVariants.{Unreadable}
use Rattle.pointers.specs.Chain.{follow_from, follow}
use Rattle.pointers.specs.ImageInfo.{image_info, bit}
use Rattle.pointers.specs.Question.{question, image_fits, whole_rows, segment_files, section_fits, every, section_table, info_whole, index_fits, asked_tables, asked_index, asked_lent}
use Rattle.pointers.specs.Section.{section_at}
use Rattle.pointers.specs.Slot.{rebase_at, stored, resolve, pointer_at, pointer_or0_at}
use Rattle.pointers.specs.Tables.{Tables, chains, tables_of}
use Rattle.records.specs.Ask.{even_list, entry_size}
use Rattle.records.specs.Category.{decode_category_lists, decode_category_properties, decode_category_of, decode_category}
use Rattle.records.specs.Class.{bits_of, decode_data, decode_class, decode_ro_lists, decode_class_ro, decode_ro_of}
use Rattle.records.specs.List.{method_rows, decode_list, entry}
use Rattle.records.specs.Row.{legacy_imp, decode_legacy_method, decode_row}
use Rattle.records.specs.Search.{all_from, readables}
use Rattle.walks.specs.Gather.{gather}
use Rattle.walks.specs.PlainSections.{addresses_in, without, once, listed, plain_categories}
use Rattle.walks.specs.Sections.{meta_of}
use Rattle.walks.specs.Slots.{slots_from, section_slots, decode_address}
use Rattle.dispatch.specs.declared.sources.Side.{Side}
use Rattle.dispatch.specs.declared.sources.Side.TheVariants.{Instance, Class}
use Rattle.dispatch.specs.declared.rows.Appearance.{Appearance}
use Rattle.dispatch.specs.Sources.{list_of, metaclass_of, own_source, methods_on, of_class}
use Rattle.dispatch.specs.Appearances.{appearance, entry_rows, list_rows, source_rows, category_rows, appearances}
use Rattle.dispatch.specs.Dispatch.{same_bytes, same_selector, comes_before, has_earlier, firsts, supersedes, standing, standing_for, effective_of, effective_among, effective, words, filled, Left, leaves, left}
use Rattle.reads.specs.declared.answer.Question.TheVariants.{SelectorRoom}

-- class_t at 0x1000, with isa 0x1028 and class_ro 0x1050; at 0x1028 another, with isa 0 and no class_ro.
abbrev classes_bytes : List ℕ
classes_bytes =
    40 ∷ 16 ∷ 0 ∷ 0 ∷ 0 ∷ 0 ∷ 0 ∷ 0
    ∷ 0 ∷ 0 ∷ 0 ∷ 0 ∷ 0 ∷ 0 ∷ 0 ∷ 0
    ∷ 0 ∷ 0 ∷ 0 ∷ 0 ∷ 0 ∷ 0 ∷ 0 ∷ 0
    ∷ 0 ∷ 0 ∷ 0 ∷ 0 ∷ 0 ∷ 0 ∷ 0 ∷ 0
    ∷ 80 ∷ 16 ∷ 0 ∷ 0 ∷ 0 ∷ 0 ∷ 0 ∷ 0
    ∷ 0 ∷ 0 ∷ 0 ∷ 0 ∷ 0 ∷ 0 ∷ 0 ∷ 0
    ∷ 0 ∷ 0 ∷ 0 ∷ 0 ∷ 0 ∷ 0 ∷ 0 ∷ 0
    ∷ 0 ∷ 0 ∷ 0 ∷ 0 ∷ 0 ∷ 0 ∷ 0 ∷ 0
    ∷ 0 ∷ 0 ∷ 0 ∷ 0 ∷ 0 ∷ 0 ∷ 0 ∷ 0
    ∷ 0 ∷ 0 ∷ 0 ∷ 0 ∷ 0 ∷ 0 ∷ 0 ∷ 0
    ∷ []

-- class_ro_t at 0x1050, with name 0x2006 and methods 0x1098: there "up", "go" and "up" again.
abbrev ro_bytes : List ℕ
ro_bytes =
    0 ∷ 0 ∷ 0 ∷ 0 ∷ 0 ∷ 0 ∷ 0 ∷ 0
    ∷ 0 ∷ 0 ∷ 0 ∷ 0 ∷ 0 ∷ 0 ∷ 0 ∷ 0
    ∷ 0 ∷ 0 ∷ 0 ∷ 0 ∷ 0 ∷ 0 ∷ 0 ∷ 0
    ∷ 6 ∷ 32 ∷ 0 ∷ 0 ∷ 0 ∷ 0 ∷ 0 ∷ 0
    ∷ 152 ∷ 16 ∷ 0 ∷ 0 ∷ 0 ∷ 0 ∷ 0 ∷ 0
    ∷ 0 ∷ 0 ∷ 0 ∷ 0 ∷ 0 ∷ 0 ∷ 0 ∷ 0
    ∷ 0 ∷ 0 ∷ 0 ∷ 0 ∷ 0 ∷ 0 ∷ 0 ∷ 0
    ∷ 0 ∷ 0 ∷ 0 ∷ 0 ∷ 0 ∷ 0 ∷ 0 ∷ 0
    ∷ 0 ∷ 0 ∷ 0 ∷ 0 ∷ 0 ∷ 0 ∷ 0 ∷ 0
    ∷ 24 ∷ 0 ∷ 0 ∷ 0 ∷ 3 ∷ 0 ∷ 0 ∷ 0
    ∷ 0 ∷ 32 ∷ 0 ∷ 0 ∷ 0 ∷ 0 ∷ 0 ∷ 0
    ∷ 0 ∷ 0 ∷ 0 ∷ 0 ∷ 0 ∷ 0 ∷ 0 ∷ 0
    ∷ 0 ∷ 0 ∷ 0 ∷ 0 ∷ 0 ∷ 0 ∷ 0 ∷ 0
    ∷ 3 ∷ 32 ∷ 0 ∷ 0 ∷ 0 ∷ 0 ∷ 0 ∷ 0
    ∷ 0 ∷ 0 ∷ 0 ∷ 0 ∷ 0 ∷ 0 ∷ 0 ∷ 0
    ∷ 0 ∷ 0 ∷ 0 ∷ 0 ∷ 0 ∷ 0 ∷ 0 ∷ 0
    ∷ 0 ∷ 32 ∷ 0 ∷ 0 ∷ 0 ∷ 0 ∷ 0 ∷ 0
    ∷ 0 ∷ 0 ∷ 0 ∷ 0 ∷ 0 ∷ 0 ∷ 0 ∷ 0
    ∷ 0 ∷ 0 ∷ 0 ∷ 0 ∷ 0 ∷ 0 ∷ 0 ∷ 0
    ∷ []

-- category_t at 0x10E8 and 0x1118, A and B, of the class at 0x1000.
abbrev categories_bytes : List ℕ
categories_bytes =
    6 ∷ 32 ∷ 0 ∷ 0 ∷ 0 ∷ 0 ∷ 0 ∷ 0
    ∷ 0 ∷ 16 ∷ 0 ∷ 0 ∷ 0 ∷ 0 ∷ 0 ∷ 0
    ∷ 72 ∷ 17 ∷ 0 ∷ 0 ∷ 0 ∷ 0 ∷ 0 ∷ 0
    ∷ 128 ∷ 17 ∷ 0 ∷ 0 ∷ 0 ∷ 0 ∷ 0 ∷ 0
    ∷ 0 ∷ 0 ∷ 0 ∷ 0 ∷ 0 ∷ 0 ∷ 0 ∷ 0
    ∷ 0 ∷ 0 ∷ 0 ∷ 0 ∷ 0 ∷ 0 ∷ 0 ∷ 0
    ∷ 6 ∷ 32 ∷ 0 ∷ 0 ∷ 0 ∷ 0 ∷ 0 ∷ 0
    ∷ 0 ∷ 16 ∷ 0 ∷ 0 ∷ 0 ∷ 0 ∷ 0 ∷ 0
    ∷ 128 ∷ 17 ∷ 0 ∷ 0 ∷ 0 ∷ 0 ∷ 0 ∷ 0
    ∷ 0 ∷ 0 ∷ 0 ∷ 0 ∷ 0 ∷ 0 ∷ 0 ∷ 0
    ∷ 0 ∷ 0 ∷ 0 ∷ 0 ∷ 0 ∷ 0 ∷ 0 ∷ 0
    ∷ 0 ∷ 0 ∷ 0 ∷ 0 ∷ 0 ∷ 0 ∷ 0 ∷ 0
    ∷ []

-- method lists: at 0x1148 "go" and "up", at 0x1180 the "up" that stands at 0x11A0, in this file.
abbrev lists_bytes : List ℕ
lists_bytes =
    24 ∷ 0 ∷ 0 ∷ 0 ∷ 2 ∷ 0 ∷ 0 ∷ 0
    ∷ 3 ∷ 32 ∷ 0 ∷ 0 ∷ 0 ∷ 0 ∷ 0 ∷ 0
    ∷ 0 ∷ 0 ∷ 0 ∷ 0 ∷ 0 ∷ 0 ∷ 0 ∷ 0
    ∷ 0 ∷ 0 ∷ 0 ∷ 0 ∷ 0 ∷ 0 ∷ 0 ∷ 0
    ∷ 0 ∷ 32 ∷ 0 ∷ 0 ∷ 0 ∷ 0 ∷ 0 ∷ 0
    ∷ 0 ∷ 0 ∷ 0 ∷ 0 ∷ 0 ∷ 0 ∷ 0 ∷ 0
    ∷ 0 ∷ 0 ∷ 0 ∷ 0 ∷ 0 ∷ 0 ∷ 0 ∷ 0
    ∷ 24 ∷ 0 ∷ 0 ∷ 0 ∷ 1 ∷ 0 ∷ 0 ∷ 0
    ∷ 160 ∷ 17 ∷ 0 ∷ 0 ∷ 0 ∷ 0 ∷ 0 ∷ 0
    ∷ 0 ∷ 0 ∷ 0 ∷ 0 ∷ 0 ∷ 0 ∷ 0 ∷ 0
    ∷ 0 ∷ 0 ∷ 0 ∷ 0 ∷ 0 ∷ 0 ∷ 0 ∷ 0
    ∷ 117 ∷ 112 ∷ 0 ∷ 0 ∷ 0 ∷ 0 ∷ 0 ∷ 0
    ∷ []

-- cat_list: A, B; nlcat_list: A again, and the category at 0x11C8.
abbrev slots_bytes : List ℕ
slots_bytes =
    232 ∷ 16 ∷ 0 ∷ 0 ∷ 0 ∷ 0 ∷ 0 ∷ 0
    ∷ 24 ∷ 17 ∷ 0 ∷ 0 ∷ 0 ∷ 0 ∷ 0 ∷ 0
    ∷ 232 ∷ 16 ∷ 0 ∷ 0 ∷ 0 ∷ 0 ∷ 0 ∷ 0
    ∷ 200 ∷ 17 ∷ 0 ∷ 0 ∷ 0 ∷ 0 ∷ 0 ∷ 0
    ∷ []

-- category_t at 0x11C8, of the class at 0x1028.
abbrev third_bytes : List ℕ
third_bytes =
    6 ∷ 32 ∷ 0 ∷ 0 ∷ 0 ∷ 0 ∷ 0 ∷ 0
    ∷ 40 ∷ 16 ∷ 0 ∷ 0 ∷ 0 ∷ 0 ∷ 0 ∷ 0
    ∷ 72 ∷ 17 ∷ 0 ∷ 0 ∷ 0 ∷ 0 ∷ 0 ∷ 0
    ∷ 128 ∷ 17 ∷ 0 ∷ 0 ∷ 0 ∷ 0 ∷ 0 ∷ 0
    ∷ 0 ∷ 0 ∷ 0 ∷ 0 ∷ 0 ∷ 0 ∷ 0 ∷ 0
    ∷ 0 ∷ 0 ∷ 0 ∷ 0 ∷ 0 ∷ 0 ∷ 0 ∷ 0
    ∷ []

-- The records lie in file 0, at 0x1000; file 1, at 0x2000, holds "up", "go" and the name "N".
abbrev files : List (List ℕ)
files = (classes_bytes ++ ro_bytes ++ categories_bytes ++ lists_bytes ++ slots_bytes ++ third_bytes) ∷ (117 ∷ 112 ∷ 0 ∷ 103 ∷ 111 ∷ 0 ∷ 78 ∷ 0 ∷ []) ∷ []

abbrev pub example : Tables
example =
    tables_of files (0x1000 ∷ 0x1F8 ∷ 0 ∷ 0x1F8 ∷ 0 ∷ 0x2000 ∷ 8 ∷ 0 ∷ 8 ∷ 1 ∷ [])
    (0 ∷ 0 ∷ 0 ∷ 0 ∷ 0 ∷ 0 ∷ 1 ∷ 0x11A8 ∷ 16 ∷ 1 ∷ 0x11B8 ∷ 16 ∷ 0 ∷ 0 ∷ 0 ∷ []) (replicate 8 0) [] [] (replicate (2 * chains) 0)

-- A call: the class, the side, the result buffer, and what it leaves.
pub record Case : Type 0 where
  pub class : ℕ
  pub side : Side
  pub result : List ℕ
  pub expected : Left

abbrev case : ℕ → Side → List ℕ → Left → Case
case class side result expected = record { class = class; side = side; result = result; expected = expected }

-- "up" came first, in the class's list, and B's row stands, whose text is in file 0: equal bytes in two files are one selector, the first of
-- two rows of the class counts, and A, which is listed before B and again after it, does not win. "go" is A's. A word behind them stays.
-- Class methods: the metaclass has no class_ro, so A's list alone. The class at 0x1028 has no class_ro and no metaclass: its category counts.
-- At 0x3000 no class can be read; and with seven words 22 is the answer. With these the buffer is as it was.
abbrev calls : List Case
calls =
    case 0x1000 Instance (replicate 9 7) (leaves (value 2) (0 ∷ 0x1A0 ∷ 2 ∷ 0x1118 ∷ 1 ∷ 3 ∷ 2 ∷ 0x10E8 ∷ 7 ∷ []))
    ∷ case 0x1000 Class (replicate 4 7) (leaves (value 1) (0 ∷ 0x1A0 ∷ 2 ∷ 0x10E8 ∷ []))
    ∷ case 0x1028 Instance (replicate 8 7) (leaves (value 2) (1 ∷ 3 ∷ 2 ∷ 0x11C8 ∷ 1 ∷ 0 ∷ 2 ∷ 0x11C8 ∷ []))
    ∷ case 0x1028 Class (replicate 4 7) (leaves (value 1) (0 ∷ 0x1A0 ∷ 2 ∷ 0x11C8 ∷ []))
    ∷ case 0x3000 Instance (replicate 4 7) (leaves (absent Unreadable) (replicate 4 7))
    ∷ case 0x1000 Instance (replicate 7 7) (leaves (refused SelectorRoom) (replicate 7 7))
    ∷ []

pub calls_hold : map (λ (c : Case). left (effective example c.side c.class) c.result) calls ≡ map (λ (c : Case). c.expected) calls
unfolding file_of longest can_read le readable_at readable word word_in le_in stripped data_arm64e data64 mapped picked_wide picked slot_address rows ends holds placed lookup text text_from text_in judge utf8 follow_from follow image_info bit question image_fits whole_rows segment_files section_fits every section_table info_whole index_fits asked_tables asked_index asked_lent section_at rebase_at stored resolve pointer_at pointer_or0_at even_list entry_size decode_category_lists decode_category_properties decode_category_of decode_category bits_of decode_data decode_class decode_ro_lists decode_class_ro decode_ro_of method_rows decode_list entry legacy_imp decode_legacy_method decode_row all_from readables gather addresses_in without once listed plain_categories meta_of slots_from section_slots decode_address list_of metaclass_of own_source methods_on of_class appearance entry_rows list_rows source_rows category_rows appearances same_bytes same_selector comes_before has_earlier firsts supersedes standing standing_for effective_of effective_among effective words filled left choose sum64 nonzero
calls_hold = refl

-- Rows alone: the texts at 0, 3 and 6 of file 0 and at 0 of file 1 are "a", "b", "a" and "a"; one of length 0 is a selector too.
abbrev letters : List (List ℕ)
letters = (97 ∷ 0 ∷ 0 ∷ 98 ∷ 0 ∷ 0 ∷ 97 ∷ 0 ∷ []) ∷ (97 ∷ 0 ∷ []) ∷ []

abbrev row : ℕ → ℕ → ℕ → ℕ → ℕ → Appearance
row file offset len source entry = record { selector = text_of file offset len; source = source; entry = entry; origin = 0x1000 + source }

-- A category over the class; two categories; a selector twice in one list; equal bytes at two places and in two files; the empty selector.
abbrev among : List (List Appearance)
among =
    (row 0 0 1 0 0 ∷ row 0 3 1 0 1 ∷ row 0 0 1 1 0 ∷ [])
    ∷ (row 0 0 1 1 0 ∷ row 0 3 1 1 1 ∷ row 0 0 1 2 0 ∷ [])
    ∷ (row 0 0 1 1 0 ∷ row 0 6 1 1 4 ∷ [])
    ∷ (row 0 0 1 0 0 ∷ row 0 6 1 1 0 ∷ row 1 0 1 2 0 ∷ [])
    ∷ (row 0 0 0 0 0 ∷ row 0 0 1 0 1 ∷ row 1 1 0 1 0 ∷ [])
    ∷ []

pub rows_hold : map (effective_of letters) among
    ≡ (row 0 0 1 1 0 ∷ row 0 3 1 0 1 ∷ []) ∷ (row 0 0 1 2 0 ∷ row 0 3 1 1 1 ∷ []) ∷ (row 0 0 1 1 0 ∷ []) ∷ (row 1 0 1 2 0 ∷ []) ∷ (row 1 1 0 1 0 ∷ row 0 0 1 0 1 ∷ []) ∷ []
unfolding file_of same_bytes same_selector comes_before has_earlier firsts supersedes standing standing_for effective_of choose
rows_hold = refl
