-- ◆ The listing's image (document 01, "The program's listing") meets what the whole claim asks: its tables are opened, and a run of steps over
-- its method list, which claims 4,294,967,295 rows, is computed whole from the laws.
use Prim.Native.Nat.{ℕ, ◌+◌, ◌-◌, ◌≤◌, ◌<◌}
use mathlib.Core.Path.{◌≡◌, refl, ap, ◌∙◌}
use mathlib.Core.Bool.{true, false}
use mathlib.Core.List.{List, [], ◌∷◌}
use native.Mathlib.Omega.{arith}
use lib.ListN.{length, get_or, replicate, length-replicate, get_or-replicate}
use borrow.Author.Tests.{le-leb}
use Rattle.reads.specs.Outcome.{value, absent, refused, because, choose, sum64, nonzero, text_of}
use Rattle.reads.specs.Breaks.{can_read}
use Rattle.reads.specs.Files.{file_of, longest}
use Rattle.reads.specs.Place.{le, readable_at, readable, word, word_in, le_in}
use Rattle.reads.specs.Address.{stripped, data_arm64e, data64, mapped, picked_wide, picked}
use Rattle.reads.specs.Segment.{rows, ends, holds, placed, lookup}
use Rattle.reads.specs.Text.{text, text_from, text_in}
use Rattle.reads.specs.Utf8.{judge, utf8}
use Rattle.reads.specs.declared.answer.Reason.TheVariants.{Unmapped, Unresolved, NoRecord}
use Rattle.reads.specs.declared.text.Text.{Text}
use Rattle.pointers.specs.Tables.{Tables, tables_of, reading_new}
use Rattle.pointers.specs.Chain.{follow_from, follow, last_among}
use Rattle.pointers.specs.Index.{chain_of, indexed}
use Rattle.pointers.specs.ImageInfo.{info_of, image_info, bit}
use Rattle.pointers.specs.Open.{asked_opening, opening, opened_index, Opened}
use Rattle.pointers.specs.Question.{question, image_fits, whole_rows, segment_files, section_fits, every, section_table, info_whole, name_lent, name_inside, name_utf8, bind_files, names_inside, names_utf8, index_fits, asked_tables, asked_index, asked_lent}
use Rattle.pointers.specs.Slot.{rebase_at, bind_name, bind_at, symbol_of, stored, resolve, pointer_at, pointer_or0_at, rebase, slot, pointer, pointer_or0}
use Rattle.pointers.specs.Symbol.{starts, fitting, stripped_in}
use Rattle.pointers.proofs.OpenedTables.{opened_follow_rebase, opened_follow_bind}
use Rattle.pointers.proofs.Questions.{question_yes}
use Rattle.records.specs.Class.{bits_of, decode_data, class_at, decode_class, class_ro_at, decode_ro_lists, decode_class_ro, ro_of, decode_ro_of, decode_ro_data, decode_class_name, decode_nonzero_class_name, decode_bound_name, decode_class_name_of, class_name_of, superclass_name}
use Rattle.records.specs.Ask.{even_list, entry_size}
use Rattle.records.specs.List.{method_rows, list_at, decode_list, entry}
use Rattle.walks.specs.PlainWalk.{told, refusal, steps, plain_step, plain_walk, shown_all, Loans, loans_end, loan_opened, loan_refused, handed_out}
use Rattle.records.specs.Row.{method_of, legacy_imp, decode_legacy_method, row_at, decode_row}
use Rattle.records.specs.Search.{first, first_readable}
use Rattle.walks.specs.Handed.{hands, hands_back, answers_of}
use Rattle.walks.specs.Walk.{walk_of, row_reached, row_skipped, rows_finished, next_of}
use Rattle.records.specs.declared.class.ObjcClass.{ObjcClass}
use Rattle.records.specs.declared.list.ListKind.TheVariants.{Methods}
use Rattle.records.specs.declared.list.RowKind.TheVariants.{Legacy}
use Rattle.records.specs.declared.method.MethodKind.TheVariants as kind
use Rattle.records.specs.declared.row.Row.{Row}
use Rattle.records.specs.declared.row.Row.TheVariants as row
use Rattle.records.proofs.Firsts.{first_of_more}
use Rattle.records.proofs.HubImage.{counted, bytes, four_files, segments}
use Rattle.records.proofs.ListCases.{hub_list, hub_image, hub_two}
use Rattle.walks.proofs.Walk.{opened_unrefused, step_value, whole_claim, settles_each_once, walk_meets_each_readable_once}
use Rattle.std.specs.Prelude.{Some}
use Rattle.reads.specs.declared.answer.Question.TheVariants.{IndexLength, ChainOrder, WalkState, NameInside, NameUtf8, FileLent}

-- The class list at 0x10A0, 8 bytes; the other four sections are absent.
abbrev sections : List ℕ
sections = 1 ∷ 0x10A0 ∷ 8 ∷ 0 ∷ 0 ∷ 0 ∷ 0 ∷ 0 ∷ 0 ∷ 0 ∷ 0 ∷ 0 ∷ 0 ∷ 0 ∷ 0 ∷ []

abbrev pub binds : List ℕ
binds = 0x1008 ∷ 168 ∷ 22 ∷ 0 ∷ []

-- An index of the least number of words that question IndexLength takes, all the same. Shut, so that none of them is computed.
unfoldable pub filled : ℕ → List ℕ
filled w = replicate 8193 w

-- The image with a count of its method list, and an index.
abbrev tables : ℕ → List ℕ → Tables
tables count index = tables_of (four_files (counted count)) segments sections (replicate 8 0) [] binds index

abbrev pub hub : Tables
hub = tables 4294967295 (indexed [] binds (filled 0))

asked_hub : (count : ℕ) (index : List ℕ) → asked_tables (tables count index) ≡ value tt
unfolding asked_tables question image_fits longest segment_files whole_rows section_table every section_fits info_whole choose counted
asked_hub count index = refl

-- The name of the bind.
abbrev bound : Text
bound = text_of 0 168 22

abbrev files : List (List ℕ)
files = four_files bytes

inside_hub : name_inside files bound ≡ true
unfolding name_inside file_of counted
inside_hub = refl

utf8_hub : name_utf8 files bound ≡ true
unfolding name_utf8 file_of utf8 judge choose counted
utf8_hub = refl

names_lent_hub : bind_files files binds ≡ true
unfolding bind_files every
names_lent_hub = refl

names_inside_hub : names_inside files binds ≡ true
unfolding names_inside every
names_inside_hub = rw inside_hub

names_utf8_hub : names_utf8 files binds ≡ true
unfolding names_utf8 every
names_utf8_hub = rw utf8_hub

index_room : (count w : ℕ) → asked_index (tables count (filled w)) ≡ value tt
unfolding asked_index index_fits filled
index_room count w = question_yes IndexLength _ (le-leb 8193 (length (replicate 8193 w)) (rw (length-replicate 8193 w) (omega arith)))

accepted_hub : asked_opening (tables 4294967295 (filled 0)) ≡ value tt
unfolding asked_opening
accepted_hub = rw (asked_hub 4294967295 (filled 0), question_yes FileLent (bind_files files binds) names_lent_hub, question_yes NameInside (names_inside files binds) names_inside_hub, question_yes NameUtf8 (names_utf8 files binds) names_utf8_hub, index_room 4294967295 0)

-- Opening accepts the tables, and `hub` has the index that it leaves.
pub hub_opened : Opened hub
unfolding opening opened_index image_info choose le
hub_opened =
    record {
      index_before = filled 0;
      gave = info_of 0 0;
      accepted = rw accepted_hub;
      left = rw accepted_hub;
    }

-- No slot has a rebase, so each is the word that is stored there.
no_rebase_lem : (a : ℕ) → rebase hub a ≡ absent NoRecord
unfolding rebase_at last_among
no_rebase_lem a = rw (opened_follow_rebase hub hub_opened a)

pub slot_stored : (a : ℕ) → slot hub a ≡ because Unresolved (stored hub_image a)
unfolding resolve
slot_stored a = rw (no_rebase_lem a)

module _ (va k a w : ℕ) (sum : sum64 va k ≡ value a) (there : stored hub_image a ≡ value w) where
  pointer_stored : pointer hub va k ≡ value w
  unfolding pointer_at
  pointer_stored = rw sum (slot_stored a ∙ ap (because Unresolved) there)

  pointer_or_0_stored : pointer_or0 hub va k ≡ value w
  unfolding pointer_or0_at
  pointer_or_0_stored = rw (sum, slot_stored a, there)

-- The list, and its two rows that are readable: the second stands where the strings are, and no string is at its selector.
pub hub_methods : list_at hub Methods 0x1070 ≡ value hub_list
unfolding file_of decode_list even_list entry_size method_rows bit nonzero readable readable_at lookup rows ends holds placed sum64 word_in le_in le choose counted
hub_methods = refl

abbrev pub up : Row
up = row.Method (method_of (text_of 0 0x94 2) (text_of 0 0x97 1) (Some 0x2000) kind.Legacy)

pub row_0 : row_at hub Legacy 0x1078 ≡ value up
unfolding file_of decode_row decode_legacy_method legacy_imp readable readable_at lookup rows ends holds placed sum64 stored word stripped le text_in text_from text utf8 judge nonzero choose counted up
row_0 =
    rw (slot_stored 0x1078, pointer_stored 0x1078 8 0x1080 0x1097 refl refl, pointer_or_0_stored 0x1078 16 0x1088 0x2000 refl refl)

pub row_1 : row_at hub Legacy 0x1090 ≡ absent Unmapped
unfolding file_of decode_row decode_legacy_method legacy_imp readable readable_at lookup rows ends holds placed sum64 stored word stripped le text_in text_from nonzero choose counted
row_1 =
    rw (slot_stored 0x1090, pointer_stored 0x1090 8 0x1098 0 refl refl, pointer_or_0_stored 0x1090 16 0x10A0 0x1000 refl refl)

-- Loans that a question refuses: without an index, 8; with a count of 0, 10 where the walk stands above it; with an index of which each word is
-- 7, that is, chains that begin above the record count, 9.
abbrev pub unindexed : Tables
unindexed = tables 4294967295 []

abbrev pub uncounted : Tables
uncounted = tables 0 (filled 0)

abbrev pub broken : Tables
broken = tables 4294967295 (filled 7)

refused_8 : (p : ℕ) → refusal unindexed Methods 0x1070 p ≡ refused IndexLength
unfolding refusal asked_lent asked_index index_fits question choose
refused_8 p = rw (asked_hub 4294967295 [])

refused_10 : refusal uncounted Methods 0x1070 1 ≡ refused WalkState
unfolding file_of refusal asked_lent decode_list even_list entry_size method_rows bit nonzero readable readable_at lookup rows ends holds placed sum64 word_in le_in le question choose counted
refused_10 = rw (asked_hub 0 (filled 0), index_room 0 0)

head_7 : (c : ℕ) → c < 8193 → get_or (filled 7) c 0 ≡ 7
unfolding filled
head_7 c l = get_or-replicate 8193 c 7 0 l

rebase_9 : (a : ℕ) → rebase broken a ≡ refused ChainOrder
unfolding rebase_at follow follow_from choose
rebase_9 a = rw (head_7 (0 + chain_of a) (omega arith))

slot_9 : (a : ℕ) → slot broken a ≡ refused ChainOrder
unfolding resolve
slot_9 a = rw (rebase_9 a)

row_9 : row_at broken Legacy 0x1090 ≡ refused ChainOrder
unfolding file_of decode_row decode_legacy_method readable readable_at lookup rows ends holds placed sum64 choose counted
row_9 = rw (slot_9 0x1090)

found_0 : first_readable hub_image hub_list 0 ≡ Some 0
unfolding file_of first_readable first entry can_read readable readable_at lookup rows ends holds placed sum64 choose counted
found_0 = first_of_more (entry hub_image hub_list) 1 (4294967295 - 1) 0 0 refl

found_1 : first_readable hub_image hub_list 1 ≡ Some 1
unfolding file_of first_readable first entry can_read readable readable_at lookup rows ends holds placed sum64 choose counted
found_1 = first_of_more (entry hub_image hub_list) 1 (4294967295 - 1 - 1) 1 1 refl

broken_methods : list_at broken Methods 0x1070 ≡ value hub_list
unfolding decode_list
broken_methods = hub_methods

refused_9 : refusal broken Methods 0x1070 1 ≡ refused ChainOrder
unfolding refusal asked_lent question choose
refused_9 = rw (asked_hub 4294967295 (filled 7), index_room 4294967295 7, broken_methods) (rw (found_1, row_9))

-- The first step stands at 1, whatever its row.
first_step : (plain_step hub Methods 0x1070 hub 0).position ≡ 1
first_step = rw (step_value hub hub_opened Methods 0x1070 hub_list hub_methods 0 0 (omega arith) found_0)

abbrev pub later : List Tables
later = unindexed ∷ uncounted ∷ broken ∷ hub ∷ hub ∷ []

abbrev pub loans : List Tables
loans = hub ∷ later

last_run : (p : ℕ) → Loans hub Methods 0x1070 (hub ∷ []) p
last_run p = loan_opened refl loans_end

later_run : Loans hub Methods 0x1070 later 1
later_run = loan_refused IndexLength (refused_8 1) (loan_refused WalkState refused_10 (loan_refused ChainOrder refused_9 (loan_opened {p = 1} refl (last_run _))))

-- The hypothesis of the whole claim: each loan is the opened tables or is refused where the walk stands.
pub hub_run : Loans hub Methods 0x1070 loans 0
hub_run = loan_opened {loans = later} {p = 0} refl (rw first_step later_run)

unrefused : (p : ℕ) → p ≤ 4294967295 → refusal hub Methods 0x1070 p ≡ value tt
unrefused p l = opened_unrefused hub hub_opened Methods 0x1070 p (rw hub_methods l)

-- Its steps.
pub hub_told : plain_walk hub Methods 0x1070 loans 0
    ≡ told (value (row_reached up)) 1
    ∷ told (refused IndexLength) 1
    ∷ told (refused WalkState) 1
    ∷ told (refused ChainOrder) 1
    ∷ told (value (row_skipped 1 Unmapped)) 2
    ∷ told (value rows_finished) 4294967295
    ∷ []
unfolding handed_out
hub_told =
    settles_each_once hub hub_opened Methods 0x1070 hub_list hub_methods loans hub_run
    ∙ rw (hub_two, unrefused 0 (omega arith), row_0, refused_8 1, refused_10, refused_9, unrefused 1 (omega arith), row_1, unrefused 2 (omega arith))

pub hub_steps : steps loans (walk_of reading_new 0x1070 Methods 0)
    ≡ hands (value (row_reached up)) (walk_of reading_new 0x1070 Methods 1)
    ∷ hands_back (walk_of reading_new 0x1070 Methods 1) IndexLength
    ∷ hands_back (walk_of reading_new 0x1070 Methods 1) WalkState
    ∷ hands_back (walk_of reading_new 0x1070 Methods 1) ChainOrder
    ∷ hands (value (row_skipped 1 Unmapped)) (walk_of reading_new 0x1070 Methods 2)
    ∷ hands (value rows_finished) (walk_of reading_new 0x1070 Methods 4294967295)
    ∷ []
hub_steps = whole_claim hub hub_opened Methods 0x1070 loans hub_run ∙ ap (shown_all reading_new Methods 0x1070) hub_told

-- The same list with nothing refused, by the theorem of one walk: its row, the entry that is skipped, and then finished.
pub hub_answers : (n : ℕ) → answers_of (next_of hub) (2 + n) (walk_of reading_new 0x1070 Methods 0) ≡ value (row_reached up) ∷ value (row_skipped 1 Unmapped) ∷ replicate n (value rows_finished)
hub_answers n =
    let answers = walk_meets_each_readable_once hub hub_opened Methods 0x1070 hub_list hub_methods n in
    rw (hub_two, row_0, row_1) at answers

-- ◆ The class, its class_ro and the name of its superclass, which is bound.
abbrev pub hub_class_record : ObjcClass
hub_class_record = record { address = 0x1000; isa = 0; superclass_address = 0; bits = 0x1028; is_meta = false }

pub hub_class : class_at hub 0x1000 false ≡ value hub_class_record
unfolding file_of decode_class decode_data bits_of picked picked_wide mapped data_arm64e data64 readable readable_at lookup rows ends holds placed sum64 stored word stripped le nonzero choose counted
hub_class = rw (slot_stored 0x1000, slot_stored 0x1008, no_rebase_lem 0x1020)

pub hub_ro : class_ro_at hub 0x1028
    ≡ value
    (record {
      address = 0x1028;
      flags = 0;
      instance_start = 8;
      instance_size = 8;
      name = text_of 0 0x90 3;
      ivar_layout_address = 0;
      methods = 0x1070;
      protocols = 0;
      ivars = 0;
      weak_ivar_layout_address = 0;
      properties = 0;
    })
unfolding file_of decode_class_ro decode_ro_lists readable readable_at lookup rows ends holds placed sum64 stored word word_in le_in stripped le text_in text_from text utf8 judge nonzero choose counted
hub_ro =
    rw (
      pointer_or_0_stored 0x1028 16 0x1038 0 refl refl,
      pointer_stored 0x1028 24 0x1040 0x1090 refl refl,
      pointer_or_0_stored 0x1028 32 0x1048 0x1070 refl refl,
      pointer_or_0_stored 0x1028 40 0x1050 0 refl refl,
      pointer_or_0_stored 0x1028 48 0x1058 0 refl refl,
      pointer_or_0_stored 0x1028 56 0x1060 0 refl refl,
      pointer_or_0_stored 0x1028 64 0x1068 0 refl refl,
    )

pub hub_ro_of : ro_of hub hub_class_record ≡ class_ro_at hub 0x1028
unfolding decode_ro_of picked picked_wide mapped data_arm64e lookup rows ends holds placed sum64 nonzero choose
hub_ro_of = refl

pub hub_superclass : superclass_name hub hub_class_record ≡ value (text_of 0 182 8)
unfolding file_of decode_class_name_of decode_nonzero_class_name decode_bound_name symbol_of bind_at last_among bind_name stripped_in fitting starts sum64 nonzero choose counted
hub_superclass = rw (opened_follow_bind hub hub_opened 0x1008, question_yes FileLent (name_lent files bound) refl, question_yes NameInside (name_inside files bound) inside_hub, question_yes NameUtf8 (name_utf8 files bound) utf8_hub)

-- Where a class decodes, its name goes before the bind: here were the class its own superclass.
pub decoded_before_bind : class_name_of hub 0x1000 0x1000 ≡ value (text_of 0 0x90 3)
unfolding file_of decode_class_name_of decode_nonzero_class_name decode_class_name decode_ro_data picked picked_wide mapped data_arm64e readable readable_at lookup rows ends holds placed sum64 stored word stripped le text_in text_from text utf8 judge nonzero choose counted
decoded_before_bind = rw (no_rebase_lem 0x1020, pointer_stored 0x1028 24 0x1040 0x1090 refl refl)
