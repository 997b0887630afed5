-- A worked list of three slots: the first bound, the second empty, the third bound too but with a protocol that decodes.
use Prim.Native.Nat.{ℕ, ◌≤◌}
use mathlib.Core.Path.{◌≡◌, refl}
use mathlib.Core.List.{List, [], ◌∷◌, ◌++◌}
use lib.ListN.{length, replicate}
use borrow.Author.Tests.{le-leb}
use Rattle.reads.specs.Outcome.{value, absent, refused, choose, sum64, nonzero, text_of}
use Rattle.reads.specs.Segment.{rows, ends, holds, placed, lookup}
use Rattle.reads.specs.Files.{file_of, longest}
use Rattle.reads.specs.Place.{le, readable_at, readable, word, word_in, le_in}
use Rattle.reads.specs.Address.{stripped}
use Rattle.reads.specs.Text.{text, text_from, text_in}
use Rattle.reads.specs.Utf8.{judge, utf8}
use Rattle.reads.specs.declared.answer.Reason.TheVariants.{NullAddress, NoRecord}
use Rattle.pointers.specs.Tables.{Tables, tables_of, with_index, reading_new}
use Rattle.pointers.specs.Question.{question, image_fits, whole_rows, segment_files, every, section_fits, section_table, info_whole, name_inside, name_utf8, index_fits, asked_tables, asked_index, bind_files, names_inside, names_utf8}
use Rattle.pointers.specs.ImageInfo.{image_info, info_of}
use Rattle.pointers.specs.Index.{indexed}
use Rattle.pointers.specs.Chain.{follow_from, follow, last_among}
use Rattle.pointers.specs.Open.{asked_opening, opening, opened_index, Opened}
use Rattle.pointers.specs.Slot.{rebase_at, bind_name, bind_at, symbol_of, stored, resolve, pointer_at, pointer_or0_at}
use Rattle.pointers.specs.Symbol.{ascii, starts, fitting, stripped_in}
use Rattle.pointers.proofs.Chains.{rebase_last_wins, bind_last_wins}
use Rattle.records.specs.Protocol.{decode_protocol_lists, decode_class_properties, decode_protocol}
use Rattle.records.specs.Ask.{even_list}
use Rattle.walks.specs.Gather.{gather}
use Rattle.walks.specs.Handed.{answers_of}
use Rattle.walks.specs.ProtocolNames.{protocol_list_at, decode_protocol_list, has_slot, decode_protocol_name, decode_protocol_name_in, name_in, decode_name_in, walk_at, name_reached, name_passed, names_finished, next_name, slot_names, protocol_names}
use Rattle.walks.proofs.ProtocolNameWalks.{slots_said_then_finished}
use Rattle.reads.specs.declared.answer.Question.TheVariants.{ChainOrder}

-- The list at 0x1000 with slots at 0x1008, 0x1010 and 0x1018; a protocol_t of 72 bytes at 0x1020; its name at 0x1068; a symbol's name.
abbrev names_image : List ℕ
names_image =
    (3 ∷ replicate 7 0)
    ++ replicate 16 0
    ++ (0x20 ∷ 0x10 ∷ replicate 6 0)
    ++ replicate 8 0
    ++ (0x68 ∷ 0x10 ∷ replicate 6 0)
    ++ replicate 48 0
    ++ (72 ∷ replicate 7 0)
    ++ ascii "P"
    ++ (0 ∷ [])
    ++ ascii "_OBJC_PROTOCOL_$_NSCopying"

abbrev names_binds : List ℕ
names_binds = 0x1008 ∷ 106 ∷ 26 ∷ 0 ∷ 0x1018 ∷ 106 ∷ 26 ∷ 0 ∷ []

-- One segment, no section, no rebase; the index as opening leaves it.
abbrev names_tables : List ℕ → Tables
names_tables before = tables_of (names_image ∷ []) (0x1000 ∷ 132 ∷ 0 ∷ 132 ∷ 0 ∷ []) (replicate 15 0) (replicate 8 0) [] names_binds (indexed [] names_binds before)

module _ (before : List ℕ) where
  names_unrebased : (a : ℕ) → rebase_at [] (indexed [] names_binds before) reading_new a ≡ absent NoRecord
  unfolding rebase_at last_among
  names_unrebased a = rw (rebase_last_wins [] names_binds before a)

  name_bound : name_in (names_tables before) 0x1008 ≡ value (text_of 0 123 9)
  unfolding file_of decode_name_in decode_protocol_name_in decode_protocol_name resolve stored word readable lookup rows ends holds placed sum64 readable_at le stripped nonzero choose symbol_of bind_at bind_name question name_inside name_utf8 utf8 judge stripped_in fitting starts last_among
  name_bound = simp (names_unrebased, bind_last_wins [] names_binds before)

  name_empty : name_in (names_tables before) 0x1010 ≡ absent NullAddress
  unfolding file_of decode_name_in decode_protocol_name_in decode_protocol_name resolve stored word readable lookup rows ends holds placed sum64 readable_at le stripped nonzero choose symbol_of bind_at last_among
  name_empty = simp (names_unrebased, bind_last_wins [] names_binds before)

  name_decoded : name_in (names_tables before) 0x1018 ≡ value (text_of 0 104 1)
  unfolding file_of decode_name_in decode_protocol_name_in decode_protocol_name decode_protocol decode_protocol_lists decode_class_properties pointer_at pointer_or0_at resolve stored word word_in le_in readable lookup rows ends holds placed sum64 readable_at le stripped nonzero choose text_in text_from text utf8 judge
  name_decoded = simp names_unrebased

  list_there : protocol_list_at (names_tables before) 0x1000 ≡ value (record { base = 0x1008; count = 3 })
  unfolding file_of decode_protocol_list even_list word_in le_in readable lookup rows ends holds placed sum64 readable_at le nonzero choose
  list_there = refl

  names_in_slots : slot_names (names_tables before) (record { base = 0x1008; count = 3 }) 0 3 ≡ value (text_of 0 123 9) ∷ absent NullAddress ∷ value (text_of 0 104 1) ∷ []
  unfolding slot_names has_slot choose
  names_in_slots = simp (name_bound, name_empty, name_decoded)

  pub names : protocol_names (names_tables before) 0x1000 ≡ value (text_of 0 123 9 ∷ text_of 0 104 1 ∷ [])
  unfolding protocol_names gather
  names = rw (list_there, names_in_slots)

  -- Opening accepts the names_tables with an index of 8,194 words.
  module _ (enough : 8194 ≤ length before) where
    accepts : asked_opening (with_index (names_tables before) before) ≡ value tt
    unfolding file_of asked_opening asked_tables asked_index question image_fits longest segment_files whole_rows every section_fits section_table info_whole bind_files names_inside names_utf8 name_inside name_utf8 index_fits utf8 judge choose
    accepts = rw (le-leb 8194 (length before) enough)

    opened : Opened (names_tables before)
    unfolding opening opened_index image_info le choose
    opened = record { index_before = before; gave = info_of 0 0; accepted = rw accepts; left = rw accepts }

    pub name_answers : answers_of (next_name (names_tables before)) 4 (walk_at reading_new 0x1000 0)
        ≡ value (name_reached (text_of 0 123 9)) ∷ value (name_passed NullAddress) ∷ value (name_reached (text_of 0 104 1)) ∷ value names_finished ∷ []
    name_answers = simp names_in_slots at (slots_said_then_finished (names_tables before) opened 0x1000 (record { base = 0x1008; count = 3 }) list_there 1)

-- With an index of which each word is 7 every chain begins above the record count: 9, which is not left out.
pub names_number : protocol_names (with_index (names_tables []) (replicate 8194 7)) 0x1000 ≡ refused ChainOrder
unfolding file_of protocol_names gather decode_protocol_list slot_names has_slot decode_name_in decode_protocol_name_in even_list word_in le_in readable lookup rows ends holds placed sum64 readable_at le nonzero resolve rebase_at follow follow_from choose
names_number = refl
