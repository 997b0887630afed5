-- A second worked listing: a class with its metaclass, a protocol, and a category that names one method list from two fields. The list's
-- second row has no selector, so it is skipped and settled each time. The records lie in file 0, the strings in file 1 (document 02, note 6).
use Rattle.std.proofs.Common.{◌≡◌, ℕ, ◌*◌, ◌≤◌, true, false, List, [], ◌∷◌, ◌++◌, map, length, replicate, sym, refl, arith, le-leb}
use Rattle.reads.specs.Breaks.{can_read}
use Rattle.reads.specs.Outcome.{value, absent, choose, sum64, nonzero, text_of}
use Rattle.reads.specs.Files.{file_of, longest}
use Rattle.reads.specs.Place.{part, le, readable_at, readable, word, word_in, le_in}
use Rattle.reads.specs.Address.{stripped, data_arm64e, data64, mapped, picked_wide, picked}
use Rattle.reads.specs.Relative.{slot_address}
use Rattle.reads.specs.Segment.{rows, ends, holds, placed, lookup}
use Rattle.reads.specs.Text.{text, text_from, text_in}
use Rattle.reads.specs.Utf8.{judge, utf8}
use Rattle.reads.specs.declared.text.Text.{Text}
use Rattle.reads.specs.declared.answer.Reason.TheVariants.{NullAddress, NoRecord}
use Rattle.pointers.specs.Chain.{last_among}
use Rattle.pointers.specs.ImageInfo.{info_of, image_info, bit}
use Rattle.pointers.specs.Index.{indexed}
use Rattle.pointers.specs.Open.{asked_opening, opening, opened_index, Opened}
use Rattle.pointers.specs.Question.{question, image_fits, whole_rows, segment_files, section_fits, every, section_table, info_whole, bind_files, names_inside, names_utf8, index_fits, asked_tables, asked_index}
use Rattle.pointers.specs.Section.{section_at}
use Rattle.pointers.specs.declared.setting.Lookup.{Lookup}
use Rattle.pointers.specs.declared.setting.Lookup.TheVariants.{Chained, Sorted}
use Rattle.pointers.specs.declared.setting.Setting.{Setting}
use Rattle.pointers.specs.Slot.{rebase_number, rebase_at, bind_at, symbol_of, stored, resolve, pointer_at, pointer_or0_at}
use Rattle.pointers.specs.Symbol.{ascii}
use Rattle.pointers.specs.Tables.{Tables, chains, tables_of, image_in, with_index, reading_new}
use Rattle.pointers.proofs.Chains.{rebase_last_wins, bind_last_wins}
use Rattle.pointers.proofs.SortedLookups.{sorted_past}
use Rattle.records.specs.Category.{decode_category_lists, decode_category_properties, decode_category_of, decode_category, category_at, category_class_name}
use Rattle.records.specs.Class.{bits_of, decode_data, decode_class, class_at, decode_ro_lists, decode_class_ro, decode_ro_of, ro_of, decode_ro_data, decode_class_name, decode_nonzero_class_name, decode_bound_name, decode_class_name_of, superclass_name}
use Rattle.records.specs.Ask.{even_list, entry_size}
use Rattle.records.specs.List.{method_rows, decode_list, list_at, entry}
use Rattle.records.specs.Protocol.{decode_protocol_lists, decode_class_properties, decode_protocol, protocol_at}
use Rattle.records.specs.Row.{method_of, legacy_imp, decode_legacy_method, decode_row, row_at}
use Rattle.records.specs.Search.{all_from, readables}
use Rattle.records.specs.declared.category.ObjcCategory.{ObjcCategory}
use Rattle.records.specs.declared.class.ClassRo.{ClassRo}
use Rattle.records.specs.declared.class.ObjcClass.{ObjcClass}
use Rattle.records.specs.declared.list.Layout.{Layout}
use Rattle.records.specs.declared.list.ListKind.{ListKind}
use Rattle.records.specs.declared.list.ListKind.TheVariants.{Methods, Ivars, Properties}
use Rattle.records.specs.declared.list.RowKind.TheVariants.{Legacy}
use Rattle.records.specs.declared.method.MethodKind.TheVariants as kind
use Rattle.records.specs.declared.protocol.ObjcProtocol.{ObjcProtocol}
use Rattle.records.specs.declared.row.Row.{Row}
use Rattle.records.specs.declared.row.Row.TheVariants as row
use Rattle.walks.specs.Gather.{gather}
use Rattle.walks.specs.declared.slots.Lists.TheVariants.{Classes, Categories}
use Rattle.walks.specs.PlainSections.{addresses_in, without, once, listed, with_meta, plain_classes, plain_protocols, plain_categories}
use Rattle.walks.specs.Slots.{slots_from, section_slots, address_in, decode_address, slot_count}
use Rattle.walks.specs.ProtocolNames.{protocol_list_at, decode_protocol_list, has_slot, decode_protocol_name, decode_protocol_name_in, decode_name_in, slot_names, protocol_names}
use Rattle.walks.specs.Sections.{meta_of}
use Rattle.listing.specs.Bundle.{words_from, bundle_fits, bundle_counts, bundled}
use Rattle.listing.specs.PlainListing as plain
use Rattle.listing.specs.declared.at.Record.{Record}
use Rattle.listing.specs.declared.at.Record.TheVariants as a_record
use Rattle.listing.specs.declared.bundle.Counts.{Counts}
use Rattle.listing.specs.declared.line.Line.{Line}
use Rattle.listing.specs.declared.line.Line.TheVariants as line
use Rattle.listing.specs.ListingRun.{Lists}
use Rattle.listing.proofs.EmptyLists.{no_list, no_names}
use Rattle.listing.proofs.LittleEndian.{fours, eights}
use Rattle.listing.proofs.WholeListing.{lists_with_room}
use Rattle.std.specs.Prelude.{Some, None}

-- 440 bytes of file 0 at 0x1000. 0x1000: class_t of the class and, at 0x1028, of its metaclass: isa, superclass, cache, vtable, bits.
abbrev class_bytes : List ℕ
class_bytes = eights (0x1028 ∷ 0 ∷ 0 ∷ 0 ∷ 0x1050 ∷ []) ++ eights (0 ∷ 0 ∷ 0 ∷ 0 ∷ 0x1098 ∷ [])

-- 0x1050 and 0x1098: class_ro_t of each. flags, start, size, reserved; ivar layout, name, methods, protocols, ivars, weak layout, properties.
abbrev ro_bytes : List ℕ
ro_bytes =
    fours (0 ∷ 8 ∷ 16 ∷ 0 ∷ [])
    ++ eights (0 ∷ 0x11B8 ∷ 0 ∷ 0 ∷ 0 ∷ 0 ∷ 0 ∷ [])
    ++ fours (1 ∷ 40 ∷ 40 ∷ 0 ∷ [])
    ++ eights (0 ∷ 0x11B8 ∷ 0x1158 ∷ 0 ∷ 0 ∷ 0 ∷ 0 ∷ [])

-- 0x10E0: protocol_t. isa, name, protocols, four method lists, properties; size, flags.
abbrev protocol_bytes : List ℕ
protocol_bytes = eights (0 ∷ 0x11BD ∷ 0 ∷ 0 ∷ 0 ∷ 0 ∷ 0 ∷ 0 ∷ []) ++ fours (72 ∷ 0 ∷ [])

-- 0x1128: category_t. Name, class, instance methods, class methods, protocols, properties.
abbrev category_bytes : List ℕ
category_bytes = eights (0x11C3 ∷ 0x1000 ∷ 0x1158 ∷ 0x1158 ∷ 0x1190 ∷ 0 ∷ [])

-- 0x1158: the method list. Size and count; two rows of selector, types, imp.
abbrev method_bytes : List ℕ
method_bytes = fours (24 ∷ 2 ∷ []) ++ eights (0x11C9 ∷ 0x11CC ∷ 0x2000 ∷ []) ++ eights (0 ∷ 0x11CC ∷ 0 ∷ [])

-- The 22 bytes of file 1, at 0x11B8: the strings.
abbrev name_bytes : List ℕ
name_bytes = ascii "Node" ++ 0 ∷ ascii "Walks" ++ 0 ∷ ascii "Extra" ++ 0 ∷ ascii "go" ++ 0 ∷ ascii "v" ++ 0 ∷ []

-- 0x1190: the protocol list, of one slot; 0x11A0: class_list, proto_list and cat_list.
unfoldable pub node_bytes : List ℕ
node_bytes = class_bytes ++ ro_bytes ++ protocol_bytes ++ category_bytes ++ method_bytes ++ eights (1 ∷ 0x10E0 ∷ []) ++ eights (0x1000 ∷ 0x10E0 ∷ 0x1128 ∷ [])

abbrev pub node_files : List (List ℕ)
node_files = node_bytes ∷ name_bytes ∷ [] ∷ [] ∷ []

abbrev pub node_segments : List ℕ
node_segments = 0x1000 ∷ 440 ∷ 0 ∷ 440 ∷ 0 ∷ 0x11B8 ∷ 22 ∷ 0 ∷ 22 ∷ 1 ∷ []

abbrev pub node_sections : List ℕ
node_sections = 1 ∷ 0x11A0 ∷ 8 ∷ 0 ∷ 0 ∷ 0 ∷ 1 ∷ 0x11B0 ∷ 8 ∷ 0 ∷ 0 ∷ 0 ∷ 1 ∷ 0x11A8 ∷ 8 ∷ []

-- The tables, with the index as opening leaves it over any words.
abbrev pub node : List ℕ → Tables
node before = tables_of node_files node_segments node_sections (replicate 8 0) [] [] (indexed [] [] before)

pub node_lengths : (length node_bytes ≡ 440) × (length name_bytes ≡ 22)
unfolding node_bytes
node_lengths = (refl, refl)

-- C 1000 1028 0 1050 - and M 1028 0 0 1098 -
abbrev node_class : ObjcClass
node_class = record { address = 0x1000; isa = 0x1028; superclass_address = 0; bits = 0x1050; is_meta = false }

abbrev meta_class : ObjcClass
meta_class = record { address = 0x1028; isa = 0; superclass_address = 0; bits = 0x1098; is_meta = true }

-- R 1050 0 8 10 4:Node and R 1098 1 28 28 4:Node
abbrev ro : ℕ → ℕ → ℕ → ℕ → ℕ → ClassRo
ro address flags start size methods =
    record {
      address = address;
      flags = flags;
      instance_start = start;
      instance_size = size;
      name = text_of 1 0 4;
      ivar_layout_address = 0;
      methods = methods;
      protocols = 0;
      ivars = 0;
      weak_ivar_layout_address = 0;
      properties = 0;
    }

abbrev node_ro : ClassRo
node_ro = ro 0x1050 0 8 16 0

abbrev meta_ro : ClassRo
meta_ro = ro 0x1098 1 40 40 0x1158

-- P 10e0 48 0 5:Walks
abbrev walks_protocol : ObjcProtocol
walks_protocol =
    record {
      address = 0x10E0;
      name = text_of 1 5 5;
      protocols = 0;
      instance_methods = 0;
      class_methods = 0;
      optional_instance_methods = 0;
      optional_class_methods = 0;
      instance_properties = 0;
      class_properties = 0;
      size = 72;
      flags = 0;
    }

-- K 1128 1000 5:Extra 4:Node
abbrev extra_category : ObjcCategory
extra_category =
    record {
      address = 0x1128;
      name = text_of 1 11 5;
      class_address = 0x1000;
      instance_methods = 0x1158;
      class_methods = 0x1158;
      protocols = 0x1190;
      instance_properties = 0;
      class_properties = 0;
    }

-- The method list, and its row: 2:go 1:v 2000 0.
abbrev two_methods : Layout
two_methods = record { base = 0x1160; size = 24; count = 2; kind = Legacy }

abbrev go_row : Row
go_row = row.Method (method_of (text_of 1 17 2) (text_of 1 20 1) (Some 0x2000) kind.Legacy)

-- The twelve lines: I 0 0 1; C, R; M, R and its row m 0 2:go 1:v 2000 0; P; K, the row once for each of its two fields, q 2 5:Walks; E 4 6.
abbrev pub twelve_lines : List Line
twelve_lines =
    plain.info_line (info_of 0 0) reading_new
    ∷ plain.class_line node_class None
    ∷ line.Ro node_ro
    ∷ plain.class_line meta_class None
    ∷ line.Ro meta_ro
    ∷ plain.row_line 0 go_row
    ∷ line.Protocol walks_protocol
    ∷ plain.category_line extra_category (Some (text_of 1 0 4))
    ∷ plain.row_line 0 go_row
    ∷ plain.row_line 1 go_row
    ∷ plain.name_line 2 (text_of 1 5 5)
    ∷ line.End (record { records = 4; settled = 6 })
    ∷ []

-- Both entries of the list are settled once for each field that names it: by the metaclass, which is record 1, and twice by the category.
abbrev pub six_events : List plain.Event
six_events =
    plain.event 1 0 (plain.with_row 0)
    ∷ plain.event 1 0 (plain.without_row 1 NullAddress)
    ∷ plain.event 3 0 (plain.with_row 0)
    ∷ plain.event 3 0 (plain.without_row 1 NullAddress)
    ∷ plain.event 3 1 (plain.with_row 0)
    ∷ plain.event 3 1 (plain.without_row 1 NullAddress)
    ∷ []

module _ (before : List ℕ) where
  no_number : (a : ℕ) (l : Lookup) → rebase_number l [] (indexed [] [] before) a ≡ absent NoRecord
  unfolding last_among
  no_number a Chained = rebase_last_wins [] [] before a
  no_number a Sorted = sym (sorted_past [] a _ (omega arith))

  pub no_rebase_lem : (u : Setting) (a : ℕ) → rebase_at [] (indexed [] [] before) u a ≡ absent NoRecord
  unfolding rebase_at
  no_rebase_lem u a = rw (no_number a u.lookup)

  pub no_bind : (files : List (List ℕ)) (a : ℕ) → bind_at files [] [] (indexed [] [] before) a ≡ absent NoRecord
  unfolding bind_at last_among
  no_bind files a = rw (bind_last_wins [] [] before a)

  -- The records.
  the_class : class_at (node before) 0x1000 false ≡ value node_class
  unfolding file_of decode_class decode_data bits_of picked picked_wide mapped data_arm64e data64 resolve readable readable_at lookup rows ends holds placed sum64 stored word stripped le nonzero choose node_bytes
  the_class = simp no_rebase_lem

  the_meta : class_at (node before) 0x1028 true ≡ value meta_class
  unfolding file_of decode_class decode_data bits_of picked picked_wide mapped data_arm64e data64 resolve readable readable_at lookup rows ends holds placed sum64 stored word stripped le nonzero choose node_bytes
  the_meta = simp no_rebase_lem

  class_addresses : listed (node before) Classes ≡ value (0x1000 ∷ [])
  unfolding file_of listed once without addresses_in gather section_slots slots_from section_at slot_address decode_address resolve readable readable_at lookup rows ends holds placed sum64 stored word stripped le nonzero choose node_bytes
  class_addresses = simp no_rebase_lem

  protocol_address : address_in (node before) 0x11A8 ≡ value 0x10E0
  unfolding file_of decode_address resolve readable readable_at lookup rows ends holds placed sum64 stored word stripped le nonzero choose node_bytes
  protocol_address = simp no_rebase_lem

  category_addresses : listed (node before) Categories ≡ value (0x1128 ∷ [])
  unfolding file_of listed once without addresses_in gather section_slots slots_from section_at slot_address decode_address resolve readable readable_at lookup rows ends holds placed sum64 stored word stripped le nonzero choose node_bytes
  category_addresses = simp no_rebase_lem

  the_protocol : protocol_at (node before) 0x10E0 ≡ value walks_protocol
  unfolding file_of decode_protocol decode_protocol_lists decode_class_properties pointer_at pointer_or0_at word_in le_in text_in text_from text utf8 judge resolve readable readable_at lookup rows ends holds placed sum64 stored word stripped le nonzero choose node_bytes
  the_protocol = simp no_rebase_lem

  the_category : category_at (node before) 0x1128 ≡ value extra_category
  unfolding file_of decode_category decode_category_of decode_category_lists decode_category_properties image_info bit pointer_or0_at text_in text_from text utf8 judge resolve readable readable_at lookup rows ends holds placed sum64 stored word stripped le nonzero choose node_bytes
  the_category = simp no_rebase_lem

  the_classes_lem : plain_classes (node before) ≡ value (node_class ∷ meta_class ∷ [])
  unfolding plain_classes with_meta meta_of gather nonzero choose
  the_classes_lem = rw (class_addresses, the_class, the_meta)

  the_protocols_lem : plain_protocols (node before) ≡ value (walks_protocol ∷ [])
  unfolding plain_protocols gather section_slots slots_from section_at slot_address choose
  the_protocols_lem = rw (protocol_address, the_protocol)

  the_categories_lem : plain_categories (node before) ≡ value (extra_category ∷ [])
  unfolding plain_categories gather
  the_categories_lem = rw (category_addresses, the_category)

  abbrev four_records : List Record
  four_records = a_record.Class node_class ∷ a_record.Class meta_class ∷ a_record.Protocol walks_protocol ∷ a_record.Category extra_category ∷ []

  the_records : plain.plain_records (node before) ≡ value four_records
  unfolding plain.plain_records
  the_records = rw (the_classes_lem, the_protocols_lem, the_categories_lem)

  -- Their names and class_ros.
  node_ro_there : ro_of (node before) node_class ≡ value node_ro
  unfolding file_of decode_ro_of decode_class_ro decode_ro_lists picked picked_wide mapped data_arm64e data64 pointer_at pointer_or0_at word_in le_in text_in text_from text utf8 judge resolve readable readable_at lookup rows ends holds placed sum64 stored word stripped le nonzero choose node_bytes
  node_ro_there = simp no_rebase_lem

  meta_ro_there : ro_of (node before) meta_class ≡ value meta_ro
  unfolding file_of decode_ro_of decode_class_ro decode_ro_lists picked picked_wide mapped data_arm64e data64 pointer_at pointer_or0_at word_in le_in text_in text_from text utf8 judge resolve readable readable_at lookup rows ends holds placed sum64 stored word stripped le nonzero choose node_bytes
  meta_ro_there = simp no_rebase_lem

  node_superclass : superclass_name (node before) node_class ≡ absent NullAddress
  unfolding decode_class_name_of decode_nonzero_class_name decode_bound_name symbol_of sum64 nonzero choose
  node_superclass = rw (no_bind node_files 0x1008)

  meta_superclass : superclass_name (node before) meta_class ≡ absent NullAddress
  unfolding decode_class_name_of decode_nonzero_class_name decode_bound_name symbol_of sum64 nonzero choose
  meta_superclass = rw (no_bind node_files 0x1030)

  category_class : category_class_name (node before) extra_category ≡ value (text_of 1 0 4)
  unfolding file_of decode_class_name_of decode_nonzero_class_name decode_class_name decode_ro_data picked picked_wide mapped data_arm64e data64 pointer_at text_in text_from text utf8 judge resolve readable readable_at lookup rows ends holds placed sum64 stored word stripped le nonzero choose node_bytes
  category_class = simp no_rebase_lem

  -- The lists.
  the_methods : list_at (node before) Methods 0x1158 ≡ value two_methods
  unfolding file_of decode_list even_list entry_size method_rows bit word_in le_in resolve readable readable_at lookup rows ends holds placed sum64 stored word stripped le nonzero choose node_bytes
  the_methods = refl

  both_readable : readables (image_in (node before)) two_methods ≡ 0 ∷ 1 ∷ []
  unfolding file_of readables all_from entry can_read resolve readable readable_at lookup rows ends holds placed sum64 stored word stripped le nonzero choose node_bytes
  both_readable = refl

  first_row : row_at (node before) Legacy 0x1160 ≡ value go_row
  unfolding file_of decode_row decode_legacy_method legacy_imp pointer_at pointer_or0_at text_in text_from text utf8 judge resolve readable readable_at lookup rows ends holds placed sum64 stored word stripped le nonzero choose node_bytes
  first_row = simp no_rebase_lem

  second_row : row_at (node before) Legacy 0x1178 ≡ absent NullAddress
  unfolding file_of decode_row decode_legacy_method legacy_imp pointer_at pointer_or0_at text_in text_from text utf8 judge resolve readable readable_at lookup rows ends holds placed sum64 stored word stripped le nonzero choose node_bytes
  second_row = simp no_rebase_lem

  one_name : protocol_list_at (node before) 0x1190 ≡ value (record { base = 0x1198; count = 1 })
  unfolding file_of decode_protocol_list even_list word_in le_in resolve readable readable_at lookup rows ends holds placed sum64 stored word stripped le nonzero choose node_bytes
  one_name = refl

  its_slots : slot_names (node before) (record { base = 0x1198; count = 1 }) 0 1 ≡ value (text_of 1 5 5) ∷ []
  unfolding file_of slot_names has_slot decode_name_in decode_protocol_name_in decode_protocol_name decode_protocol decode_protocol_lists decode_class_properties pointer_at pointer_or0_at word_in le_in text_in text_from text utf8 judge resolve readable readable_at lookup rows ends holds placed sum64 stored word stripped le nonzero choose node_bytes
  its_slots = simp no_rebase_lem

  -- The lines and the settling steps of a field that names the list, and of one that names none.
  list_lines : (n : ℕ) → plain.field_lines (node before) n (plain.row_list Methods 0x1158) ≡ value (plain.row_line n go_row ∷ [])
  unfolding plain.field_lines gather
  list_lines n = rw (the_methods, both_readable, first_row, second_row)

  list_entries : plain.entries_in (node before) (plain.row_list Methods 0x1158) ≡ value (plain.with_row 0 ∷ plain.without_row 1 NullAddress ∷ [])
  unfolding plain.entries_in gather
  list_entries = rw (the_methods, both_readable, first_row, second_row)

  none_lines : (n : ℕ) (k : ListKind) → plain.field_lines (node before) n (plain.row_list k 0) ≡ value []
  unfolding plain.field_lines
  none_lines n k = rw (no_list (node before) k)

  none_entries : (k : ListKind) → plain.entries_in (node before) (plain.row_list k 0) ≡ value []
  unfolding plain.entries_in
  none_entries k = rw (no_list (node before) k)

  name_entries : (va : ℕ) → plain.entries_in (node before) (plain.name_list va) ≡ value []
  unfolding plain.entries_in
  name_entries va = refl

  no_name_lines : (n : ℕ) → plain.field_lines (node before) n (plain.name_list 0) ≡ value []
  unfolding plain.field_lines protocol_names
  no_name_lines n = rw (no_names (node before))

  name_lines : (n : ℕ) → plain.field_lines (node before) n (plain.name_list 0x1190) ≡ value (plain.name_line n (text_of 1 5 5) ∷ [])
  unfolding plain.field_lines protocol_names gather
  name_lines n = rw (one_name, its_slots)

  node_lines : plain.lines_of (node before) (a_record.Class node_class) ≡ value (plain.class_line node_class None ∷ line.Ro node_ro ∷ [])
  unfolding plain.lines_of plain.own_lines plain.record_fields plain.fields_lines
  node_lines = rw (node_superclass, node_ro_there, none_lines 0 Methods, none_lines 1 Ivars, none_lines 2 Properties, no_name_lines 3)

  meta_lines : plain.lines_of (node before) (a_record.Class meta_class)
      ≡ value (plain.class_line meta_class None ∷ line.Ro meta_ro ∷ plain.row_line 0 go_row ∷ [])
  unfolding plain.lines_of plain.own_lines plain.record_fields plain.fields_lines
  meta_lines = rw (meta_superclass, meta_ro_there, list_lines 0, none_lines 1 Ivars, none_lines 2 Properties, no_name_lines 3)

  protocol_lines : plain.lines_of (node before) (a_record.Protocol walks_protocol) ≡ value (line.Protocol walks_protocol ∷ [])
  unfolding plain.lines_of plain.own_lines plain.record_fields plain.fields_lines
  protocol_lines =
      rw (
        none_lines 0 Methods,
        none_lines 1 Methods,
        none_lines 2 Methods,
        none_lines 3 Methods,
        none_lines 4 Properties,
        none_lines 5 Properties,
        no_name_lines 6,
      )

  category_lines : plain.lines_of (node before) (a_record.Category extra_category)
      ≡ value
      (plain.category_line extra_category (Some (text_of 1 0 4))
      ∷ plain.row_line 0 go_row
      ∷ plain.row_line 1 go_row
      ∷ plain.name_line 2 (text_of 1 5 5)
      ∷ [])
  unfolding plain.lines_of plain.own_lines plain.record_fields plain.fields_lines
  category_lines =
      rw (category_class, list_lines 0, list_lines 1, name_lines 2, none_lines 3 Properties, none_lines 4 Properties)

  the_settling : plain.events_from (node before) 0 four_records ≡ value six_events
  unfolding plain.events_from plain.record_events plain.record_fields plain.field_events
  the_settling =
      rw (node_ro_there, meta_ro_there, list_entries, none_entries Methods, none_entries Ivars, none_entries Properties, name_entries 0, name_entries 0x1190)

  pub node_events : plain.plain_events (node before) ≡ value six_events
  node_events = rw the_records the_settling

  pub node_listing : plain.plain_listing (node before) ≡ value twelve_lines
  unfolding file_of plain.plain_listing gather word_in le_in le choose
  node_listing = rw (the_records, node_lines, meta_lines, protocol_lines, category_lines) (rw the_settling)

  -- Opening accepts the tables, with an index of at least 8,192 words.
  module _ (enough : 2 * chains ≤ length before) where
    accepts : asked_opening (with_index (node before) before) ≡ value tt
    unfolding asked_opening asked_tables asked_index question image_fits longest segment_files whole_rows every section_fits section_table info_whole bind_files names_inside names_utf8 index_fits choose node_bytes
    accepts = rw (le-leb (2 * chains) (length before) enough)

    pub node_opened : Opened (node before)
    unfolding opening opened_index image_info le choose
    node_opened = record { index_before = before; gave = info_of 0 0; accepted = rw accepts; left = rw accepts }

    -- The steps of the listing, with any ledger that has a word, say the twelve lines and settle the six entries.
    pub node_steps_say : (l : List ℕ) → 1 ≤ length l → Lists reading_new (node before) l twelve_lines six_events
    node_steps_say l room =
        let one : slot_count node_sections 0 1 ≡ 1 = unfold slot_count section_at choose in refl in
        let other : slot_count node_sections 2 3 ≡ 1 = unfold slot_count section_at choose in refl in
        lists_with_room (node before) node_opened l (rw one room) (rw other room) twelve_lines six_events node_listing node_events

-- The same as a bundle: two segments, no rebase, no bind, 440 bytes of file 0 and 22 of file 1; all four ends 0; image info 0; segments; sections; the files. It
-- is accepted, and its tables are those above.
abbrev pub node_bundle : List ℕ
node_bundle = eights (2 ∷ 0 ∷ 0 ∷ 440 ∷ 22 ∷ 0 ∷ 0 ∷ 0 ∷ 0 ∷ 0 ∷ 0 ∷ []) ++ (replicate 8 0 ++ (eights node_segments ++ (eights node_sections ++ (node_bytes ++ name_bytes))))

abbrev pub node_counts : Counts
node_counts = record { segments = 2; rebases = 0; binds = 0; image0 = 440; image1 = 22; image2 = 0; image3 = 0 }

pub node_accepted : bundle_counts node_bundle ≡ value node_counts
unfolding file_of bundle_counts bundle_fits word_in le_in le choose node_bytes
node_accepted = refl

pub node_tables : (before : List ℕ) → bundled node_bundle node_counts (indexed [] [] before) ≡ node before
unfolding file_of words_from word_in le_in le choose node_bytes
node_tables before = refl

-- The texts that the lines hold.
pub node_texts : map (λ (x : Text). part (file_of node_files x.file) x.offset x.len) (text_of 1 0 4 ∷ text_of 1 5 5 ∷ text_of 1 11 5 ∷ text_of 1 17 2 ∷ text_of 1 20 1 ∷ [])
    ≡ ascii "Node" ∷ ascii "Walks" ∷ ascii "Extra" ∷ ascii "go" ∷ ascii "v" ∷ []
unfolding file_of
node_texts = refl
