-- Two worked files for the two readings (document 02, note 12): one class with one method, whose selector stands behind everything else. In the
-- first a byte that is not 0 follows the selector's zero byte: every string that is asked for ends, and both readings list alike. The second is
-- cut off before that zero byte: the old reading shows the method, the new one skips it.
use Rattle.std.proofs.Common.{◌≡◌, ℕ, ◌*◌, ◌-◌, ◌≤◌, false, List, [], ◌∷◌, ◌++◌, length, get_or, replicate, sym, refl, ◌∙◌, subst, append-nil, arith, le-leb}
use Rattle.reads.specs.Breaks.{can_read}
use Rattle.reads.specs.Endings.{ZeroFrom, StringEnds}
use Rattle.reads.specs.Outcome.{Outcome, value, absent, choose, sum64, nonzero, text_of}
use Rattle.reads.specs.Files.{file_of, longest}
use Rattle.reads.specs.Place.{le, readable_at, readable, word, word_in, le_in}
use Rattle.reads.specs.Address.{stripped, data_arm64e, data64, mapped, picked_wide, picked}
use Rattle.reads.specs.Relative.{slot_address}
use Rattle.reads.specs.Segment.{rows, ends, holds, place_at, placed, lookup}
use Rattle.reads.specs.Text.{text, text_from, text_in}
use Rattle.reads.specs.Utf8.{judge, utf8}
use Rattle.reads.specs.declared.answer.Reason.{Reason}
use Rattle.reads.specs.declared.answer.Reason.TheVariants.{NullAddress, Unterminated}
use Rattle.reads.specs.declared.place.Place.{Place}
use Rattle.reads.specs.declared.text.Reading.{Reading}
use Rattle.reads.specs.declared.text.Reading.TheVariants.{Old, New}
use Rattle.pointers.specs.ImageInfo.{info_of, image_info, bit}
use Rattle.pointers.specs.Index.{indexed}
use Rattle.pointers.specs.Open.{asked_opening, opening, opened_index, Opened}
use Rattle.pointers.specs.Question.{question, image_fits, whole_rows, segment_files, section_fits, every, section_table, info_whole, bind_files, names_inside, names_utf8, index_fits, asked_tables, asked_index}
use Rattle.pointers.specs.Section.{section_at}
use Rattle.pointers.specs.Slot.{symbol_of, stored, resolve, pointer_at, pointer_or0_at}
use Rattle.pointers.specs.Symbol.{ascii}
use Rattle.pointers.specs.Tables.{Tables, chains, tables_of, image_in, with_index, reading_under, under}
use Rattle.pointers.specs.declared.setting.Setting.{Setting}
use Rattle.records.specs.Ask.{even_list, entry_size}
use Rattle.records.specs.Asks.{asks}
use Rattle.records.specs.Class.{bits_of, decode_data, decode_class, class_at, decode_ro_lists, decode_class_ro, decode_ro_of, ro_of, decode_nonzero_class_name, decode_bound_name, decode_class_name_of, superclass_name}
use Rattle.records.specs.Decode.{Decode}
use Rattle.records.specs.List.{method_rows, decode_list, list_at, entry}
use Rattle.records.specs.Readings.{under_old, under_new, strings_among, strings_asked, StringsEnd}
use Rattle.records.specs.Row.{method_of, legacy_imp, decode_legacy_method, decode_row, row_at}
use Rattle.records.specs.Search.{all_from, readables}
use Rattle.records.specs.declared.class.ClassRo.{ClassRo}
use Rattle.records.specs.declared.class.ObjcClass.{ObjcClass}
use Rattle.records.specs.declared.list.Layout.{Layout}
use Rattle.records.specs.declared.list.ListKind.TheVariants.{Methods, Ivars, Properties}
use Rattle.records.specs.declared.list.RowKind.TheVariants.{Legacy}
use Rattle.records.specs.declared.method.MethodKind.TheVariants as kind
use Rattle.records.specs.declared.row.Row.{Row}
use Rattle.records.specs.declared.row.Row.TheVariants as row
use Rattle.records.proofs.Readings.{strings_append}
use Rattle.walks.specs.Gather.{gather}
use Rattle.walks.specs.PlainSections.{addresses_in, without, once, listed, with_meta, plain_classes, plain_protocols, plain_categories}
use Rattle.walks.specs.ProtocolNames.{decode_protocol_list, protocol_names}
use Rattle.walks.specs.Sections.{meta_of}
use Rattle.walks.specs.Slots.{slots_from, section_slots, decode_address}
use Rattle.walks.specs.declared.slots.Lists.TheVariants.{Classes}
use Rattle.listing.specs.DecodeListing as decode
use Rattle.listing.specs.DecodeListing.{decode_listing}
use Rattle.listing.specs.PlainListing as plain
use Rattle.listing.specs.PlainListing.{Event, event, with_row, without_row, plain_records, events_from, plain_events, plain_listing}
use Rattle.listing.specs.declared.at.Record.{Record}
use Rattle.listing.specs.declared.at.Record.TheVariants as a_record
use Rattle.listing.specs.declared.line.Line.{Line}
use Rattle.listing.specs.declared.line.Line.TheVariants as line
use Rattle.listing.proofs.DecodedListing.{records_run, own_lines_run, fields_run, fields_lines_run, field_events_run}
use Rattle.listing.proofs.EmptyLists.{no_list, no_names}
use Rattle.listing.proofs.ListedAsBefore.{listed_as_before}
use Rattle.listing.proofs.LittleEndian.{fours, eights}
use Rattle.listing.proofs.NodeListing.{no_rebase_lem, no_bind}
use Rattle.std.specs.Prelude.{Some, None}

-- 0x1000: class_t. isa, superclass, cache, vtable, bits. 0x1028: class_ro_t. flags, start, size, reserved; ivar layout, name, methods, and four
-- more. 0x1070: class_list. 0x1078: the method list. Size and count; selector, types, imp. 0x1098: the strings.
unfoldable pub bytes : List ℕ → List ℕ
bytes selector =
    eights (0 ∷ 0 ∷ 0 ∷ 0 ∷ 0x1028 ∷ [])
    ++ fours (0 ∷ 8 ∷ 8 ∷ 0 ∷ [])
    ++ eights (0 ∷ 0x1098 ∷ 0x1078 ∷ 0 ∷ 0 ∷ 0 ∷ 0 ∷ [])
    ++ eights (0x1000 ∷ [])
    ++ fours (24 ∷ 1 ∷ [])
    ++ eights (0x109E ∷ 0x109C ∷ 0x2000 ∷ [])
    ++ (ascii "Hub" ++ 0 ∷ ascii "v" ++ 0 ∷ selector)

-- The two files: the selector is "up", with its zero byte and an "x" behind it, or without.
pub data File : Type 0 where
  whole : File
  cut : File

abbrev pub selector_in : File → List ℕ
selector_in whole = ascii "up" ++ 0 ∷ ascii "x"
selector_in cut = ascii "up"

-- The segment is longer than either file.
abbrev pub file_segments : List ℕ
file_segments = 0x1000 ∷ 256 ∷ 0 ∷ 256 ∷ 0 ∷ []

abbrev pub sections : List ℕ
sections = 1 ∷ 0x1070 ∷ 8 ∷ 0 ∷ 0 ∷ 0 ∷ 0 ∷ 0 ∷ 0 ∷ 0 ∷ 0 ∷ 0 ∷ 0 ∷ 0 ∷ 0 ∷ []

abbrev pub file : List ℕ → File → Tables
file before f = tables_of (bytes (selector_in f) ∷ []) file_segments sections (replicate 8 0) [] [] (indexed [] [] before)

-- C 1000 0 0 1028 - and R 1028 0 8 8 3:Hub
abbrev file_class : ObjcClass
file_class = record { address = 0x1000; isa = 0; superclass_address = 0; bits = 0x1028; is_meta = false }

abbrev the_record : Record
the_record = a_record.Class file_class

abbrev the_ro : ClassRo
the_ro =
    record {
      address = 0x1028;
      flags = 0;
      instance_start = 8;
      instance_size = 8;
      name = text_of 0 0x98 3;
      ivar_layout_address = 0;
      methods = 0x1078;
      protocols = 0;
      ivars = 0;
      weak_ivar_layout_address = 0;
      properties = 0;
    }

-- The method list, and its row: 2:up 1:v 2000 0.
abbrev one_method : Layout
one_method = record { base = 0x1080; size = 24; count = 1; kind = Legacy }

abbrev the_row : Row
the_row = row.Method (method_of (text_of 0 0x9E 2) (text_of 0 0x9C 1) (Some 0x2000) kind.Legacy)

-- The lines: I 0 0 and the reading, C, R, the method's if it is shown, and E 1 1.
abbrev pub file_lines : Reading → List Line → List Line
file_lines r method =
    plain.info_line (info_of 0 0) (reading_under r) ∷ plain.class_line file_class None ∷ line.Ro the_ro ∷ (method ++ (plain.end_line 1 1 ∷ []))

abbrev pub method_line : Line
method_line = plain.row_line 0 the_row

-- The strings that a definition asks for.
abbrev strings : {A : Type 0} → Tables → Decode A → List ℕ
strings t d = strings_among (asks t d)

same_place : (a b : Place) → ◌≡◌ {A = Outcome Place} (value a) (value b) → a ≡ b
same_place a b e = cc

module _ (before : List ℕ) where
  -- What both files hold under any setting: the class, and the method list of one entry, which is readable.
  module _ (u : Setting) where
    file_classes : (f : File) → listed (under u (file before f)) Classes ≡ value (0x1000 ∷ [])
    unfolding file_of listed once without addresses_in gather section_slots slots_from section_at slot_address decode_address resolve readable readable_at lookup rows ends holds placed sum64 stored word stripped le nonzero choose bytes
    file_classes whole = simp (no_rebase_lem before)
    file_classes cut = simp (no_rebase_lem before)

    class_there : (f : File) → class_at (under u (file before f)) 0x1000 false ≡ value file_class
    unfolding file_of decode_class decode_data bits_of picked picked_wide mapped data_arm64e data64 resolve readable readable_at lookup rows ends holds placed sum64 stored word stripped le nonzero choose bytes
    class_there whole = simp (no_rebase_lem before)
    class_there cut = simp (no_rebase_lem before)

    classes_there : (f : File) → plain_classes (under u (file before f)) ≡ value (file_class ∷ [])
    unfolding plain_classes with_meta meta_of gather nonzero choose
    classes_there f = rw (file_classes f, class_there f)

    file_records : (f : File) → plain_records (under u (file before f)) ≡ value (the_record ∷ [])
    unfolding plain_records plain_protocols plain_categories listed once addresses_in gather section_slots slots_from section_at choose
    file_records f = rw (classes_there f)

    superclass_absent : (f : File) → superclass_name (under u (file before f)) file_class ≡ absent NullAddress
    unfolding decode_class_name_of decode_nonzero_class_name decode_bound_name symbol_of sum64 nonzero choose
    superclass_absent f = rw (no_bind before (bytes (selector_in f) ∷ []) 0x1008)

    methods_there : (f : File) → list_at (under u (file before f)) Methods 0x1078 ≡ value one_method
    unfolding file_of decode_list even_list entry_size method_rows bit word_in le_in resolve readable readable_at lookup rows ends holds placed sum64 stored word stripped le nonzero choose bytes
    methods_there whole = refl
    methods_there cut = refl

    one_readable : (f : File) → readables (image_in (under u (file before f))) one_method ≡ 0 ∷ []
    unfolding file_of readables all_from entry can_read resolve readable readable_at lookup rows ends holds placed sum64 stored word stripped le nonzero choose bytes
    one_readable whole = refl
    one_readable cut = refl

  -- The class_ro, whose name ends, and the method: in the file that is cut off its selector is there under the old reading alone.
  old_ro : (f : File) → ro_of (under_old (file before f)) file_class ≡ value the_ro
  unfolding file_of decode_ro_of decode_class_ro decode_ro_lists picked picked_wide mapped data_arm64e data64 pointer_at pointer_or0_at word_in le_in text_in text_from text utf8 judge resolve readable readable_at lookup rows ends holds placed sum64 stored word stripped le nonzero choose bytes
  old_ro whole = simp (no_rebase_lem before)
  old_ro cut = simp (no_rebase_lem before)

  new_ro : ro_of (under_new (file before cut)) file_class ≡ value the_ro
  unfolding file_of decode_ro_of decode_class_ro decode_ro_lists picked picked_wide mapped data_arm64e data64 pointer_at pointer_or0_at word_in le_in text_in text_from text utf8 judge resolve readable readable_at lookup rows ends holds placed sum64 stored word stripped le nonzero choose bytes
  new_ro = simp (no_rebase_lem before)

  old_row : (f : File) → row_at (under_old (file before f)) Legacy 0x1080 ≡ value the_row
  unfolding file_of decode_row decode_legacy_method legacy_imp pointer_at pointer_or0_at text_in text_from text utf8 judge resolve readable readable_at lookup rows ends holds placed sum64 stored word stripped le nonzero choose bytes
  old_row whole = simp (no_rebase_lem before)
  old_row cut = simp (no_rebase_lem before)

  new_row : row_at (under_new (file before cut)) Legacy 0x1080 ≡ absent Unterminated
  unfolding file_of decode_row decode_legacy_method legacy_imp pointer_at pointer_or0_at text_in text_from text utf8 judge resolve readable readable_at lookup rows ends holds placed sum64 stored word stripped le nonzero choose bytes
  new_row = simp (no_rebase_lem before)

  -- The parts of the listing, with the row and without it.
  module _ (r : Reading) (f : File) where
    abbrev tables : Tables
    tables = under (reading_under r) (file before f)

    module _ (ro : ro_of tables file_class ≡ value the_ro) where
      record_lines_lem : plain.own_lines tables the_record ≡ value (plain.class_line file_class None ∷ line.Ro the_ro ∷ [])
      unfolding plain.own_lines
      record_lines_lem = rw (superclass_absent (reading_under r) f, ro)

      ro_fields_lem : plain.record_fields tables the_record ≡ value (plain.ro_fields the_ro)
      unfolding plain.record_fields
      ro_fields_lem = rw ro

      -- The whole, of the lines of its lists and of what these settle.
      listed_with : (method : List Line) (e : Event) → plain.fields_lines tables 0 (plain.ro_fields the_ro) ≡ value method → plain.field_events tables 0 0 (plain.ro_fields the_ro) ≡ value (e ∷ [])
          → (plain_listing tables ≡ value (file_lines r method)) × (plain_events tables ≡ value (e ∷ []))
      unfolding file_of plain_listing gather plain.lines_of events_from plain.record_events word_in le_in le choose
      listed_with method e ls es = (rw (file_records (reading_under r) f, record_lines_lem, ro_fields_lem, ls, es, append-nil method), rw (file_records (reading_under r) f, ro_fields_lem, es))

    shown_lines : row_at tables Legacy 0x1080 ≡ value the_row → plain.fields_lines tables 0 (plain.ro_fields the_ro) ≡ value (method_line ∷ [])
    unfolding plain.fields_lines plain.field_lines protocol_names gather
    shown_lines there = rw (methods_there (reading_under r) f, one_readable (reading_under r) f, there, no_list tables Ivars, no_list tables Properties, no_names tables)

    shown_entry : row_at tables Legacy 0x1080 ≡ value the_row → plain.field_events tables 0 0 (plain.ro_fields the_ro) ≡ value (event 0 0 (with_row 0) ∷ [])
    unfolding plain.field_events plain.entries_in gather
    shown_entry there = rw (methods_there (reading_under r) f, one_readable (reading_under r) f, there, no_list tables Ivars, no_list tables Properties)

    module _ (why : Reason) (there : row_at tables Legacy 0x1080 ≡ absent why) where
      skipped_lines : plain.fields_lines tables 0 (plain.ro_fields the_ro) ≡ value []
      unfolding plain.fields_lines plain.field_lines protocol_names gather
      skipped_lines = rw (methods_there (reading_under r) f, one_readable (reading_under r) f, there, no_list tables Ivars, no_list tables Properties, no_names tables)

      skipped_entry_lem : plain.field_events tables 0 0 (plain.ro_fields the_ro) ≡ value (event 0 0 (without_row 0 why) ∷ [])
      unfolding plain.field_events plain.entries_in gather
      skipped_entry_lem = rw (methods_there (reading_under r) f, one_readable (reading_under r) f, there, no_list tables Ivars, no_list tables Properties)

  -- Under the old reading both files show the method.
  pub old_lists : (f : File) → plain_listing (under_old (file before f)) ≡ value (file_lines Old (method_line ∷ []))
  old_lists f = (listed_with Old f (old_ro f) _ _ (shown_lines Old f (old_row f)) (shown_entry Old f (old_row f))).0

  -- The first file: of its strings the name is asked for three times, for line R and for the lists that the class_ro names, once for their lines
  -- and once for what they settle; selector and types twice. Each ends, and yet the file's last byte is not 0. So the new reading lists the same.
  abbrev whole_old : Tables
  whole_old = under_old (file before whole)

  strings_of_records : strings whole_old (decode.decode_records sections) ≡ []
  unfolding file_of strings_among asks decode.gather decode.decode_records decode.decode_classes decode.decode_listed decode.decode_addresses decode.decode_with_meta decode.decode_protocols decode.decode_categories once without meta_of section_slots slots_from section_at slot_address decode_address decode_class decode_data bits_of picked picked_wide mapped data_arm64e data64 resolve readable readable_at lookup rows ends holds placed sum64 stored word stripped le nonzero choose bytes
  strings_of_records = simp (no_rebase_lem before)

  strings_of_own : strings whole_old (decode.decode_own_lines the_record) ≡ 0x1098 ∷ []
  unfolding file_of strings_among asks decode.decode_own_lines decode_class_name_of decode_nonzero_class_name decode_bound_name symbol_of decode_ro_of decode_class_ro decode_ro_lists picked picked_wide mapped data_arm64e data64 pointer_at pointer_or0_at word_in le_in text_in text_from text utf8 judge resolve readable readable_at lookup rows ends holds placed sum64 stored word stripped le nonzero choose bytes
  strings_of_own = simp (no_rebase_lem before, no_bind before)

  strings_of_fields : strings whole_old (decode.decode_fields the_record) ≡ 0x1098 ∷ []
  unfolding file_of strings_among asks decode.decode_fields decode_ro_of decode_class_ro decode_ro_lists picked picked_wide mapped data_arm64e data64 pointer_at pointer_or0_at word_in le_in text_in text_from text utf8 judge resolve readable readable_at lookup rows ends holds placed sum64 stored word stripped le nonzero choose bytes
  strings_of_fields = simp (no_rebase_lem before)

  strings_of_lists : strings whole_old (decode.decode_fields_lines 0 (plain.ro_fields the_ro)) ≡ 0x109E ∷ 0x109C ∷ []
  unfolding file_of strings_among asks decode.decode_fields_lines decode.decode_field_lines decode.decode_protocol_names decode.gather decode.decode_index decode.decode_indices decode_list even_list entry_size method_rows bit decode_row decode_legacy_method legacy_imp decode_protocol_list pointer_at pointer_or0_at word_in le_in text_in text_from text utf8 judge resolve readable readable_at lookup rows ends holds placed sum64 stored word stripped le nonzero choose bytes
  strings_of_lists = simp (no_rebase_lem before)

  strings_of_entries : strings whole_old (decode.decode_field_events 0 0 (plain.ro_fields the_ro)) ≡ 0x109E ∷ 0x109C ∷ []
  unfolding file_of strings_among asks decode.decode_field_events decode.decode_entries decode.gather decode.decode_index decode.decode_indices decode_list even_list entry_size method_rows bit decode_row decode_legacy_method legacy_imp decode_protocol_list pointer_at pointer_or0_at word_in le_in text_in text_from text utf8 judge resolve readable readable_at lookup rows ends holds placed sum64 stored word stripped le nonzero choose bytes
  strings_of_entries = simp (no_rebase_lem before)

  pub strings_asked_lem : strings_asked (file before whole) (decode_listing sections) ≡ 0x1098 ∷ 0x1098 ∷ 0x109E ∷ 0x109C ∷ 0x1098 ∷ 0x109E ∷ 0x109C ∷ []
  unfolding strings_among asks decode_listing decode.gather decode.decode_lines_of decode.decode_events_from decode.decode_record_events
  strings_asked_lem =
      let fields = plain.ro_fields the_ro in
      let records = records_run whole_old ∙ file_records (reading_under Old) whole in
      let own = own_lines_run whole_old the_record ∙ record_lines_lem Old whole (old_ro whole) in
      let named = fields_run whole_old the_record ∙ ro_fields_lem Old whole (old_ro whole) in
      let listed = fields_lines_run whole_old 0 fields ∙ shown_lines Old whole (old_row whole) in
      let settled = field_events_run whole_old 0 0 fields ∙ shown_entry Old whole (old_row whole) in
      rw (records, own, named, listed, settled) (simp (strings_append, strings_of_records, strings_of_own, strings_of_fields, strings_of_lists, strings_of_entries))

  -- A string between offset 0x98 and the zero byte at 0xA0.
  string_ends : (offset va : ℕ) → lookup (rows file_segments) va ≡ value (place_at 0 offset) → offset ≤ 0xA0 → StringEnds (image_in (file before whole)) va
  unfolding file_of bytes
  string_ends offset va there h other n q l =
      let same : other ≡ place_at 0 offset = same_place other (place_at 0 offset) (sym q ∙ there) in
      subst (λ (p : Place). ZeroFrom (file_of (file before whole).files p.file) p.offset) (sym same) (0xA0, omega arith, omega arith, refl)

  pub whole_ends : StringsEnd (file before whole) (decode_listing sections)
  unfolding lookup rows ends holds placed sum64 choose
  whole_ends =
      let name = string_ends 0x98 0x1098 refl (omega arith) in
      let selector = string_ends 0x9E 0x109E refl (omega arith) in
      let types = string_ends 0x9C 0x109C refl (omega arith) in
      rw strings_asked_lem (name, (name, (selector, (types, (name, (selector, (types, tt)))))))

  pub last_byte : get_or (bytes (selector_in whole)) (length (bytes (selector_in whole)) - 1) 0 ≡ 0x78
  unfolding bytes
  last_byte = refl

  pub new_lists_whole : plain_listing (under_new (file before whole)) ≡ value (file_lines New (method_line ∷ []))
  new_lists_whole = rw (listed_as_before (file before whole) whole_ends, old_lists whole)

  -- The second: the new reading skips the method, since its selector has no end. So its strings do not all end.
  pub new_lists_cut : (plain_listing (under_new (file before cut)) ≡ value (file_lines New [])) × (plain_events (under_new (file before cut)) ≡ value (event 0 0 (without_row 0 Unterminated) ∷ []))
  new_lists_cut = listed_with New cut new_ro _ _ (skipped_lines New cut Unterminated new_row) (skipped_entry_lem New cut Unterminated new_row)

  pub cut_endless : StringsEnd (file before cut) (decode_listing sections) → ⊥
  cut_endless ends =
      let same = listed_as_before (file before cut) ends in
      let whole_old = old_lists cut in
      let new = new_lists_cut.0 in
      let z : ◌≡◌ {A = ℕ} 0 1 = cc in
      omega arith

  -- Opening accepts the tables of both, with an index of at least 8,192 words.
  file_accepted : 2 * chains ≤ length before → (f : File) → asked_opening (with_index (file before f) before) ≡ value tt
  unfolding asked_opening asked_tables asked_index question image_fits longest segment_files whole_rows every section_fits section_table info_whole bind_files names_inside names_utf8 index_fits choose bytes
  file_accepted enough whole = rw (le-leb (2 * chains) (length before) enough)
  file_accepted enough cut = rw (le-leb (2 * chains) (length before) enough)

  pub file_opened : 2 * chains ≤ length before → (f : File) → Opened (file before f)
  unfolding opening opened_index image_info le choose
  file_opened enough f = record { index_before = before; gave = info_of 0 0; accepted = rw (file_accepted enough f); left = rw (file_accepted enough f) }
