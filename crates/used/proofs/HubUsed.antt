-- ◆ What the listing of document 01's image uses ("The program's listing"): the class without its cache and vtable, its class_ro without the
-- reserved word, and all from there to the end of the bind's name. Its method list claims 4,294,967,295 rows, of which a law knows the two that
-- are readable.
use Prim.Native.Nat.{ℕ}
use mathlib.Core.Path.{◌≡◌, refl, ◌∙◌}
use mathlib.Core.Bool.{false}
use mathlib.Core.List.{List, [], ◌∷◌, ◌++◌, map, flat_map}
use Rattle.reads.specs.Outcome.{value, absent, choose, sum64, nonzero, text_of}
use Rattle.reads.specs.Files.{file_of}
use Rattle.reads.specs.Place as places
use Rattle.reads.specs.Place.{le, readable_at, word, word_in, le_in}
use Rattle.reads.specs.Address.{stripped, data_arm64e, data64, mapped, picked_wide, picked}
use Rattle.reads.specs.Relative.{slot_address}
use Rattle.reads.specs.Segment.{rows, ends, holds, placed, lookup}
use Rattle.reads.specs.Text.{text, text_from, text_in, read_from}
use Rattle.reads.specs.Utf8.{judge, utf8}
use Rattle.reads.specs.declared.answer.Reason.TheVariants.{NoRecord, Unmapped}
use Rattle.pointers.specs.Chain.{last_among}
use Rattle.pointers.specs.ImageInfo.{bit}
use Rattle.pointers.specs.Question.{question, name_inside, name_utf8}
use Rattle.pointers.specs.Section.{section_at}
use Rattle.pointers.specs.Slot.{rebase_at, stored, resolve, pointer_at, pointer_or0_at, bind_name, bind_at, rebase}
use Rattle.pointers.specs.Tables.{bind_record}
use Rattle.pointers.proofs.OpenedTables.{opened_follow_rebase, opened_follow_bind}
use Rattle.records.specs.Ask.{even_list, entry_size}
use Rattle.records.specs.Asks.{asks}
use Rattle.records.specs.Class.{bits_of, decode_data, decode_class, decode_ro_lists, decode_class_ro, decode_ro_of, decode_nonzero_class_name, decode_bound_name, decode_class_name_of}
use Rattle.records.specs.Decode.{Decode, given, lacking, run, done, then, tried}
use Rattle.records.specs.List.{method_rows, decode_list}
use Rattle.records.specs.Row.{decode_row, decode_legacy_method}
use Rattle.records.specs.declared.list.Layout.{Layout}
use Rattle.records.specs.declared.list.ListKind.TheVariants.{Methods, Ivars, Properties}
use Rattle.records.specs.declared.list.RowKind.TheVariants.{Legacy}
use Rattle.records.proofs.HubImage.{counted}
use Rattle.records.proofs.ListCases.{hub_list, hub_two}
use Rattle.walks.specs.PlainSections.{once, without}
use Rattle.walks.specs.ProtocolNames.{decode_protocol_list}
use Rattle.walks.specs.Sections.{meta_of}
use Rattle.walks.specs.Slots.{slots_from, section_slots, decode_address}
use Rattle.walks.proofs.HubRun.{binds, hub, hub_opened, hub_methods, up, row_0, row_1, hub_class_record, hub_ro, hub_ro_of, hub_superclass}
use Rattle.listing.specs.DecodeListing.{decode_protocol_names, decode_events_from, decode_record_events, decode_field_events, decode_entries, decode_entry, entry_tried, as_each, decode_lines_of, decode_listing, decode_fields, decode_fields_lines, joined, decode_named, decode_own_lines, gather, of_value, or_nothing, decode_addresses, decode_listed, decode_with_meta, decode_classes, decode_categories, decode_protocols, decode_records, decode_readables, decode_entry_lines, decode_field_lines}
use Rattle.listing.specs.PlainListing.{row_list, name_list, Field, ro_fields, row_line, Entry, with_row, without_row, event}
use Rattle.listing.specs.declared.at.Record.TheVariants as a_record
use Rattle.listing.specs.declared.line.Line.TheVariants as line
use Rattle.listing.proofs.HubListing.{hub_class_ro, class_line_lem}
use Rattle.listing.proofs.DecodedListing.{readables_run}
use Rattle.ranges.specs.Range.{Range, range, lies, covers}
use Rattle.ranges.specs.Runs
use Rattle.ranges.specs.Runs.{ended, begun, runs, runs_from, merged}
use Rattle.used.specs.Used.{uses_word, uses_field, uses_slot_in, uses_pointer_in, uses_text, uses_symbol_in, used}
use Rattle.used.specs.UsedBy.{used_by, ranges_used}
use Rattle.used.proofs.ReadableUses.{readables_use}
use Rattle.used.proofs.UsedParts.{used_done, used_tried, then_uses}
use Rattle.std.specs.Prelude.{Some}

-- No slot has a rebase.
no_rebase_lem : (a : ℕ) → rebase hub a ≡ absent NoRecord
unfolding rebase_at last_among
no_rebase_lem a = rw (opened_follow_rebase hub hub_opened a)

class_uses : used hub (decode_class 0x1000 false) ≡ range 0 0 8 ∷ range 0 8 8 ∷ range 0 32 8 ∷ []
unfolding asks flat_map file_of decode_class decode_data uses_slot_in uses_word resolve picked picked_wide mapped data_arm64e data64 places.readable readable_at lookup rows ends holds placed sum64 stored word stripped le nonzero choose counted
class_uses = rw (no_rebase_lem 0x1000, no_rebase_lem 0x1008, no_rebase_lem 0x1020)

-- The section slot and the class; the class's own line; its class_ro.
records_use : used hub (decode_records hub.sections) ≡ range 0 160 8 ∷ range 0 0 8 ∷ range 0 8 8 ∷ range 0 32 8 ∷ []
unfolding asks flat_map file_of decode_records decode_classes decode_listed decode_addresses decode_address decode_with_meta decode_protocols decode_categories gather section_slots slots_from section_at slot_address once without meta_of decode_class decode_data uses_slot_in uses_word resolve picked picked_wide mapped data_arm64e data64 places.readable readable_at lookup rows ends holds placed sum64 stored word stripped bits_of le nonzero choose counted
records_use = rw (no_rebase_lem 0x10A0, no_rebase_lem 0x1000, no_rebase_lem 0x1008, no_rebase_lem 0x1020)

records_are : run hub (decode_records hub.sections) ≡ value (a_record.Class hub_class_record ∷ [])
unfolding file_of decode_records decode_classes decode_listed decode_addresses decode_address decode_with_meta decode_protocols decode_categories gather section_slots slots_from section_at slot_address once without meta_of decode_class decode_data resolve picked picked_wide mapped data_arm64e data64 places.readable readable_at lookup rows ends holds placed sum64 stored word stripped bits_of le nonzero choose counted
records_are = rw (no_rebase_lem 0x10A0, no_rebase_lem 0x1000, no_rebase_lem 0x1008, no_rebase_lem 0x1020)

bind_is : bind_name hub.files binds 0 ≡ value (bind_record binds 0).name
unfolding bind_name question name_inside name_utf8 file_of utf8 judge choose counted
bind_is = refl

superclass_uses : used hub (decode_class_name_of 0x1000 0) ≡ range 0 168 22 ∷ []
unfolding asks flat_map decode_class_name_of decode_nonzero_class_name decode_bound_name uses_symbol_in bind_at last_among sum64 nonzero choose
superclass_uses = rw (opened_follow_bind hub hub_opened 0x1008, bind_is)

abbrev ro_ranges : List Range
ro_ranges =
    range 0 40 4 ∷ range 0 44 4 ∷ range 0 48 4
    ∷ range 0 56 8 ∷ range 0 64 8 ∷ range 0 72 8 ∷ range 0 80 8 ∷ range 0 88 8 ∷ range 0 96 8 ∷ range 0 104 8
    ∷ range 0 144 4 ∷ []

ro_uses : used hub (decode_ro_of hub_class_record) ≡ ro_ranges
unfolding asks flat_map file_of decode_ro_of decode_class_ro decode_ro_lists uses_field uses_slot_in uses_pointer_in uses_word uses_text resolve pointer_at pointer_or0_at picked picked_wide mapped data_arm64e places.readable readable_at lookup rows ends holds placed sum64 stored word stripped word_in le_in le text_in text_from read_from text utf8 judge nonzero choose counted
ro_uses = rw (no_rebase_lem 0x1038, no_rebase_lem 0x1040, no_rebase_lem 0x1048, no_rebase_lem 0x1050, no_rebase_lem 0x1058, no_rebase_lem 0x1060, no_rebase_lem 0x1068)

-- The method list: its header and its two readable rows, of which the second has no selector; the other lists are at address 0.
abbrev method_ranges : List Range
method_ranges =
    range 0 112 4 ∷ range 0 116 4
    ∷ range 0 120 8 ∷ range 0 128 8 ∷ range 0 136 8 ∷ range 0 148 3 ∷ range 0 151 2
    ∷ range 0 144 8 ∷ range 0 152 8 ∷ range 0 160 8 ∷ []

list_uses : used hub (decode_list Methods 0x1070) ≡ range 0 112 4 ∷ range 0 116 4 ∷ []
unfolding asks flat_map file_of decode_list even_list entry_size method_rows bit uses_field nonzero places.readable readable_at lookup rows ends holds placed sum64 word_in le_in le choose counted
list_uses = refl

row_0_uses : used hub (decode_row Legacy 0x1078) ≡ range 0 120 8 ∷ range 0 128 8 ∷ range 0 136 8 ∷ range 0 148 3 ∷ range 0 151 2 ∷ []
unfolding asks flat_map file_of decode_row decode_legacy_method uses_slot_in uses_pointer_in uses_word uses_text resolve pointer_at pointer_or0_at places.readable readable_at lookup rows ends holds placed sum64 stored word stripped le text_in text_from read_from text utf8 judge nonzero choose counted
row_0_uses = rw (no_rebase_lem 0x1078, no_rebase_lem 0x1080, no_rebase_lem 0x1088)

row_1_uses : used hub (decode_row Legacy 0x1090) ≡ range 0 144 8 ∷ range 0 152 8 ∷ range 0 160 8 ∷ []
unfolding asks flat_map file_of decode_row decode_legacy_method uses_slot_in uses_pointer_in uses_word uses_text resolve pointer_at pointer_or0_at places.readable readable_at lookup rows ends holds placed sum64 stored word stripped le text_in text_from nonzero choose counted
row_1_uses = rw (no_rebase_lem 0x1090, no_rebase_lem 0x1098, no_rebase_lem 0x10A0)

-- Put together: a trial, and one list after another, uses what its parts do.
of_uses : {A B : Type 0} (d : Decode A) (f : A → Decode (List B)) {a : A} {rs ss : List Range} → used hub d ≡ rs → run hub d ≡ value a → used hub (f a) ≡ ss
    → used hub (of_value d f) ≡ rs ++ ss
of_uses d f {a} e v g = then_uses hub (tried d) (or_nothing f) {a = given a} (used_tried hub d ∙ e) (rw v refl) g

joined_uses : {A : Type 0} (d e : Decode (List A)) {xs ys : List A} {rs ss : List Range} → used hub d ≡ rs → run hub d ≡ value xs → used hub e ≡ ss → run hub e ≡ value ys
    → used hub (joined d e) ≡ rs ++ (ss ++ [])
joined_uses d e {xs} {ys} h v g w = then_uses hub d (λ xs. then e (λ ys. done (xs ++ ys))) h v (then_uses hub e (λ ys. done (xs ++ ys)) g w (used_done hub (xs ++ ys)))

ro_runs : run hub (decode_ro_of hub_class_record) ≡ value hub_class_ro
ro_runs = hub_ro_of ∙ hub_ro

own_uses : used hub (decode_own_lines (a_record.Class hub_class_record)) ≡ range 0 168 22 ∷ (ro_ranges ++ [])
unfolding decode_own_lines
own_uses =
    then_uses hub (decode_named (decode_class_name_of 0x1000 0)) _ {a = Some (text_of 0 182 8)}
    (then_uses hub (tried (decode_class_name_of 0x1000 0)) _ {a = given (text_of 0 182 8)} (used_tried hub (decode_class_name_of 0x1000 0) ∙ superclass_uses) (rw hub_superclass refl) (used_done hub _))
    (rw hub_superclass refl)
    (joined_uses (done _) (of_value (decode_ro_of hub_class_record) _) {ys = line.Ro hub_class_ro ∷ []} (used_done hub _) refl
    (of_uses (decode_ro_of hub_class_record) (λ r. done (line.Ro r ∷ [])) ro_uses ro_runs (used_done hub _)) (rw ro_runs refl))

fields_use : used hub (decode_fields (a_record.Class hub_class_record)) ≡ ro_ranges ++ []
unfolding decode_fields
fields_use = of_uses (decode_ro_of hub_class_record) (λ r. done (ro_fields r)) ro_uses ro_runs (used_done hub _)

fields_are : run hub (decode_fields (a_record.Class hub_class_record)) ≡ value (ro_fields hub_class_ro)
unfolding decode_fields
fields_are = rw ro_runs refl

-- The method list, whatever is made of its rows, if that uses nothing more.
module _ {A : Type 0} (f : Layout → ℕ → Decode (List A)) {xs ys : List A}
    (first : used hub (f hub_list 0) ≡ range 0 120 8 ∷ range 0 128 8 ∷ range 0 136 8 ∷ range 0 148 3 ∷ range 0 151 2 ∷ [])
    (second : used hub (f hub_list 1) ≡ range 0 144 8 ∷ range 0 152 8 ∷ range 0 160 8 ∷ [])
    (is-first : run hub (f hub_list 0) ≡ value xs) (is-second : run hub (f hub_list 1) ≡ value ys) where
  rows_use : used hub (gather (f hub_list) (0 ∷ 1 ∷ [])) ≡ range 0 120 8 ∷ range 0 128 8 ∷ range 0 136 8 ∷ range 0 148 3 ∷ range 0 151 2 ∷ range 0 144 8 ∷ range 0 152 8 ∷ range 0 160 8 ∷ []
  unfolding gather
  rows_use =
      joined_uses (f hub_list 0) (gather (f hub_list) (1 ∷ [])) {ys = ys ++ []} first is-first
      (joined_uses (f hub_list 1) (gather (f hub_list) []) {ys = []} second is-second (used_done hub []) refl)
      (rw is-second refl)

  methods_use : used hub (of_value (decode_list Methods 0x1070) (λ h. then (decode_readables h) (gather (f h)))) ≡ method_ranges
  methods_use =
      of_uses (decode_list Methods 0x1070) (λ h. then (decode_readables h) (gather (f h))) {a = hub_list} list_uses hub_methods
      (readables_use hub hub_list (gather (f hub_list)) ∙ rw hub_two rows_use)

  methods_are : run hub (of_value (decode_list Methods 0x1070) (λ h. then (decode_readables h) (gather (f h)))) ≡ value (xs ++ (ys ++ []))
  unfolding gather
  methods_are = rw (hub_methods, readables_run hub hub_list, hub_two, is-first, is-second) refl

-- Their lines; the other lists are at address 0.
tried_uses : {A : Type 0} (d : Decode A) {rs : List Range} → used hub d ≡ rs → used hub (tried d) ≡ rs
tried_uses d e = used_tried hub d ∙ e

abbrev others : List Field
others = row_list Ivars 0 ∷ row_list Properties 0 ∷ name_list 0 ∷ []

others_use : used hub (decode_fields_lines 1 others) ≡ []
unfolding decode_fields_lines decode_field_lines decode_protocol_names decode_protocol_list decode_list nonzero choose asks flat_map
others_use = refl

others_are : run hub (decode_fields_lines 1 others) ≡ value []
unfolding decode_fields_lines decode_field_lines decode_protocol_names decode_protocol_list decode_list nonzero choose
others_are = refl

first_line : used hub (decode_entry_lines 0 hub_list 0) ≡ range 0 120 8 ∷ range 0 128 8 ∷ range 0 136 8 ∷ range 0 148 3 ∷ range 0 151 2 ∷ []
first_line = of_uses (decode_row Legacy 0x1078) (λ r. done (row_line 0 r ∷ [])) {a = up} row_0_uses row_0 (used_done hub (row_line 0 up ∷ []))

second_line : used hub (decode_entry_lines 0 hub_list 1) ≡ range 0 144 8 ∷ range 0 152 8 ∷ range 0 160 8 ∷ []
second_line =
    then_uses hub (tried (decode_row Legacy 0x1090)) (or_nothing (λ r. done (row_line 0 r ∷ []))) {a = lacking Unmapped}
    (tried_uses (decode_row Legacy 0x1090) row_1_uses) (rw row_1 refl) (used_done hub [])

lines_use : used hub (decode_fields_lines 0 (ro_fields hub_class_ro)) ≡ method_ranges
unfolding decode_fields_lines decode_field_lines
lines_use =
    joined_uses (decode_field_lines 0 (row_list Methods 0x1070)) (decode_fields_lines 1 others) {ys = []} {ss = []}
    (methods_use (decode_entry_lines 0) {xs = row_line 0 up ∷ []} {ys = []} first_line second_line (rw row_0 refl) (rw row_1 refl))
    (methods_are (decode_entry_lines 0) {xs = row_line 0 up ∷ []} {ys = []} first_line second_line (rw row_0 refl) (rw row_1 refl))
    others_use others_are

lines_are : run hub (decode_fields_lines 0 (ro_fields hub_class_ro)) ≡ value (row_line 0 up ∷ [])
unfolding decode_fields_lines decode_field_lines
lines_are =
    rw (methods_are (decode_entry_lines 0) {xs = row_line 0 up ∷ []} {ys = []} first_line second_line (rw row_0 refl) (rw row_1 refl), others_are) refl

-- And the settling steps.
abbrev settled : List Entry
settled = with_row 0 ∷ without_row 1 Unmapped ∷ []

first_entry : used hub (decode_entry hub_list 0) ≡ range 0 120 8 ∷ range 0 128 8 ∷ range 0 136 8 ∷ range 0 148 3 ∷ range 0 151 2 ∷ []
first_entry =
    then_uses hub (tried (decode_row Legacy 0x1078)) (λ row. done (entry_tried 0 row ∷ [])) {a = given up}
    (tried_uses (decode_row Legacy 0x1078) row_0_uses) (rw row_0 refl) (used_done hub (with_row 0 ∷ []))

second_entry : used hub (decode_entry hub_list 1) ≡ range 0 144 8 ∷ range 0 152 8 ∷ range 0 160 8 ∷ []
second_entry =
    then_uses hub (tried (decode_row Legacy 0x1090)) (λ row. done (entry_tried 1 row ∷ [])) {a = lacking Unmapped}
    (tried_uses (decode_row Legacy 0x1090) row_1_uses) (rw row_1 refl) (used_done hub (without_row 1 Unmapped ∷ []))

entries_use : used hub (decode_entries (row_list Methods 0x1070)) ≡ method_ranges
unfolding decode_entries
entries_use = methods_use decode_entry {xs = with_row 0 ∷ []} {ys = without_row 1 Unmapped ∷ []} first_entry second_entry (rw row_0 refl) (rw row_1 refl)

entries_are : run hub (decode_entries (row_list Methods 0x1070)) ≡ value settled
unfolding decode_entries
entries_are = methods_are decode_entry {xs = with_row 0 ∷ []} {ys = without_row 1 Unmapped ∷ []} first_entry second_entry (rw row_0 refl) (rw row_1 refl)

no_steps_use : used hub (decode_field_events 0 1 others) ≡ []
unfolding decode_field_events decode_entries decode_list nonzero choose asks flat_map
no_steps_use = refl

no_steps_are : run hub (decode_field_events 0 1 others) ≡ value []
unfolding decode_field_events decode_entries decode_list nonzero choose
no_steps_are = refl

steps_use : used hub (decode_field_events 0 0 (ro_fields hub_class_ro)) ≡ method_ranges
unfolding decode_field_events
steps_use =
    joined_uses (as_each (event 0 0) (decode_entries (row_list Methods 0x1070))) (decode_field_events 0 1 others) {xs = map (event 0 0) settled} {ys = []} {ss = []}
    (then_uses hub (decode_entries (row_list Methods 0x1070)) (λ xs. done (map (event 0 0) xs)) {a = settled} entries_use entries_are (used_done hub (map (event 0 0) settled)))
    (rw entries_are refl) no_steps_use no_steps_are

steps_are : run hub (decode_field_events 0 0 (ro_fields hub_class_ro)) ≡ value (map (event 0 0) settled)
unfolding decode_field_events
steps_are = rw (entries_are, no_steps_are) refl

events_use : used hub (decode_events_from 0 (a_record.Class hub_class_record ∷ [])) ≡ ro_ranges ++ method_ranges
unfolding decode_events_from decode_record_events
events_use =
    joined_uses (then (decode_fields (a_record.Class hub_class_record)) (decode_field_events 0 0)) (done []) {xs = map (event 0 0) settled} {ys = []} {ss = []}
    (then_uses hub (decode_fields (a_record.Class hub_class_record)) (decode_field_events 0 0) {a = ro_fields hub_class_ro} fields_use fields_are steps_use)
    (rw (fields_are, steps_are) refl) (used_done hub []) refl

events_are : run hub (decode_events_from 0 (a_record.Class hub_class_record ∷ [])) ≡ value (map (event 0 0) settled)
unfolding decode_events_from decode_record_events
events_are = rw (fields_are, steps_are) refl

-- All of it.
abbrev ranges : List Range
ranges =
    range 0 160 8 ∷ range 0 0 8 ∷ range 0 8 8 ∷ range 0 32 8
    ∷ range 0 168 22 ∷ (ro_ranges ++ (ro_ranges ++ (method_ranges ++ (ro_ranges ++ method_ranges))))

whole_use : used hub (decode_listing hub.sections) ≡ ranges
unfolding decode_listing decode_lines_of gather
whole_use =
    let x = a_record.Class hub_class_record in
    let own_are : run hub (decode_own_lines x) ≡ value (class_line_lem ∷ line.Ro hub_class_ro ∷ []) = unfold decode_own_lines in rw (hub_superclass, ro_runs) refl in
    let fields : run hub (then (decode_fields x) (decode_fields_lines 0)) ≡ value (row_line 0 up ∷ []) = rw (fields_are, lines_are) refl in
    let lines : run hub (decode_lines_of x) ≡ value (class_line_lem ∷ line.Ro hub_class_ro ∷ row_line 0 up ∷ []) = unfold decode_lines_of in rw (own_are, fields) refl in
    then_uses hub (decode_records hub.sections) _ {a = x ∷ []} records_use records_are
    (then_uses hub (gather decode_lines_of (x ∷ [])) _ {a = class_line_lem ∷ line.Ro hub_class_ro ∷ row_line 0 up ∷ []}
    (joined_uses (decode_lines_of x) (done []) {ys = []} {ss = []}
    (joined_uses (decode_own_lines x) (then (decode_fields x) (decode_fields_lines 0)) own_uses own_are
    (then_uses hub (decode_fields x) (decode_fields_lines 0) fields_use fields_are lines_use) fields)
    lines (used_done hub []) refl)
    (rw lines refl)
    (then_uses hub (decode_events_from 0 (x ∷ [])) _ events_use events_are (used_done hub _)))

-- ◆ offset 0 for 16 bytes, 32 for 20, 56 for 134.
pub hub_ranges : ranges_used hub ≡ range 0 0 16 ∷ range 0 32 20 ∷ range 0 56 134 ∷ []
unfolding ranges_used used_by merged runs_from runs Runs.run ended begun covers lies choose counted
hub_ranges = rw whole_use refl
