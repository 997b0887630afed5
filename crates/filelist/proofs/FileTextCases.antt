-- Worked cases of the text of a file: a file of 400 bytes with one class, listed; and two that are refused.
use Rattle.std.specs.Prelude.{Option, None}
use Prim.Native.Nat.{ℕ}
use mathlib.Core.Path.{◌≡◌, refl}
use mathlib.Core.List.{List, [], ◌∷◌, ◌++◌, flat_map}
use lib.ListN.{take, replicate}
use Rattle.reads.specs.Address.{stripped, data_arm64e, data64, mapped, picked_wide, picked}
use Rattle.reads.specs.Files.{file_of, longest}
use Rattle.reads.specs.Outcome.{choose, sum64, nonzero}
use Rattle.reads.specs.Place.{le, readable_at, readable, word, le_in, word_in}
use Rattle.reads.specs.Relative.{slot_address}
use Rattle.reads.specs.Segment.{rows, ends, holds, placed, lookup}
use Rattle.reads.specs.Table.{tabulate}
use Rattle.reads.specs.Text.{text, text_from, text_in}
use Rattle.reads.specs.Utf8.{judge, utf8}
use Rattle.pointers.specs.Chain.{follow_from, follow}
use Rattle.pointers.specs.ImageInfo.{image_info}
use Rattle.pointers.specs.Index.{latest, indexed}
use Rattle.pointers.specs.Open.{asked_opening, opening, opened_index}
use Rattle.pointers.specs.Question.{question, image_fits, whole_rows, every, section_fits, section_table, info_whole, segment_files, index_fits, asked_tables, asked_index, bind_files, names_inside, names_utf8}
use Rattle.pointers.specs.Section.{section_at}
use Rattle.pointers.specs.Slot.{rebase_at, bind_name, bind_at, symbol_of, stored, resolve, pointer_at, pointer_or0_at}
use Rattle.pointers.specs.Symbol.{ascii, starts}
use Rattle.records.specs.Ask.{even_list, entry_size}
use Rattle.records.specs.Class.{bits_of, decode_data, decode_class, decode_ro_lists, decode_class_ro, decode_ro_of, decode_ro_data, decode_class_name, decode_nonzero_class_name, decode_bound_name, decode_class_name_of}
use Rattle.records.specs.List.{method_rows, decode_list}
use Rattle.frames.specs.Marks.{addresses, in_order, frames_of}
use Rattle.frames.specs.declared.frames.Ranges.{Ranges}
use Rattle.marking.specs.Framed.{framed_opening}
use Rattle.marking.specs.Marked.{marked, marked_lines}
use Rattle.walks.specs.Gather.{gather}
use Rattle.walks.specs.PlainSections.{addresses_in, without, once, listed, with_meta, plain_classes, plain_categories, plain_protocols}
use Rattle.walks.specs.ProtocolNames.{decode_protocol_list, has_slot, slot_names, protocol_names}
use Rattle.walks.specs.Sections.{meta_of}
use Rattle.walks.specs.Slots.{slots_from, section_slots, decode_address}
use Rattle.listing.specs.PlainListing.{plain_records, own_lines, record_fields, field_lines, fields_lines, lines_of, entries_in, field_events, record_events, events_from, plain_listing}
use Rattle.printing.specs.Buffer.{places, hex_text, hex_word, decimal_text}
use Rattle.printing.specs.LineText.{none_field, number_field, string_field, part_field, text_field, text_fields, info_text, class_text, ro_text, end_text, line_text, refused_text}
use Rattle.macho.specs.Commands.{headed, sectioned, fits, all_fit, asked_commands, of_kind}
use Rattle.macho.specs.FileTables.{file_tables}
use Rattle.macho.specs.OpenFile.{segment_table_words, asked_lent, asked_file}
use Rattle.macho.specs.Sections.{headers_from, sections_of, named, first_named, section_row, section_rows}
use Rattle.macho.specs.Segments.{segment_rows}
use Rattle.pointers.specs.Tables.{reading_new, section_table_words}
use Rattle.pointers.specs.declared.setting.Setting.{Setting}
use Rattle.macho.proofs.FileCases.{u32, u64, header, command, section, good, made, short_case, seven_case}
use Rattle.filelist.specs.FileText.{zero_index, framed_file, file_opening, file_text}
use Rattle.filelist.proofs.FileAnswers.{number_first}
use Rattle.reads.specs.declared.answer.Question.TheVariants.{Header, LoadCommands}

-- One segment at 0x1000 that maps the file; __objc_classlist and __objc_imageinfo.
abbrev commands : List ℕ
commands = command 232 0x1000 400 0 400 2 ++ section (ascii "__objc_classlist") 0x1108 8 264 ++ section (ascii "__objc_imageinfo") 0x1188 8 392

-- The slot at 0x1108, the class at 0x1110, its class_ro at 0x1138, its name at 0x1180, and the image info.
abbrev records : List ℕ
records =
    u64 0x1110
    ++ replicate 32 0 ++ u64 0x1138
    ++ u32 0 ++ u32 8 ++ u32 8 ++ u32 0 ++ u64 0 ++ u64 0x1180 ++ replicate 40 0
    ++ ascii "A" ++ replicate 7 0
    ++ u32 0 ++ u32 0x40

pub one : List ℕ
one = header 0xFEEDFACF 1 232 ++ commands ++ records

abbrev line : List ℕ → List ℕ
line text = text ++ (10 ∷ [])

pub listed_case : file_text reading_new None one [] []
    ≡ line (ascii "I 0 40 1") ++ line (ascii "C 1110 0 0 1138 -") ++ line (ascii "R 1138 0 8 8 1:A") ++ line (ascii "E 1 0")
unfolding file_text file_opening framed_file framed_opening frames_of in_order addresses marked_lines marked flat_map one u32 u64 header command section stripped data_arm64e data64 mapped picked_wide picked file_of longest choose sum64 nonzero le readable_at readable word le_in word_in slot_address rows ends holds placed lookup tabulate text text_from text_in judge utf8 follow_from follow image_info latest indexed asked_opening opening opened_index question image_fits whole_rows every section_fits section_table info_whole segment_files index_fits asked_tables asked_index bind_files names_inside names_utf8 section_at rebase_at bind_name bind_at symbol_of stored resolve pointer_at pointer_or0_at starts even_list entry_size bits_of decode_data decode_class decode_ro_lists decode_class_ro decode_ro_of decode_ro_data decode_class_name decode_nonzero_class_name decode_bound_name decode_class_name_of method_rows decode_list gather addresses_in without once listed with_meta plain_classes plain_categories plain_protocols decode_protocol_list has_slot slot_names protocol_names meta_of slots_from section_slots decode_address plain_records own_lines record_fields field_lines fields_lines lines_of entries_in field_events record_events events_from plain_listing places hex_text hex_word decimal_text none_field number_field string_field part_field text_field text_fields info_text class_text ro_text end_text line_text refused_text headed sectioned fits all_fit asked_commands of_kind file_tables asked_lent asked_file headers_from sections_of named first_named section_row section_rows segment_rows
listed_case = refl

-- 15: 31 bytes. 16: a command of 7 bytes.
pub refused_15_case : (u : Setting) (x : Option Ranges) (rebases binds : List ℕ) → file_text u x (take 31 good) rebases binds ≡ line (ascii "refused 15")
unfolding file_text file_opening refused_text decimal_text places choose
refused_15_case u x rebases binds =
    rw (number_first x _ _ _ rebases binds _ Header (short_case (replicate segment_table_words 0) (replicate section_table_words 0) rebases binds (zero_index rebases binds)))

pub refused_16_case : (u : Setting) (x : Option Ranges) (rebases binds : List ℕ) → file_text u x (made 0xFEEDFACF 2 544 7 576 0) rebases binds ≡ line (ascii "refused 16")
unfolding file_text file_opening refused_text decimal_text places choose
refused_16_case u x rebases binds =
    rw (number_first x _ _ _ rebases binds _ LoadCommands (seven_case (replicate segment_table_words 0) (replicate section_table_words 0) rebases binds (zero_index rebases binds)))
