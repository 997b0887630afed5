-- ◆ The listing of document 01's image ("The program's listing"), line by line, from the plain definition. Its method list claims
-- 4,294,967,295 rows: which of them are readable is known by a law (hub_two), and none is counted.
use Rattle.std.proofs.Common.{◌≡◌, List, [], ◌∷◌, refl}
use Rattle.reads.specs.Outcome.{value, choose, sum64, nonzero, text_of}
use Rattle.reads.specs.Files.{file_of}
use Rattle.reads.specs.Place.{le, readable_at, readable, word, word_in, le_in}
use Rattle.reads.specs.Address.{stripped}
use Rattle.reads.specs.Relative.{slot_address}
use Rattle.reads.specs.Segment.{rows, ends, holds, placed, lookup}
use Rattle.reads.specs.declared.answer.Reason.TheVariants.{Unmapped}
use Rattle.pointers.specs.ImageInfo.{info_of}
use Rattle.pointers.specs.Section.{section_at}
use Rattle.pointers.specs.Slot.{stored}
use Rattle.walks.specs.Gather.{gather}
use Rattle.walks.specs.declared.slots.Lists.TheVariants.{Classes}
use Rattle.walks.specs.PlainSections.{addresses_in, without, once, listed, with_meta, plain_classes, plain_protocols, plain_categories}
use Rattle.walks.specs.ProtocolNames.{protocol_names}
use Rattle.walks.specs.Slots.{slots_from, section_slots, decode_address}
use Rattle.walks.specs.Sections.{meta_of}
use Rattle.records.specs.declared.class.ClassRo.{ClassRo}
use Rattle.records.specs.declared.list.ListKind.TheVariants.{Ivars, Properties}
use Rattle.records.proofs.HubImage.{counted}
use Rattle.walks.proofs.HubRun.{hub, hub_methods, slot_stored, up, row_0, row_1, hub_class_record, hub_class, hub_ro, hub_ro_of, hub_superclass}
use Rattle.records.proofs.ListCases.{hub_two}
use Rattle.pointers.specs.Tables.{reading_new}
use Rattle.listing.specs.PlainListing as plain
use Rattle.listing.specs.declared.at.Record.TheVariants as a_record
use Rattle.listing.specs.declared.line.Line.{Line}
use Rattle.listing.specs.declared.line.Line.TheVariants as line
use Rattle.listing.proofs.EmptyLists.{no_list, no_names}
use Rattle.std.specs.Prelude.{Some}

-- class_list holds one address; the other sections are absent.
hub_listed : listed hub Classes ≡ value (0x1000 ∷ [])
unfolding file_of listed once without addresses_in gather section_slots slots_from section_at slot_address decode_address stored word stripped readable readable_at lookup rows ends holds placed le nonzero choose sum64 counted
hub_listed = rw (slot_stored 0x10A0)

hub_classes : plain_classes hub ≡ value (hub_class_record ∷ [])
unfolding plain_classes with_meta meta_of gather nonzero choose
hub_classes = rw (hub_listed, hub_class)

hub_protocols : plain_protocols hub ≡ value []
unfolding plain_protocols gather section_slots slots_from section_at choose
hub_protocols = refl

hub_categories : plain_categories hub ≡ value []
unfolding plain_categories listed once addresses_in gather section_slots slots_from section_at choose
hub_categories = refl

-- R 1028 0 8 8 3:Hub, and the fields that name its lists.
abbrev pub hub_class_ro : ClassRo
hub_class_ro =
    record {
      address = 0x1028;
      flags = 0;
      instance_start = 8;
      instance_size = 8;
      name = text_of 0 0x90 3;
      ivar_layout_address = 0;
      methods = 0x1070;
      protocols = 0;
      ivars = 0;
      weak_ivar_layout_address = 0;
      properties = 0;
    }

-- C 1000 0 0 1028 8:NSObject
abbrev pub class_line_lem : Line
class_line_lem = line.Class (record { class = hub_class_record; superclass_name = Some (text_of 0 182 8) })

hub_records : plain.plain_records hub ≡ value (a_record.Class hub_class_record ∷ [])
unfolding plain.plain_records
hub_records = rw (hub_classes, hub_protocols, hub_categories)

hub_own : plain.own_lines hub (a_record.Class hub_class_record) ≡ value (class_line_lem ∷ line.Ro hub_class_ro ∷ [])
unfolding plain.own_lines
hub_own = rw (hub_superclass, hub_ro_of, hub_ro)

hub_fields : plain.record_fields hub (a_record.Class hub_class_record) ≡ value (plain.ro_fields hub_class_ro)
unfolding plain.record_fields
hub_fields = rw (hub_ro_of, hub_ro)

-- m 0 2:up 1:v 2000 0 0
abbrev pub row_line_lem : Line
row_line_lem = plain.row_line 0 up

hub_lines : plain.fields_lines hub 0 (plain.ro_fields hub_class_ro) ≡ value (row_line_lem ∷ [])
unfolding plain.fields_lines plain.field_lines protocol_names gather
hub_lines = rw (hub_methods, hub_two, row_0, row_1, no_list hub Ivars, no_list hub Properties, no_names hub)

hub_settling : plain.events_from hub 0 (a_record.Class hub_class_record ∷ []) ≡ value (plain.event 0 0 (plain.with_row 0) ∷ plain.event 0 0 (plain.without_row 1 Unmapped) ∷ [])
unfolding plain.events_from plain.record_events plain.field_events plain.entries_in gather
hub_settling = rw hub_fields (rw (hub_methods, hub_two, row_0, row_1, no_list hub Ivars, no_list hub Properties))

pub hub_events : plain.plain_events hub ≡ value (plain.event 0 0 (plain.with_row 0) ∷ plain.event 0 0 (plain.without_row 1 Unmapped) ∷ [])
hub_events = rw hub_records hub_settling

-- I 0 0 1, the lines of the class, and E 1 2.
abbrev pub five_lines : List Line
five_lines =
    plain.info_line (info_of 0 0) reading_new
    ∷ class_line_lem
    ∷ line.Ro hub_class_ro
    ∷ row_line_lem
    ∷ line.End (record { records = 1; settled = 2 })
    ∷ []

pub hub_listing : plain.plain_listing hub ≡ value five_lines
unfolding file_of plain.plain_listing plain.lines_of gather word_in le_in le choose
hub_listing = rw (hub_records, hub_own, hub_fields, hub_lines) (rw hub_settling)
