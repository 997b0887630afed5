-- The plain listing of tables (document 01, "The program's listing"): a direct definition from the section walks' records and the readable
-- entries of their lists, with no state and no ledger. A number that a lookup gives is its outcome; over what opening accepted there is none.
use Rattle.std.specs.Prelude.{ℕ, suc, List, [], ◌∷◌, ◌++◌, length, Some, None, Option}
use Rattle.reads.specs.Outcome.{Outcome, value, absent, refused, and_then, optional}
use Rattle.reads.specs.Place.{le_in}
use Rattle.reads.specs.declared.text.Text.{Text}
use Rattle.reads.specs.declared.answer.Reason.{Reason}
use Rattle.pointers.specs.ImageInfo.{info_of}
use Rattle.pointers.specs.Tables.{Tables, image_in}
use Rattle.pointers.specs.declared.imageinfo.ImageInfo.{ImageInfo}
use Rattle.pointers.specs.declared.setting.Setting.{Setting}
use Rattle.records.specs.Category.{category_class_name}
use Rattle.records.specs.Class.{ro_of, superclass_name}
use Rattle.records.specs.List.{list_at, entry_address}
use Rattle.records.specs.Row.{row_at}
use Rattle.records.specs.Search.{readables}
use Rattle.records.specs.declared.category.ObjcCategory.{ObjcCategory}
use Rattle.records.specs.declared.class.ClassRo.{ClassRo}
use Rattle.records.specs.declared.class.ObjcClass.{ObjcClass}
use Rattle.records.specs.declared.list.Layout.{Layout}
use Rattle.records.specs.declared.list.ListKind.{ListKind}
use Rattle.records.specs.declared.list.ListKind.TheVariants as lists
use Rattle.records.specs.declared.protocol.ObjcProtocol.{ObjcProtocol}
use Rattle.records.specs.declared.row.Row.{Row}
use Rattle.walks.specs.Gather.{joined, gather, of_value, as_each}
use Rattle.walks.specs.PlainSections.{plain_classes, plain_protocols, plain_categories}
use Rattle.walks.specs.ProtocolNames.{protocol_names}
use Rattle.frames.specs.declared.frames.Mark.TheVariants.{Unmarked}
use Rattle.listing.specs.declared.at.Record.{Record}
use Rattle.listing.specs.declared.at.Record.TheVariants as a_record
use Rattle.listing.specs.declared.line.Line.{Line}
use Rattle.listing.specs.declared.line.Line.TheVariants as line

-- I: version and flags. Question 4 has found 8 bytes there.
abbrev pub version_and_flags : List ℕ → ImageInfo
version_and_flags info = info_of (le_in info 4 0) (le_in info 4 4)

-- And 0 or 1 for the reading, which the setting holds (document 02, note 12).
abbrev pub info_line : ImageInfo → Setting → Line
info_line i u = line.Info (record { info = i; reading = u.reading })

-- A name, or none; a number stays.
abbrev pub name_or_none : Outcome Text → Outcome (Option Text)
name_or_none o = optional o

-- C or M; K.
abbrev pub class_line : ObjcClass → Option Text → Line
class_line c name = line.Class (record { class = c; superclass_name = name })

abbrev pub category_line : ObjcCategory → Option Text → Line
category_line c name = line.Category (record { category = c; class_name = name })

-- m, v or p, before a method gets its mark; q: under the list's number.
abbrev pub row_line : ℕ → Row → Line
row_line n r = line.Row (record { list = n; row = r; mark = Unmarked })

abbrev pub name_line : ℕ → Text → Line
name_line n name = line.Name (record { list = n; name = name })

-- E.
abbrev pub end_line : ℕ → ℕ → Line
end_line records settled = line.End (record { records = records; settled = settled })

-- A list that a field of a record names: of rows, or of protocol names.
pub data Field : Type 0 where
  row_list : ListKind → ℕ → Field
  name_list : ℕ → Field

-- The fields of a record in the order of their list numbers, from 0. Class: methods, ivars, properties, protocols.
abbrev pub ro_fields : ClassRo → List Field
ro_fields r =
    row_list lists.Methods r.methods
    ∷ row_list lists.Ivars r.ivars
    ∷ row_list lists.Properties r.properties
    ∷ name_list r.protocols
    ∷ []

-- Protocol: as stored, with class properties sixth and protocols last.
abbrev pub protocol_fields : ObjcProtocol → List Field
protocol_fields p =
    row_list lists.Methods p.instance_methods
    ∷ row_list lists.Methods p.class_methods
    ∷ row_list lists.Methods p.optional_instance_methods
    ∷ row_list lists.Methods p.optional_class_methods
    ∷ row_list lists.Properties p.instance_properties
    ∷ row_list lists.Properties p.class_properties
    ∷ name_list p.protocols
    ∷ []

-- Category: methods, class methods, protocols, properties, class properties.
abbrev pub category_fields : ObjcCategory → List Field
category_fields c =
    row_list lists.Methods c.instance_methods
    ∷ row_list lists.Methods c.class_methods
    ∷ name_list c.protocols
    ∷ row_list lists.Properties c.instance_properties
    ∷ row_list lists.Properties c.class_properties
    ∷ []

-- The records in the order classes, protocols, categories.
unfoldable pub plain_records : Tables → Outcome (List Record)
plain_records t =
    joined (as_each a_record.Class (plain_classes t))
    (joined (as_each a_record.Protocol (plain_protocols t)) (as_each a_record.Category (plain_categories t)))

-- A record's own line, and R if it has a class_ro.
unfoldable pub own_lines : Tables → Record → Outcome (List Line)
own_lines t (a_record.Class c) =
    and_then (name_or_none (superclass_name t c)) (λ name.
    joined (value (class_line c name ∷ [])) (of_value (ro_of t c) (λ r. value (line.Ro r ∷ []))))
own_lines t (a_record.Protocol p) = value (line.Protocol p ∷ [])
own_lines t (a_record.Category c) = and_then (name_or_none (category_class_name t c)) (λ name. value (category_line c name ∷ []))

-- Its lists; a class without a class_ro has none.
unfoldable pub record_fields : Tables → Record → Outcome (List Field)
record_fields t (a_record.Class c) = of_value (ro_of t c) (λ r. value (ro_fields r))
record_fields t (a_record.Protocol p) = value (protocol_fields p)
record_fields t (a_record.Category c) = value (category_fields c)

-- The line of an entry is its row's, none where the entry is skipped. The lines of a list, and of the lists from number n on.
abbrev pub entry_lines : Tables → ℕ → Layout → ℕ → Outcome (List Line)
entry_lines t n h j = of_value (row_at t h.kind (entry_address h j)) (λ r. value (row_line n r ∷ []))

unfoldable pub field_lines : Tables → ℕ → Field → Outcome (List Line)
field_lines t n (row_list k va) = of_value (list_at t k va) (λ h. gather (entry_lines t n h) (readables (image_in t) h))
field_lines t n (name_list va) = as_each (name_line n) (protocol_names t va)

unfoldable pub fields_lines : Tables → ℕ → List Field → Outcome (List Line)
fields_lines t n [] = value []
fields_lines t n (f ∷ fs) = joined (field_lines t n f) (fields_lines t (suc n) fs)

unfoldable pub lines_of : Tables → Record → Outcome (List Line)
lines_of t x = joined (own_lines t x) (and_then (record_fields t x) (fields_lines t 0))

-- An entry that a walk settles: its index, and why it is skipped, if it is.
pub record Entry : Type 0 where
  pub index : ℕ
  pub skipped : Option Reason

abbrev pub with_row : ℕ → Entry
with_row j = record { index = j; skipped = None }

abbrev pub without_row : ℕ → Reason → Entry
without_row j r = record { index = j; skipped = Some r }

-- Entry j by its row; a number stays.
abbrev pub entry_by : ℕ → Outcome Row → Outcome (List Entry)
entry_by j (value row) = value (with_row j ∷ [])
entry_by j (absent r) = value (without_row j r ∷ [])
entry_by j (refused k) = refused k

abbrev pub entry_in : Tables → Layout → ℕ → Outcome (List Entry)
entry_in t h j = entry_by j (row_at t h.kind (entry_address h j))

-- The entries that a walk over a list settles: all that are readable, skipped ones too.
unfoldable pub entries_in : Tables → Field → Outcome (List Entry)
entries_in t (row_list k va) = of_value (list_at t k va) (λ h. gather (entry_in t h) (readables (image_in t) h))
entries_in t (name_list va) = value []

-- A settling step: the record it belongs to and its field, each counted from 0, and the entry.
pub record Event : Type 0 where
  pub of : ℕ
  pub field : ℕ
  pub entry : Entry

abbrev pub event : ℕ → ℕ → Entry → Event
event of field entry = record { of = of; field = field; entry = entry }

-- The settling steps of a record's fields, each list once for each field that names it.
unfoldable pub field_events : Tables → ℕ → ℕ → List Field → Outcome (List Event)
field_events t r n [] = value []
field_events t r n (f ∷ fs) = joined (as_each (event r n) (entries_in t f)) (field_events t r (suc n) fs)

unfoldable pub record_events : Tables → ℕ → Record → Outcome (List Event)
record_events t r x = and_then (record_fields t x) (field_events t r 0)

unfoldable pub events_from : Tables → ℕ → List Record → Outcome (List Event)
events_from t r [] = value []
events_from t r (x ∷ xs) = joined (record_events t r x) (events_from t (suc r) xs)

abbrev pub plain_events : Tables → Outcome (List Event)
plain_events t = and_then (plain_records t) (events_from t 0)

-- The whole listing: I, the records with their rows and names, and E with the number of records and of settling steps.
unfoldable pub plain_listing : Tables → Outcome (List Line)
plain_listing t =
    and_then (plain_records t) (λ records.
    and_then (gather (lines_of t) records) (λ lines.
    and_then (events_from t 0 records) (λ events.
    value
    (info_line (version_and_flags t.info) t.setting
    ∷ (lines ++ (end_line (length records) (length events) ∷ []))))))

-- The record lines among lines: C, M, P and K.
unfoldable pub record_line_count : List Line → ℕ
record_line_count [] = 0
record_line_count (line.Info i ∷ xs) = record_line_count xs
record_line_count (line.Class c ∷ xs) = suc (record_line_count xs)
record_line_count (line.Ro r ∷ xs) = record_line_count xs
record_line_count (line.Protocol p ∷ xs) = suc (record_line_count xs)
record_line_count (line.Category c ∷ xs) = suc (record_line_count xs)
record_line_count (line.Row r ∷ xs) = record_line_count xs
record_line_count (line.Name n ∷ xs) = record_line_count xs
record_line_count (line.End e ∷ xs) = record_line_count xs
