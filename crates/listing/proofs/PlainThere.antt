-- Over what opening accepted the plain listing is there: no lookup that it asks for gives a number.
use Rattle.std.proofs.Common.{◌≡◌, ℕ, suc, ◌≤◌, List, [], ◌∷◌, map, length, ◌∙◌, arith, le-leb}
use Rattle.reads.specs.Outcome.{Outcome, value, Unrefused, a_value, an_absence}
use Rattle.reads.specs.declared.text.Text.{Text}
use Rattle.reads.proofs.Numbers.{le_inside}
use Rattle.reads.proofs.Tests.{choose_true}
use Rattle.pointers.specs.ImageInfo.{image_info}
use Rattle.pointers.specs.Open.{Opened}
use Rattle.pointers.specs.Tables.{Tables, image_in}
use Rattle.pointers.proofs.OpenedTables.{opened_room, opened_info}
use Rattle.records.specs.List.{entry_address}
use Rattle.records.specs.Search.{readables}
use Rattle.records.proofs.Decodes.{class_name_of_unrefused, ro_unrefused, row_unrefused}
use Rattle.records.proofs.Headers.{list_unrefused}
use Rattle.records.specs.declared.row.Row.{Row}
use Rattle.walks.specs.Gather.{gather}
use Rattle.walks.proofs.Gathers.{There, is_there, there_then, there_joined, there_of, there_gather}
use Rattle.walks.proofs.OpenedSections.{classes_there, categories_there, protocols_there}
use Rattle.walks.proofs.ProtocolNameWalks.{names_there}
use Rattle.listing.specs.PlainListing.{version_and_flags, Field, row_list, name_list, name_or_none, class_line, own_lines, record_fields, entry_lines, field_lines, fields_lines, lines_of, with_row, without_row, entry_by, entry_in, entries_in, event, field_events, record_events, events_from, plain_events, plain_records, plain_listing}
use Rattle.listing.specs.declared.at.Record.{Record}
use Rattle.listing.specs.declared.at.Record.TheVariants as a_record
use Rattle.listing.specs.declared.line.Line.TheVariants as line
use Rattle.std.specs.Prelude.{Some, None}

name_there : {v : Outcome Text} → Unrefused v → There (name_or_none v)
name_there (a_value name) = is_there (Some name)
name_there (an_absence r) = is_there None

entry_there : (j : ℕ) {v : Outcome Row} → Unrefused v → There (entry_by j v)
entry_there j (a_value row) = is_there (with_row j ∷ [])
entry_there j (an_absence r) = is_there (without_row j r ∷ [])

module _ (t : Tables) (o : Opened t) where
  pub records_there : There (plain_records t)
  unfolding plain_records
  records_there =
      there_joined (there_then _ (classes_there t o) (λ cs. is_there _))
      (there_joined (there_then _ (protocols_there t o) (λ ps. is_there _)) (there_then _ (categories_there t o) (λ cs. is_there _)))

  own_there : (x : Record) → There (own_lines t x)
  unfolding own_lines
  own_there (a_record.Class c) =
      there_then _ (name_there (class_name_of_unrefused t o _ _)) (λ name.
      there_joined (is_there (class_line c name ∷ [])) (there_of (λ r. value (line.Ro r ∷ [])) (ro_unrefused t o c) (λ r. is_there (line.Ro r ∷ []))))
  own_there (a_record.Protocol p) = is_there _
  own_there (a_record.Category c) = there_then _ (name_there (class_name_of_unrefused t o _ _)) (λ name. is_there _)

  fields_there : (x : Record) → There (record_fields t x)
  unfolding record_fields
  fields_there (a_record.Class c) = there_of _ (ro_unrefused t o c) (λ r. is_there _)
  fields_there (a_record.Protocol p) = is_there _
  fields_there (a_record.Category c) = is_there _

  field_lines_there : (n : ℕ) (f : Field) → There (field_lines t n f)
  unfolding field_lines
  field_lines_there n (row_list k va) =
      there_of _ (list_unrefused t k va) (λ h.
      there_gather (entry_lines t n h) (λ j. there_of _ (row_unrefused t o h.kind (entry_address h j)) (λ r. is_there _)) (readables (image_in t) h))
  field_lines_there n (name_list va) = there_then _ (names_there t o va) (λ names. is_there _)

  fields_lines_there : (n : ℕ) (fs : List Field) → There (fields_lines t n fs)
  unfolding fields_lines
  fields_lines_there n [] = is_there []
  fields_lines_there n (f ∷ fs) = there_joined (field_lines_there n f) (fields_lines_there (suc n) fs)

  record_lines_there : (x : Record) → There (lines_of t x)
  unfolding lines_of
  record_lines_there x = there_joined (own_there x) (there_then _ (fields_there x) (fields_lines_there 0))

  pub lines_there : (xs : List Record) → There (gather (lines_of t) xs)
  lines_there xs = there_gather (lines_of t) record_lines_there xs

  entries_there : (f : Field) → There (entries_in t f)
  unfolding entries_in
  entries_there (row_list k va) =
      there_of _ (list_unrefused t k va) (λ h.
      there_gather (entry_in t h) (λ j. entry_there j (row_unrefused t o h.kind (entry_address h j))) (readables (image_in t) h))
  entries_there (name_list va) = is_there _

  field_events_there : (r n : ℕ) (fs : List Field) → There (field_events t r n fs)
  unfolding field_events
  field_events_there r n [] = is_there []
  field_events_there r n (f ∷ fs) = there_joined (there_then _ (entries_there f) (λ js. is_there (map (event r n) js))) (field_events_there r (suc n) fs)

  pub events_there : (r : ℕ) (xs : List Record) → There (events_from t r xs)
  unfolding events_from record_events
  events_there r [] = is_there []
  events_there r (x ∷ xs) = there_joined (there_then _ (fields_there x) (field_events_there r 0)) (events_there (suc r) xs)

  pub plain_events_there : There (plain_events t)
  plain_events_there = there_then _ records_there (events_there 0)

  pub listing_there : There (plain_listing t)
  unfolding plain_listing
  listing_there =
      there_then _ records_there (λ records. there_then _ (lines_there records) (λ lines. there_then _ (events_there 0 records) (λ events. is_there _)))

  -- Line I is what opening gave.
  pub opened_version : version_and_flags t.info ≡ o.gave
  unfolding image_info
  opened_version =
      let room = (opened_room t o).info_bytes in
      let bytes : 8 ≤ length t.info = room in
      let parsed : image_info t.info ≡ value (version_and_flags t.info) =
      choose_true _ _ (le-leb 8 (length t.info) bytes) ∙ rw (le_inside t.info 4 0 (omega arith), le_inside t.info 4 4 bytes) in
      let given = opened_info t o in
      cc
