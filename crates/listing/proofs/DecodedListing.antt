-- The listing as one definition (specs/DecodeListing.antt) is the plain listing, over all tables, numbers and reasons included.
use Rattle.std.proofs.Common.{◌≡◌, ℕ, zero, suc, ◌+◌, ◌^◌, Bool, true, false, ◌&&◌, ltb, List, [], ◌∷◌, ◌++◌, length, refl}
use Rattle.reads.specs.Breaks.{is_value, can_read}
use Rattle.reads.specs.Outcome.{Outcome, value, absent, refused, Unrefused, a_value, an_absence, and_then, choose}
use Rattle.reads.specs.declared.place.Place.{Place}
use Rattle.reads.specs.declared.text.Text.{Text}
use Rattle.reads.proofs.Outcomes.{then_alike}
use Rattle.reads.proofs.Unrefused.{readable_unrefused}
use Rattle.pointers.specs.Tables.{Tables, image_in}
use Rattle.records.specs.Category.{decode_category, category_at}
use Rattle.records.specs.Class.{decode_class, class_at, decode_ro_of, decode_class_name_of}
use Rattle.records.specs.Decode.{Decode, run, tried_of, done, then, nonzero}
use Rattle.records.specs.List.{least, entry_address, entry, decode_list}
use Rattle.records.specs.Protocol.{decode_protocol, protocol_at}
use Rattle.records.specs.Row.{decode_row, row_at}
use Rattle.records.specs.Search.{all_from, readables}
use Rattle.records.specs.declared.class.ObjcClass.{ObjcClass}
use Rattle.records.specs.declared.list.Layout.{Layout}
use Rattle.records.specs.declared.row.Row.{Row}
use Rattle.walks.specs.Gather as gathers
use Rattle.walks.specs.PlainSections.{addresses_in, listed, with_meta, plain_classes, plain_categories, plain_protocols}
use Rattle.walks.specs.ProtocolNames.{decode_protocol_list, has_slot, slot_in, decode_name_in, name_in, slot_names, protocol_names}
use Rattle.walks.specs.Sections.{meta_of}
use Rattle.walks.specs.Slots.{slots_of, decode_address, address_in}
use Rattle.walks.specs.declared.protocol_names.ProtocolList.{ProtocolList}
use Rattle.walks.specs.declared.slots.Lists.{Lists}
use Rattle.walks.specs.declared.slots.Lists.TheVariants.{Classes, Categories, Protocols}
use Rattle.listing.specs.PlainListing as plain
use Rattle.listing.specs.PlainListing.{info_line, version_and_flags, row_line, end_line, Field, row_list, name_list, ro_fields, plain_records, own_lines, record_fields, entry_lines, field_lines, fields_lines, lines_of, entry_in, entries_in, field_events, record_events, events_from, plain_events, plain_listing}
use Rattle.listing.specs.DecodeListing.{gather, or_nothing, of_value, present, decode_addresses, decode_listed, decode_with_meta, decode_classes, decode_categories, decode_protocols, decode_records, decode_slot_names, decode_protocol_names, named_by, decode_named, decode_own_lines, decode_fields, decode_index, decode_indices, decode_readables, decode_entry_lines, decode_field_lines, decode_fields_lines, decode_lines_of, entry_tried, decode_entry, decode_entries, decode_field_events, decode_record_events, decode_events_from, decode_events, decode_listing}
use Rattle.listing.specs.declared.at.Record.{Record}
use Rattle.listing.specs.declared.at.Record.TheVariants as a_record
use Rattle.listing.specs.declared.line.Line.{Line}
use Rattle.listing.specs.declared.line.Line.TheVariants as line

module _ (t : Tables) where
  -- The words, each beside that of Gather.antt. (Of `joined` and `as_each` the run is the plain one by definition.)
  gather_runs : {A B : Type 0} (f : A → Decode (List B)) (g : A → Outcome (List B)) → ((a : A) → run t (f a) ≡ g a) → (xs : List A)
      → run t (gather f xs) ≡ gathers.gather g xs
  unfolding gather gathers.gather
  gather_runs f g h [] = refl
  gather_runs f g h (a ∷ rest) = rw (h a, gather_runs f g h rest)

  of_value_runs : {A B : Type 0} (d : Decode A) (f : A → Decode (List B)) (g : A → Outcome (List B)) → ((a : A) → run t (f a) ≡ g a)
      → run t (of_value d f) ≡ gathers.of_value (run t d) g
  of_value_runs {A} d f g h = go (run t d)
    where
      go : (o : Outcome A) → and_then (tried_of o) (λ x. run t (or_nothing f x)) ≡ gathers.of_value o g
      go (value a) = h a
      go (absent r) = refl
      go (refused k) = refl

  present_runs : {A : Type 0} (d : Decode A) → run t (present d) ≡ gathers.present (run t d)
  present_runs d = of_value_runs d (λ a. done (a ∷ [])) (λ a. value (a ∷ [])) (λ a. refl)

  -- The records.
  addresses_run : (slots : List ℕ) → run t (decode_addresses slots) ≡ addresses_in t slots
  unfolding decode_addresses addresses_in
  addresses_run slots = gather_runs (λ a. present (decode_address a)) (λ a. gathers.present (address_in t a)) (λ a. present_runs (decode_address a)) slots

  pub listed_runs : (lists : Lists) → run t (decode_listed t.sections lists) ≡ listed t lists
  unfolding decode_listed listed
  listed_runs lists = rw (addresses_run (slots_of lists t.sections))

  meta_runs : (c : ObjcClass) → run t (decode_with_meta c) ≡ with_meta t c
  unfolding decode_with_meta with_meta
  meta_runs c = rw (present_runs (then (nonzero (meta_of c)) (λ a. decode_class a true)))

  classes_run : run t (decode_classes t.sections) ≡ plain_classes t
  unfolding decode_classes plain_classes
  classes_run =
      rw (listed_runs Classes)
      (then_alike (listed t Classes)
      (gather_runs (λ a. of_value (decode_class a false) decode_with_meta) (λ a. gathers.of_value (class_at t a false) (with_meta t))
      (λ a. of_value_runs (decode_class a false) decode_with_meta (with_meta t) meta_runs)))

  categories_run : run t (decode_categories t.sections) ≡ plain_categories t
  unfolding decode_categories plain_categories
  categories_run =
      rw (listed_runs Categories)
      (then_alike (listed t Categories)
      (gather_runs (λ a. present (decode_category a)) (λ a. gathers.present (category_at t a)) (λ a. present_runs (decode_category a))))

  protocols_run : run t (decode_protocols t.sections) ≡ plain_protocols t
  unfolding decode_protocols plain_protocols
  protocols_run =
      gather_runs (λ a. of_value (decode_address a) (λ p. present (decode_protocol p))) (λ a. gathers.of_value (address_in t a) (λ p. gathers.present (protocol_at t p)))
      (λ a. of_value_runs (decode_address a) (λ p. present (decode_protocol p)) (λ p. gathers.present (protocol_at t p)) (λ p. present_runs (decode_protocol p)))
      (slots_of Protocols t.sections)

  pub records_run : run t (decode_records t.sections) ≡ plain_records t
  unfolding decode_records plain_records
  records_run = rw (classes_run, protocols_run, categories_run)

  -- The names of protocol lists.
  slot_names_run : (l : ProtocolList) (i k : ℕ) → run t (decode_slot_names l i k) ≡ gathers.gather gathers.present (slot_names t l i k)
  unfolding decode_slot_names slot_names gathers.gather
  slot_names_run l i zero = refl
  slot_names_run l i (suc k) = go (has_slot l i) (slot_names_run l (i + 1) k)
    where
      go : (b : Bool) → run t (decode_slot_names l (i + 1) k) ≡ gathers.gather gathers.present (slot_names t l (i + 1) k)
          → choose b (gathers.joined (run t (present (decode_name_in (slot_in l i)))) (run t (decode_slot_names l (i + 1) k))) (value [])
          ≡ gathers.gather gathers.present (choose b (name_in t (slot_in l i) ∷ slot_names t l (i + 1) k) [])
      go true e = unfold choose gathers.gather in rw (present_runs (decode_name_in (slot_in l i)), e)
      go false e = unfold choose gathers.gather in refl

  names_run : (va : ℕ) → run t (decode_protocol_names va) ≡ protocol_names t va
  unfolding decode_protocol_names protocol_names
  names_run va =
      of_value_runs (decode_protocol_list va) (λ l. decode_slot_names l 0 l.count) (λ l. gathers.gather gathers.present (slot_names t l 0 l.count))
      (λ l. slot_names_run l 0 l.count)

  -- The lines of records.
  named_runs : (d : Decode Text) → run t (decode_named d) ≡ plain.name_or_none (run t d)
  named_runs d = go (run t d)
    where
      go : (o : Outcome Text) → and_then (tried_of o) (λ name. value (named_by name)) ≡ plain.name_or_none o
      go (value name) = refl
      go (absent r) = refl
      go (refused k) = refl

  pub own_lines_run : (x : Record) → run t (decode_own_lines x) ≡ own_lines t x
  unfolding decode_own_lines own_lines
  own_lines_run (a_record.Class c) =
      rw (named_runs (decode_class_name_of c.address c.superclass_address), of_value_runs (decode_ro_of c) (λ r. done (line.Ro r ∷ [])) (λ r. value (line.Ro r ∷ [])) (λ r. refl))
  own_lines_run (a_record.Protocol p) = refl
  own_lines_run (a_record.Category c) = rw (named_runs (decode_class_name_of c.address c.class_address))

  pub fields_run : (x : Record) → run t (decode_fields x) ≡ record_fields t x
  unfolding decode_fields record_fields
  fields_run (a_record.Class c) = of_value_runs (decode_ro_of c) (λ r. done (ro_fields r)) (λ r. value (ro_fields r)) (λ r. refl)
  fields_run (a_record.Protocol p) = refl
  fields_run (a_record.Category c) = refl

  -- A test whether bytes can be read is never refused.
  index_runs : (h : Layout) (i : ℕ) → run t (decode_index h i) ≡ value (choose (entry (image_in t) h i) (i ∷ []) [])
  unfolding decode_index entry can_read
  index_runs h i = go (ltb (entry_address h i) (2 ^ 64)) (readable_unrefused (image_in t) (entry_address h i) (least h.kind))
    where
      go : (b : Bool) {o : Outcome Place} → Unrefused o → choose b (and_then (tried_of o) (λ x. run t (or_nothing (λ p. done (i ∷ [])) x))) (value []) ≡ value (choose (b && is_value o) (i ∷ []) [])
      go true (a_value p) = unfold choose in refl
      go true (an_absence r) = unfold choose in refl
      go false u = unfold choose in refl

  indices_run : (h : Layout) (k i : ℕ) → run t (decode_indices h k i) ≡ value (all_from (entry (image_in t) h) k i)
  unfolding decode_indices all_from
  indices_run h zero i = refl
  indices_run h (suc k) i = rw (index_runs h i, indices_run h k (suc i)) (go (entry (image_in t) h i) (all_from (entry (image_in t) h) k (suc i)))
    where
      go : (b : Bool) (js : List ℕ) → value (choose b (i ∷ []) [] ++ js) ≡ value (choose b (i ∷ js) js)
      go true js = unfold choose in refl
      go false js = unfold choose in refl

  pub readables_run : (h : Layout) → run t (decode_readables h) ≡ value (readables (image_in t) h)
  unfolding readables
  readables_run h = indices_run h h.count 0

  field_lines_run : (n : ℕ) (f : Field) → run t (decode_field_lines n f) ≡ field_lines t n f
  unfolding decode_field_lines field_lines
  field_lines_run n (row_list k va) =
      of_value_runs (decode_list k va) (λ h. then (decode_readables h) (gather (decode_entry_lines n h))) (λ h. gathers.gather (entry_lines t n h) (readables (image_in t) h)) (λ h.
      rw (readables_run h)
      (gather_runs (decode_entry_lines n h) (entry_lines t n h)
      (λ j. of_value_runs (decode_row h.kind (entry_address h j)) (λ r. done (row_line n r ∷ [])) (λ r. value (row_line n r ∷ [])) (λ r. refl))
      (readables (image_in t) h)))
  field_lines_run n (name_list va) = rw (names_run va)

  pub fields_lines_run : (n : ℕ) (fs : List Field) → run t (decode_fields_lines n fs) ≡ fields_lines t n fs
  unfolding decode_fields_lines fields_lines
  fields_lines_run n [] = refl
  fields_lines_run n (f ∷ fs) = rw (field_lines_run n f, fields_lines_run (suc n) fs)

  lines_run : (x : Record) → run t (decode_lines_of x) ≡ lines_of t x
  unfolding decode_lines_of lines_of
  lines_run x = rw (own_lines_run x, fields_run x, then_alike (record_fields t x) (fields_lines_run 0))

  -- The settling steps.
  entry_runs : (h : Layout) (j : ℕ) → run t (decode_entry h j) ≡ entry_in t h j
  entry_runs h j = go (row_at t h.kind (entry_address h j))
    where
      go : (o : Outcome Row) → and_then (tried_of o) (λ row. value (entry_tried j row ∷ [])) ≡ plain.entry_by j o
      go (value row) = refl
      go (absent r) = refl
      go (refused k) = refl

  entries_run : (f : Field) → run t (decode_entries f) ≡ entries_in t f
  unfolding decode_entries entries_in
  entries_run (row_list k va) =
      of_value_runs (decode_list k va) (λ h. then (decode_readables h) (gather (decode_entry h))) (λ h. gathers.gather (entry_in t h) (readables (image_in t) h)) (λ h.
      rw (readables_run h) (gather_runs (decode_entry h) (entry_in t h) (entry_runs h) (readables (image_in t) h)))
  entries_run (name_list va) = refl

  pub field_events_run : (r n : ℕ) (fs : List Field) → run t (decode_field_events r n fs) ≡ field_events t r n fs
  unfolding decode_field_events field_events
  field_events_run r n [] = refl
  field_events_run r n (f ∷ fs) = rw (entries_run f, field_events_run r (suc n) fs)

  record_events_run : (r : ℕ) (x : Record) → run t (decode_record_events r x) ≡ record_events t r x
  unfolding decode_record_events record_events
  record_events_run r x = rw (fields_run x) (then_alike (record_fields t x) (field_events_run r 0))

  events_from_run : (r : ℕ) (xs : List Record) → run t (decode_events_from r xs) ≡ events_from t r xs
  unfolding decode_events_from events_from
  events_from_run r [] = refl
  events_from_run r (x ∷ xs) = rw (record_events_run r x, events_from_run (suc r) xs)

  pub events_run : run t (decode_events t.sections) ≡ plain_events t
  unfolding decode_events
  events_run = rw records_run (then_alike (plain_records t) (events_from_run 0))

  -- Behind line I the definition gives the plain listing.
  pub listing_runs : and_then (run t (decode_listing t.sections)) (λ lines. value (info_line (version_and_flags t.info) t.setting ∷ lines)) ≡ plain_listing t
  unfolding decode_listing plain_listing
  listing_runs = rw records_run (go (plain_records t))
    where
      first : Line
      first = info_line (version_and_flags t.info) t.setting

      behind : {A B : Type 0} (o : Outcome A) (p : Outcome B) (h : A → B → List Line)
          → and_then (and_then o (λ a. and_then p (λ b. value (h a b)))) (λ lines. value (first ∷ lines)) ≡ and_then o (λ a. and_then p (λ b. value (first ∷ h a b)))
      behind (value a) (value b) h = refl
      behind (value a) (absent r) h = refl
      behind (value a) (refused k) h = refl
      behind (absent r) p h = refl
      behind (refused k) p h = refl

      go : (o : Outcome (List Record))
          → and_then
          (and_then o (λ records.
          and_then (run t (gather decode_lines_of records)) (λ lines.
          and_then (run t (decode_events_from 0 records)) (λ events.
          value (lines ++ (end_line (length records) (length events) ∷ []))))))
          (λ lines. value (first ∷ lines))
          ≡ and_then o (λ records.
          and_then (gathers.gather (lines_of t) records) (λ lines.
          and_then (events_from t 0 records) (λ events.
          value (first ∷ (lines ++ (end_line (length records) (length events) ∷ []))))))
      go (value records) =
          rw (gather_runs decode_lines_of (lines_of t) lines_run records, events_from_run 0 records)
          (behind (gathers.gather (lines_of t) records) (events_from t 0 records) (λ lines events. lines ++ (end_line (length records) (length events) ∷ [])))
      go (absent r) = refl
      go (refused k) = refl
