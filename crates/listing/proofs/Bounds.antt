-- How long a listing can be. The settling steps are at most 6 x R x S x floor(n / 12): R the records, S the rows of the segment table, n
-- the length of the longest file (settled_few). Line E's numbers fit: the records in one word, the settling steps in two (records_few, events_few).
use Rattle.std.proofs.Common.{◌≡◌, ℕ, suc, ◌*◌, ◌/◌, ◌^◌, ◌<◌, ◌≤◌, true, List, [], ◌∷◌, length, replicate, refl, ap, ◌∙◌, lt_of_lt_of_le, mul-le-mul_right, suc-mul, mul-le-mul, arith, pow_mono, leb-true}
use lib.ListN.{length-replicate}
use Rattle.reads.specs.Files.{longest}
use Rattle.reads.specs.Segment.{segment_words}
use Rattle.reads.specs.Table.{records, word_of}
use Rattle.reads.specs.Outcome.{Outcome, value, absent, refused}
use Rattle.reads.proofs.Outcomes.{then_came}
use Rattle.pointers.specs.Open.{Opened}
use Rattle.pointers.specs.Question.{section_table}
use Rattle.pointers.specs.Section.{section_at}
use Rattle.pointers.specs.Tables.{Tables, image_in, section_words}
use Rattle.pointers.specs.declared.section.ObjcSection.{ObjcSection}
use Rattle.pointers.proofs.OpenedTables.{opened_asked, opened_room}
use Rattle.pointers.proofs.Questions.{section_by, section_row}
use Rattle.pointers.proofs.SectionRows.{by_section}
use Rattle.records.specs.Class.{ro_of}
use Rattle.records.specs.List.{list_at}
use Rattle.records.specs.Search.{readables}
use Rattle.records.specs.declared.category.ObjcCategory.{ObjcCategory}
use Rattle.records.specs.declared.class.ClassRo.{ClassRo}
use Rattle.records.specs.declared.class.ObjcClass.{ObjcClass}
use Rattle.records.specs.declared.list.Layout.{Layout}
use Rattle.records.specs.declared.list.ListKind.{ListKind}
use Rattle.records.specs.declared.protocol.ObjcProtocol.{ObjcProtocol}
use Rattle.walks.specs.Gather.{gather, of_value, as_each}
use Rattle.walks.specs.PlainSections.{plain_classes, plain_protocols, plain_categories, Gives, passing, dropping, giving, Run}
use Rattle.walks.specs.PlainSections as plain_sections
use Rattle.walks.specs.Sections as sections
use Rattle.walks.specs.Sections.{Walk}
use Rattle.walks.specs.Slots.{slot_count, protocol_count}
use Rattle.walks.proofs.Gathers.{joined_parts, each_came}
use Rattle.walks.proofs.PlainWalks.{class_run, category_run, protocol_run}
use Rattle.walks.proofs.Walk.{settled_bound}
use Rattle.listing.specs.PlainListing.{Field, row_list, name_list, ro_fields, protocol_fields, category_fields, plain_records, record_fields, Entry, entry_in, entries_in, Event, field_events, record_events, events_from, plain_events}
use Rattle.listing.specs.declared.at.Record.{Record}
use Rattle.listing.specs.declared.at.Record.TheVariants as a_record
use Rattle.listing.proofs.Events.{parts_length, each_length, field_parts, entries_length, names_settle_none}

-- The fields that name a list of rows.
unfoldable pub row_lists : List Field → ℕ
row_lists [] = 0
row_lists (row_list k va ∷ fs) = suc (row_lists fs)
row_lists (name_list va ∷ fs) = row_lists fs

-- A record has at most six of them: a class three, a protocol six, a category four.
class_six : (v : Outcome ClassRo) (fs : List Field) → of_value v (λ r. value (ro_fields r)) ≡ value fs → row_lists fs ≤ 6
class_six (value r) fs e = let same : fs ≡ ro_fields r = cc in rw same (unfold row_lists in omega arith)
class_six (absent r) fs e = let same : fs ≡ [] = cc in rw same (unfold row_lists in omega arith)
class_six (refused k) fs e = let z : ◌≡◌ {A = ℕ} 0 1 = cc in absurd (omega arith)

six_lists : (t : Tables) (x : Record) (fs : List Field) → record_fields t x ≡ value fs → row_lists fs ≤ 6
unfolding record_fields
six_lists t (a_record.Class c) fs e = class_six (ro_of t c) fs e
six_lists t (a_record.Protocol p) fs e = let same : fs ≡ protocol_fields p = cc in rw same (unfold row_lists in omega arith)
six_lists t (a_record.Category c) fs e = let same : fs ≡ category_fields c = cc in rw same (unfold row_lists in omega arith)

module _ (t : Tables) (o : Opened t) where
  -- S x floor(n / 12), the most that a walk over one list settles.
  abbrev list_most : ℕ
  list_most = records segment_words t.segments * (longest t.files / 12)

  list_few : (k : ListKind) (va : ℕ) (v : Outcome Layout) → list_at t k va ≡ v → (js : List Entry)
      → of_value v (λ h. gather (entry_in t h) (readables (image_in t) h)) ≡ value js → length js ≤ list_most
  list_few k va (value h) e js d = rw (entries_length t h (readables (image_in t) h) js d) (settled_bound t o k va h e)
  list_few k va (absent r) e js d = let same : js ≡ [] = cc in rw same (omega arith)
  list_few k va (refused i) e js d = let z : ◌≡◌ {A = ℕ} 0 1 = cc in absurd (omega arith)

  pub entries_few : (k : ListKind) (va : ℕ) (js : List Entry) → entries_in t (row_list k va) ≡ value js
      → length js ≤ records segment_words t.segments * (longest t.files / 12)
  unfolding entries_in
  entries_few k va js e = list_few k va (list_at t k va) refl js e

  fields_few : (r n : ℕ) (fs : List Field) (gs : List Event) → field_events t r n fs ≡ value gs → length gs ≤ row_lists fs * list_most
  unfolding row_lists
  fields_few r n [] gs e = let none : value [] ≡ value gs = unfold field_events in e in let same : gs ≡ [] = cc in rw same (omega arith)
  fields_few r n (row_list k va ∷ fs) gs e =
      let parts = field_parts t r n (row_list k va) fs gs e in
      rw (suc-mul (row_lists fs) list_most)
      (omega (arith, entries_few k va parts.entries parts.of_entries, fields_few r (suc n) fs parts.later parts.of_later))
  fields_few r n (name_list va ∷ fs) gs e =
      let parts = field_parts t r n (name_list va) fs gs e in
      let none : length parts.entries ≡ 0 = ap length (names_settle_none t va parts.entries parts.of_entries) in
      omega (arith, fields_few r (suc n) fs parts.later parts.of_later)

  record_few : (r : ℕ) (x : Record) (gs : List Event) → record_events t r x ≡ value gs → length gs ≤ 6 * list_most
  unfolding record_events
  record_few r x gs e =
      let fields = then_came (record_fields t x) (field_events t r 0) gs e in
      omega (arith, fields_few r 0 fields.0 gs fields.2, mul-le-mul_right list_most (six_lists t x fields.0 fields.1))

  records_settle : (r : ℕ) (xs : List Record) (gs : List Event) → events_from t r xs ≡ value gs → length gs ≤ 6 * (length xs * list_most)
  unfolding events_from
  records_settle r [] gs e = let same : gs ≡ [] = cc in rw same (omega arith)
  records_settle r (x ∷ xs) gs e =
      let parts = joined_parts (record_events t r x) (events_from t (suc r) xs) e in
      rw (suc-mul (length xs) list_most)
      (omega (arith, parts_length parts, record_few r x parts.first parts.of_first, records_settle (suc r) xs parts.second parts.of_second))

  -- D3f.
  pub settled_few : (rs : List Record) (gs : List Event) → plain_records t ≡ value rs → plain_events t ≡ value gs
      → length gs ≤ 6 * (length rs * (records segment_words t.segments * (longest t.files / 12)))
  settled_few rs gs r e = records_settle 0 rs gs (rw r at e)

-- A run gives at most a record for each step.
gives_few : {A : Type 0} {step : Walk → List ℕ → sections.Left A} {n : ℕ} {w : Walk} {l : List ℕ} {rs : List A} → Gives step n w l rs → length rs ≤ n
gives_few (plain_sections.ended e) = omega arith
gives_few (passing e g) = omega (arith, gives_few g)
gives_few (dropping e g) = omega (arith, gives_few g)
gives_few (giving e g) = omega (arith, gives_few g)

run_few : {A : Type 0} {step : Walk → List ℕ → sections.Left A} {k : ℕ} {l : List ℕ} {rs : List A} → Run step k l rs → length rs ≤ k
run_few r = omega (arith, r.1, gives_few r.2)

-- A present section is no longer than the longest file (question SectionTable), so it has at most floor(n / 8) slots.
module _ (n : ℕ) (ws : List ℕ) (table : section_table n ws ≡ true) (i : ℕ) (below : i < 5) where
  abbrev presence : ℕ
  presence = word_of section_words ws i 0

  abbrev len : ℕ
  len = word_of section_words ws i 2

  present_fits : presence ≡ 1 → len ≤ n
  present_fits e = leb-true len n (section_by n presence len (λ z. omega arith) e ∙ section_row n ws table i below)

  pub section_slots : (section_at ws i).slots ≤ n / 8
  section_slots = by_section ws i (λ (s : ObjcSection). s.slots ≤ n / 8) (λ one. omega (arith, present_fits one)) (omega arith)

-- The records: at most two for each slot of class_list, nlclslist, cat_list and nlcat_list, one for each of proto_list.
module _ (t : Tables) (o : Opened t) where
  slots_of : (i : ℕ) → i < 5 → (section_at t.sections i).slots ≤ longest t.files / 8
  slots_of i l = section_slots (longest t.files) t.sections (opened_room t o).sections_fit i l

  pub pair_slots : (first second : ℕ) → first < 5 → second < 5 → slot_count t.sections first second ≤ 2 * (longest t.files / 8)
  unfolding slot_count
  pair_slots first second a b = omega (arith, slots_of first a, slots_of second b)

  -- A ledger that is long enough.
  long_ledger : ℕ → List ℕ
  long_ledger k = replicate k 0

  room : (k : ℕ) → k ≤ length (long_ledger k)
  unfolding long_ledger
  room k = rw (length-replicate {A = ℕ} k 0) (omega arith)

  classes_few : (cs : List ObjcClass) → plain_classes t ≡ value cs → length cs ≤ 4 * (longest t.files / 8)
  classes_few cs e =
      let run = class_run t (opened_asked t o) (long_ledger (slot_count t.sections 0 1)) (room (slot_count t.sections 0 1)) cs e in
      omega (arith, run_few run, pair_slots 0 1 (omega arith) (omega arith))

  categories_few : (cs : List ObjcCategory) → plain_categories t ≡ value cs → length cs ≤ 4 * (longest t.files / 8)
  categories_few cs e =
      let run = category_run t (opened_asked t o) (long_ledger (slot_count t.sections 2 3)) (room (slot_count t.sections 2 3)) cs e in
      omega (arith, run_few run, pair_slots 2 3 (omega arith) (omega arith))

  protocols_few : (ps : List ObjcProtocol) → plain_protocols t ≡ value ps → length ps ≤ longest t.files / 8
  unfolding protocol_count
  protocols_few ps e = omega (arith, run_few (protocol_run t (opened_asked t o) [] ps e), slots_of 4 (omega arith))

  records_slots : (rs : List Record) → plain_records t ≡ value rs → length rs ≤ 9 * (longest t.files / 8)
  unfolding plain_records
  records_slots rs e =
      let all = joined_parts (as_each a_record.Class (plain_classes t)) _ e in
      let others = joined_parts (as_each a_record.Protocol (plain_protocols t)) (as_each a_record.Category (plain_categories t)) all.of_second in
      let classes = each_came a_record.Class (plain_classes t) all.of_first in
      let protocols = each_came a_record.Protocol (plain_protocols t) others.of_first in
      let categories = each_came a_record.Category (plain_categories t) others.of_second in
      omega (
        arith,
        parts_length all,
        parts_length others,
        each_length classes,
        each_length protocols,
        each_length categories,
        classes_few classes.0 classes.1,
        protocols_few protocols.0 protocols.1,
        categories_few categories.0 categories.1,
      )

  pub records_few : (rs : List Record) → plain_records t ≡ value rs → length rs < 2 ^ 64
  records_few rs e = omega (arith, records_slots rs e, (opened_room t o).image_length)

  -- The settling steps, in numbers: at most 6 x 2^33 x 64 x 2^29.
  events_words : (gs : List Event) → plain_events t ≡ value gs → length gs < 2 ^ 72
  events_words gs e =
      let came = then_came (plain_records t) (events_from t 0) gs e in
      let rs = came.0 in
      let r = opened_room t o in
      let few : longest t.files / 12 ≤ 2 ^ 29 = omega (arith, r.image_length) in
      let some : length rs ≤ 2 ^ 33 = omega (arith, records_slots rs came.1, r.image_length) in
      let list = mul-le-mul {n₁ = records segment_words t.segments} {m₁ = longest t.files / 12} {n₂ = 64} {m₂ = 2 ^ 29} r.segment_count few in
      let all = mul-le-mul {n₁ = length rs} {n₂ = 2 ^ 33} {m₂ = 64 * 2 ^ 29} some list in
      omega (arith, settled_few t o rs gs came.1 e, all)

  pub events_few : (gs : List Event) → plain_events t ≡ value gs → length gs < 2 ^ 128
  events_few gs e = lt_of_lt_of_le {m = 2 ^ 72} (events_words gs e) (pow_mono {i = 72} {j = 128} (omega arith))
