-- The plain listing as one definition of questions and what is made of their answers (records/specs/Decode.antt): what it asks is what a
-- listing reads (document 02, notes 12 and 13). Each definition stands beside the plain one that its run is: Gather.antt, PlainSections.antt
-- and ProtocolNames.antt of walks, PlainListing.antt.
use Rattle.std.specs.Prelude.{ℕ, zero, suc, ◌+◌, ◌^◌, true, false, List, [], ◌∷◌, ◌++◌, map, length, nat_lt, Option, Some, None}
use Rattle.reads.specs.declared.text.Text.{Text}
use Rattle.records.specs.Category.{decode_category}
use Rattle.records.specs.Class.{decode_class, decode_ro_of, decode_class_name_of}
use Rattle.records.specs.Decode.{Decode, Tried, given, lacking, done, then, when, tried, nonzero, readable}
use Rattle.records.specs.List.{least, entry_address, decode_list}
use Rattle.records.specs.Protocol.{decode_protocol}
use Rattle.records.specs.Row.{decode_row}
use Rattle.records.specs.declared.category.ObjcCategory.{ObjcCategory}
use Rattle.records.specs.declared.class.ObjcClass.{ObjcClass}
use Rattle.records.specs.declared.list.Layout.{Layout}
use Rattle.records.specs.declared.protocol.ObjcProtocol.{ObjcProtocol}
use Rattle.records.specs.declared.row.Row.{Row}
use Rattle.walks.specs.PlainSections.{once}
use Rattle.walks.specs.ProtocolNames.{has_slot, slot_in, decode_protocol_list, decode_name_in}
use Rattle.walks.specs.Sections.{meta_of}
use Rattle.walks.specs.Slots.{slots_of, decode_address}
use Rattle.walks.specs.declared.protocol_names.ProtocolList.{ProtocolList}
use Rattle.walks.specs.declared.slots.Lists.{Lists}
use Rattle.walks.specs.declared.slots.Lists.TheVariants.{Classes, Categories, Protocols}
use Rattle.listing.specs.PlainListing.{class_line, category_line, row_line, name_line, end_line, Field, row_list, name_list, ro_fields, protocol_fields, category_fields, Entry, with_row, without_row, Event, event}
use Rattle.listing.specs.declared.at.Record.{Record}
use Rattle.listing.specs.declared.at.Record.TheVariants as a_record
use Rattle.listing.specs.declared.line.Line.{Line}
use Rattle.listing.specs.declared.line.Line.TheVariants as line

-- Lists that definitions give, one after the other; what each of a list gives; what a value gives, nothing where it is absent; a value alone;
-- each of a list, by a function.
abbrev pub joined : {A : Type 0} → Decode (List A) → Decode (List A) → Decode (List A)
joined d e = then d (λ xs. then e (λ ys. done (xs ++ ys)))

unfoldable pub gather : {A B : Type 0} → (A → Decode (List B)) → List A → Decode (List B)
gather f [] = done []
gather f (a ∷ rest) = joined (f a) (gather f rest)

abbrev pub or_nothing : {A B : Type 0} → (A → Decode (List B)) → Tried A → Decode (List B)
or_nothing f (given a) = f a
or_nothing f (lacking r) = done []

abbrev pub of_value : {A B : Type 0} → Decode A → (A → Decode (List B)) → Decode (List B)
of_value d f = then (tried d) (or_nothing f)

abbrev pub present : {A : Type 0} → Decode A → Decode (List A)
present d = of_value d (λ a. done (a ∷ []))

abbrev pub as_each : {A B : Type 0} → (A → B) → Decode (List A) → Decode (List B)
as_each f d = then d (λ xs. done (map f xs))

-- The records of the section lists; ws is the section table.
unfoldable pub decode_addresses : List ℕ → Decode (List ℕ)
decode_addresses slots = gather (λ a. present (decode_address a)) slots

unfoldable pub decode_listed : List ℕ → Lists → Decode (List ℕ)
decode_listed ws lists = then (decode_addresses (slots_of lists ws)) (λ addresses. done (once addresses))

unfoldable pub decode_with_meta : ObjcClass → Decode (List ObjcClass)
decode_with_meta c = joined (done (c ∷ [])) (present (then (nonzero (meta_of c)) (λ a. decode_class a true)))

unfoldable pub decode_classes : List ℕ → Decode (List ObjcClass)
decode_classes ws = then (decode_listed ws Classes) (gather (λ a. of_value (decode_class a false) decode_with_meta))

unfoldable pub decode_categories : List ℕ → Decode (List ObjcCategory)
decode_categories ws = then (decode_listed ws Categories) (gather (λ a. present (decode_category a)))

unfoldable pub decode_protocols : List ℕ → Decode (List ObjcProtocol)
decode_protocols ws = gather (λ a. of_value (decode_address a) (λ p. present (decode_protocol p))) (slots_of Protocols ws)

unfoldable pub decode_records : List ℕ → Decode (List Record)
decode_records ws =
    joined (as_each a_record.Class (decode_classes ws))
    (joined (as_each a_record.Protocol (decode_protocols ws)) (as_each a_record.Category (decode_categories ws)))

-- The protocol names of a list, k slots at most from i on.
unfoldable pub decode_slot_names : ProtocolList → ℕ → ℕ → Decode (List Text)
decode_slot_names l i zero = done []
decode_slot_names l i (suc k) =
    when (has_slot l i) (joined (present (decode_name_in (slot_in l i))) (decode_slot_names l (i + 1) k)) (done [])

unfoldable pub decode_protocol_names : ℕ → Decode (List Text)
decode_protocol_names va = of_value (decode_protocol_list va) (λ l. decode_slot_names l 0 l.count)

-- A name, or none.
abbrev pub named_by : Tried Text → Option Text
named_by (given t) = Some t
named_by (lacking r) = None

abbrev pub decode_named : Decode Text → Decode (Option Text)
decode_named d = then (tried d) (λ name. done (named_by name))

-- A record's own line, and R; its lists.
unfoldable pub decode_own_lines : Record → Decode (List Line)
decode_own_lines (a_record.Class c) =
    then (decode_named (decode_class_name_of c.address c.superclass_address)) (λ name.
    joined (done (class_line c name ∷ [])) (of_value (decode_ro_of c) (λ r. done (line.Ro r ∷ []))))
decode_own_lines (a_record.Protocol p) = done (line.Protocol p ∷ [])
decode_own_lines (a_record.Category c) =
    then (decode_named (decode_class_name_of c.address c.class_address)) (λ name. done (category_line c name ∷ []))

unfoldable pub decode_fields : Record → Decode (List Field)
decode_fields (a_record.Class c) = of_value (decode_ro_of c) (λ r. done (ro_fields r))
decode_fields (a_record.Protocol p) = done (protocol_fields p)
decode_fields (a_record.Category c) = done (category_fields c)

-- The readable entries of a list, of the k indices from i on.
unfoldable pub decode_index : Layout → ℕ → Decode (List ℕ)
decode_index h i =
    when (nat_lt (entry_address h i) (2 ^ 64)) (of_value (readable (entry_address h i) (least h.kind)) (λ p. done (i ∷ []))) (done [])

unfoldable pub decode_indices : Layout → ℕ → ℕ → Decode (List ℕ)
decode_indices h zero i = done []
decode_indices h (suc k) i = joined (decode_index h i) (decode_indices h k (suc i))

abbrev pub decode_readables : Layout → Decode (List ℕ)
decode_readables h = decode_indices h h.count 0

-- The lines of a list, of the lists from number n on, and of a record.
abbrev pub decode_entry_lines : ℕ → Layout → ℕ → Decode (List Line)
decode_entry_lines n h j = of_value (decode_row h.kind (entry_address h j)) (λ r. done (row_line n r ∷ []))

unfoldable pub decode_field_lines : ℕ → Field → Decode (List Line)
decode_field_lines n (row_list k va) = of_value (decode_list k va) (λ h. then (decode_readables h) (gather (decode_entry_lines n h)))
decode_field_lines n (name_list va) = as_each (name_line n) (decode_protocol_names va)

unfoldable pub decode_fields_lines : ℕ → List Field → Decode (List Line)
decode_fields_lines n [] = done []
decode_fields_lines n (f ∷ fs) = joined (decode_field_lines n f) (decode_fields_lines (suc n) fs)

unfoldable pub decode_lines_of : Record → Decode (List Line)
decode_lines_of x = joined (decode_own_lines x) (then (decode_fields x) (decode_fields_lines 0))

-- The entries that a walk over a list settles, and the settling steps of a record's fields.
abbrev pub entry_tried : ℕ → Tried Row → Entry
entry_tried j (given row) = with_row j
entry_tried j (lacking r) = without_row j r

abbrev pub decode_entry : Layout → ℕ → Decode (List Entry)
decode_entry h j = then (tried (decode_row h.kind (entry_address h j))) (λ row. done (entry_tried j row ∷ []))

unfoldable pub decode_entries : Field → Decode (List Entry)
decode_entries (row_list k va) = of_value (decode_list k va) (λ h. then (decode_readables h) (gather (decode_entry h)))
decode_entries (name_list va) = done []

unfoldable pub decode_field_events : ℕ → ℕ → List Field → Decode (List Event)
decode_field_events r n [] = done []
decode_field_events r n (f ∷ fs) = joined (as_each (event r n) (decode_entries f)) (decode_field_events r (suc n) fs)

unfoldable pub decode_record_events : ℕ → Record → Decode (List Event)
decode_record_events r x = then (decode_fields x) (decode_field_events r 0)

unfoldable pub decode_events_from : ℕ → List Record → Decode (List Event)
decode_events_from r [] = done []
decode_events_from r (x ∷ xs) = joined (decode_record_events r x) (decode_events_from (suc r) xs)

unfoldable pub decode_events : List ℕ → Decode (List Event)
decode_events ws = then (decode_records ws) (decode_events_from 0)

-- The listing after its line I, of which the image has no part: the records with their rows and names, and E.
unfoldable pub decode_listing : List ℕ → Decode (List Line)
decode_listing ws =
    then (decode_records ws) (λ records.
    then (gather decode_lines_of records) (λ lines.
    then (decode_events_from 0 records) (λ events.
    done (lines ++ (end_line (length records) (length events) ∷ [])))))
