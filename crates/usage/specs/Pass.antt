-- One pass over all that a listing reads, record by record, in the order of the listing's steps: a record that is listed twice is gone over
-- twice, and nothing is remembered. It uses the bytes that the listing uses (proofs/PassUses.antt). Nothing is made of what is read; a
-- question that refuses ends the pass.
use Rattle.std.specs.Prelude.{ℕ, zero, suc, ◌+◌, true, false, List, [], ◌∷◌, map}
use Rattle.reads.specs.Outcome.{choose}
use Rattle.records.specs.Category.{decode_category}
use Rattle.records.specs.Class.{decode_class, decode_ro_of, decode_class_name_of}
use Rattle.records.specs.Decode.{Decode, Tried, given, lacking, done, then, tried, nonzero}
use Rattle.records.specs.List.{entry_address, decode_list}
use Rattle.records.specs.Protocol.{decode_protocol}
use Rattle.records.specs.Row.{decode_row}
use Rattle.records.specs.declared.class.ObjcClass.{ObjcClass}
use Rattle.records.specs.declared.list.ListKind.{ListKind}
use Rattle.records.specs.declared.list.RowKind.{RowKind}
use Rattle.walks.specs.ProtocolNames.{has_slot, slot_in, decode_protocol_list, decode_name_in}
use Rattle.walks.specs.Sections.{meta_of}
use Rattle.walks.specs.Slots.{slots_of, decode_address}
use Rattle.walks.specs.declared.protocol_names.ProtocolList.{ProtocolList}
use Rattle.walks.specs.declared.slots.Lists.{Lists}
use Rattle.walks.specs.declared.slots.Lists.TheVariants.{Classes, Categories, Protocols}
use Rattle.listing.specs.DecodeListing.{decode_readables}
use Rattle.listing.specs.declared.at.Record.{Record}
use Rattle.listing.specs.declared.at.Record.TheVariants as a_record
use Rattle.listing.specs.PlainListing.{Field, row_list, name_list, ro_fields, protocol_fields, category_fields}

-- What a definition reads; one after another; what comes after a definition that is there; a definition that may be absent; each of a list.
abbrev pub reads : {A : Type 0} → Decode A → Decode (Unit {0})
reads d = then d (λ a. done tt)

abbrev pub both : Decode (Unit {0}) → Decode (Unit {0}) → Decode (Unit {0})
both d e = then d (λ _. e)

abbrev pub or_end : {A : Type 0} → (A → Decode (Unit {0})) → Tried A → Decode (Unit {0})
or_end f (given a) = f a
or_end f (lacking r) = done tt

abbrev pub if_there : {A : Type 0} → Decode A → (A → Decode (Unit {0})) → Decode (Unit {0})
if_there d f = then (tried d) (or_end f)

abbrev pub only : {A : Type 0} → Decode A → Decode (Unit {0})
only d = if_there d (λ a. done tt)

unfoldable pub each : {A : Type 0} → (A → Decode (Unit {0})) → List A → Decode (Unit {0})
each f [] = done tt
each f (a ∷ rest) = both (f a) (each f rest)

-- A list of rows: each entry that can be read.
abbrev pub each_row : RowKind → List ℕ → Decode (Unit {0})
each_row k addresses = each (λ a. only (decode_row k a)) addresses

unfoldable pub pass_rows : ListKind → ℕ → Decode (Unit {0})
pass_rows k va = if_there (decode_list k va) (λ h. then (decode_readables h) (λ js. each_row h.kind (map (entry_address h) js)))

-- A protocol list: the name of each slot; slots end where their addresses pass 64 bits.
unfoldable pub list_slots : ProtocolList → ℕ → ℕ → List ℕ
list_slots l i zero = []
list_slots l i (suc k) = choose (has_slot l i) (slot_in l i ∷ list_slots l (i + 1) k) []

abbrev pub each_name : List ℕ → Decode (Unit {0})
each_name slots = each (λ a. only (decode_name_in a)) slots

unfoldable pub pass_names : ℕ → Decode (Unit {0})
pass_names va = if_there (decode_protocol_list va) (λ l. each_name (list_slots l 0 l.count))

unfoldable pub pass_field : Field → Decode (Unit {0})
pass_field (row_list k va) = pass_rows k va
pass_field (name_list va) = pass_names va

-- A record's lines: a class's superclass name and the lists of its class_ro, a protocol's lists, a category's host name and lists.
unfoldable pub pass_lines : Record → Decode (Unit {0})
pass_lines (a_record.Class c) =
    both (only (decode_class_name_of c.address c.superclass_address)) (if_there (decode_ro_of c) (λ r. each pass_field (ro_fields r)))
pass_lines (a_record.Protocol p) = each pass_field (protocol_fields p)
pass_lines (a_record.Category c) =
    both (only (decode_class_name_of c.address c.class_address)) (each pass_field (category_fields c))

-- The record at an address; after a class comes its metaclass.
unfoldable pub pass_with_meta : ObjcClass → Decode (Unit {0})
pass_with_meta c =
    both (pass_lines (a_record.Class c)) (if_there (then (nonzero (meta_of c)) (λ a. decode_class a true)) (λ m. pass_lines (a_record.Class m)))

unfoldable pub pass_class : ℕ → Decode (Unit {0})
pass_class va = if_there (decode_class va false) pass_with_meta

unfoldable pub pass_protocol : ℕ → Decode (Unit {0})
pass_protocol va = if_there (decode_protocol va) (λ p. pass_lines (a_record.Protocol p))

unfoldable pub pass_category : ℕ → Decode (Unit {0})
pass_category va = if_there (decode_category va) (λ c. pass_lines (a_record.Category c))

-- A record of a section list, and what stands in each slot of the list; ws is the section table.
abbrev pub pass_record : Lists → ℕ → Decode (Unit {0})
pass_record Classes va = pass_class va
pass_record Categories va = pass_category va
pass_record Protocols va = pass_protocol va

unfoldable pub pass_slots : Lists → List ℕ → Decode (Unit {0})
pass_slots lists ws = each (λ a. if_there (decode_address a) (pass_record lists)) (slots_of lists ws)

unfoldable pub decode_pass : List ℕ → Decode (Unit {0})
decode_pass ws = both (pass_slots Classes ws) (both (pass_slots Protocols ws) (pass_slots Categories ws))
