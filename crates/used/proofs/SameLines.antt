-- The texts that the listing's lines hold have the same bytes in both images: they lie in the ranges used.
use Prim.Native.Nat.{ℕ, zero, suc, ◌+◌}
use mathlib.Core.List.{List, [], ◌∷◌, ◌++◌, map}
use lib.ListN.{length}
use Rattle.reads.specs.declared.text.Text.{Text}
use Rattle.pointers.specs.Tables.{Tables}
use Rattle.records.specs.Asks.{Each}
use Rattle.records.specs.Class.{decode_class_name_of}
use Rattle.records.specs.Decode.{Decode, Tried, given, lacking, done}
use Rattle.records.specs.List.{entry_address}
use Rattle.walks.specs.ProtocolNames.{slot_in, decode_protocol_name, decode_protocol_name_in, decode_name_in}
use Rattle.walks.specs.Slots.{slots_of}
use Rattle.walks.specs.declared.protocol_names.ProtocolList.{ProtocolList}
use Rattle.walks.specs.declared.slots.Lists.TheVariants.{Protocols}
use Rattle.listing.specs.DecodeListing.{joined, gather, or_nothing, of_value, present, as_each, decode_categories, decode_protocols, decode_records, decode_slot_names, decode_protocol_names, named_by, decode_named, decode_own_lines, decode_field_lines, decode_fields_lines, decode_lines_of, decode_listing}
use Rattle.listing.specs.PlainListing.{row_line, name_line, end_line, Field, row_list, name_list}
use Rattle.listing.specs.declared.at.Record.{Record}
use Rattle.listing.specs.declared.at.Record.TheVariants as a_record
use Rattle.listing.specs.declared.line.Line.{Line}
use Rattle.listing.specs.declared.line.Line.TheVariants as line
use Rattle.used.proofs.Yields.{IfGiven, yields_done, yields_then, yields_next, yields_else_first, yields_when, yields_tried}
use Rattle.used.proofs.SameTexts.{SameText, Gives, SameRow, symbol_gives, ro_of_gives, class_name_of_gives, protocol_gives, category_gives, row_gives}
use Rattle.std.specs.Prelude.{Option, Some, None}

-- What holds of each of two lists holds of each of both together, and of each of a list made from one.
each_append : {A : Type 0} (P : A → Type 0) (xs ys : List A) → Each P xs → Each P ys → Each P (xs ++ ys)
each_append P [] ys h g = g
each_append P (x ∷ xs) ys h g = (h.0, each_append P xs ys h.1 g)

pub each_map : {A B : Type 0} (P : A → Type 0) (R : B → Type 0) (f : A → B) → ((a : A) → P a → R (f a)) → (xs : List A) → Each P xs → Each R (map f xs)
each_map P R f k [] h = tt
each_map P R f k (x ∷ xs) h = (k x h.0, each_map P R f k xs h.1)

module _ (t : Tables) (others : List (List ℕ)) where
  -- The words of DecodeListing.antt.
  gives_joined : {A : Type 0} (P : A → Type 0) {d e : Decode (List A)} → Gives t others (Each P) d → Gives t others (Each P) e → Gives t others (Each P) (joined d e)
  gives_joined P first second =
      yields_then t _ first (λ xs here. yields_then t _ second (λ ys there. yields_done t _ (each_append P xs ys here there)))

  gives_gather : {A B : Type 0} (R : A → Type 0) (P : B → Type 0) {f : A → Decode (List B)} → ((a : A) → R a → Gives t others (Each P) (f a)) → (xs : List A) → Each R xs
      → Gives t others (Each P) (gather f xs)
  unfolding gather
  gives_gather R P each [] h = yields_done t _ tt
  gives_gather R P each (x ∷ xs) h = gives_joined P (each x h.0) (gives_gather R P each xs h.1)

  any : {A : Type 0} (xs : List A) → Each (λ _. Unit {0}) xs
  any [] = tt
  any (x ∷ xs) = (tt, any xs)

  gives_all : {A B : Type 0} (P : B → Type 0) {f : A → Decode (List B)} → ((a : A) → Gives t others (Each P) (f a)) → (xs : List A) → Gives t others (Each P) (gather f xs)
  gives_all P each xs = gives_gather (λ _. Unit {0}) P (λ a _. each a) xs (any xs)

  gives_of : {A B : Type 0} {R : A → Type 0} (P : B → Type 0) {d : Decode A} (f : A → Decode (List B)) → Gives t others R d → ((a : A) → R a → Gives t others (Each P) (f a))
      → Gives t others (Each P) (of_value d f)
  gives_of {A} {B} {R} P f first next = yields_then t _ (yields_tried t _ first) by_trial
    where
      by_trial : (x : Tried A) → IfGiven R x → Gives t others (Each P) (or_nothing f x)
      by_trial (given a) h = next a h
      by_trial (lacking r) h = yields_done t _ tt

  gives_of_any : {A B : Type 0} (P : B → Type 0) {d : Decode A} (f : A → Decode (List B)) → ((a : A) → Gives t others (Each P) (f a)) → Gives t others (Each P) (of_value d f)
  gives_of_any P f next = gives_of {R = λ _. Unit {0}} P f (record { holds = λ each a e. tt }) (λ a _. next a)

  gives_present : {A : Type 0} (P : A → Type 0) {d : Decode A} → Gives t others P d → Gives t others (Each P) (present d)
  gives_present P h = gives_of P (λ a. done (a ∷ [])) h (λ a k. yields_done t _ (k, tt))

  gives_each : {A B : Type 0} (P : A → Type 0) (R : B → Type 0) (f : A → B) {d : Decode (List A)} → ((a : A) → P a → R (f a)) → Gives t others (Each P) d → Gives t others (Each R) (as_each f d)
  gives_each P R f k h = yields_then t _ h (λ xs held. yields_done t _ (each_map P R f k xs held))

  -- A record's name, where it has one; a line's texts.
  abbrev pub SameRecord : Record → Type 0
  SameRecord (a_record.Class c) = Unit {0}
  SameRecord (a_record.Protocol p) = SameText t others p.name
  SameRecord (a_record.Category c) = SameText t others c.name

  abbrev pub SameNamed : Option Text → Type 0
  SameNamed (Some x) = SameText t others x
  SameNamed None = Unit {0}

  abbrev pub SameLine : Line → Type 0
  SameLine (line.Info i) = Unit {0}
  SameLine (line.Class l) = SameNamed l.superclass_name
  SameLine (line.Ro r) = SameText t others r.name
  SameLine (line.Protocol p) = SameText t others p.name
  SameLine (line.Category l) = SameText t others l.category.name × SameNamed l.class_name
  SameLine (line.Row l) = SameRow t others l.row
  SameLine (line.Name l) = SameText t others l.name
  SameLine (line.End l) = Unit {0}

  -- Whatever a definition gives.
  gives_any : {A : Type 0} {P : A → Type 0} (d : Decode A) → ((a : A) → P a) → Gives t others P d
  gives_any d h = record { holds = λ each a e. h a }

  records_give : (ws : List ℕ) → Gives t others (Each SameRecord) (decode_records ws)
  unfolding decode_records decode_protocols decode_categories
  records_give ws =
      gives_joined SameRecord
      (yields_next t _ (λ cs. yields_done t _ (each_map (λ _. Unit {0}) SameRecord a_record.Class (λ c _. tt) cs (any cs))))
      (gives_joined SameRecord
      (gives_each (λ p. SameText t others p.name) SameRecord a_record.Protocol (λ p same. same)
      (gives_all _ (λ a. gives_of_any _ _ (λ p. gives_present _ (protocol_gives t others p))) (slots_of Protocols ws)))
      (gives_each (λ c. SameText t others c.name) SameRecord a_record.Category (λ c same. same)
      (yields_next t _ (gives_all _ (λ a. gives_present _ (category_gives t others a))))))

  named_gives : (d : Decode Text) → Gives t others (SameText t others) d → Gives t others SameNamed (decode_named d)
  named_gives d h = yields_then t _ (yields_tried t _ h) by_trial
    where
      by_trial : (x : Tried Text) → IfGiven (SameText t others) x → Gives t others SameNamed (done (named_by x))
      by_trial (given name) same = yields_done t _ same
      by_trial (lacking r) h = yields_done t _ tt

  own_lines_give : (x : Record) → SameRecord x → Gives t others (Each SameLine) (decode_own_lines x)
  unfolding decode_own_lines
  own_lines_give (a_record.Class c) h =
      yields_then t _ (named_gives (decode_class_name_of c.address c.superclass_address) (class_name_of_gives t others c.address c.superclass_address)) (λ name same.
      gives_joined SameLine (yields_done t _ (same, tt)) (gives_of SameLine (λ r. done (line.Ro r ∷ [])) (ro_of_gives t others c) (λ r alike. yields_done t _ (alike, tt))))
  own_lines_give (a_record.Protocol p) h = yields_done t _ (h, tt)
  own_lines_give (a_record.Category c) h =
      yields_then t _ (named_gives (decode_class_name_of c.address c.class_address) (class_name_of_gives t others c.address c.class_address)) (λ name same. yields_done t _ ((h, same), tt))

  protocol_name_gives : (a : ℕ) → Gives t others (SameText t others) (decode_name_in a)
  unfolding decode_name_in decode_protocol_name_in decode_protocol_name
  protocol_name_gives a =
      yields_else_first t _
      (yields_next t _ (λ va. yields_next t _ (λ b. yields_then t _ (protocol_gives t others b) (λ p same. yields_done t _ same))))
      (symbol_gives t others a)

  slot_names_give : (l : ProtocolList) (i k : ℕ) → Gives t others (Each (SameText t others)) (decode_slot_names l i k)
  unfolding decode_slot_names
  slot_names_give l i zero = yields_done t _ tt
  slot_names_give l i (suc k) =
      yields_when t _ (gives_joined (SameText t others) (gives_present _ (protocol_name_gives (slot_in l i))) (slot_names_give l (i + 1) k)) (yields_done t _ tt)

  names_give : (va : ℕ) → Gives t others (Each (SameText t others)) (decode_protocol_names va)
  unfolding decode_protocol_names
  names_give va = gives_of_any _ _ (λ l. slot_names_give l 0 l.count)

  field_lines_give : (n : ℕ) (f : Field) → Gives t others (Each SameLine) (decode_field_lines n f)
  unfolding decode_field_lines
  field_lines_give n (row_list k va) =
      gives_of_any SameLine _ (λ h. yields_next t _ (λ js.
      gives_all SameLine (λ j. gives_of SameLine (λ r. done (row_line n r ∷ [])) (row_gives t others h.kind (entry_address h j)) (λ r same. yields_done t _ (same, tt))) js))
  field_lines_give n (name_list va) = gives_each (SameText t others) SameLine (name_line n) (λ name same. same) (names_give va)

  fields_lines_give : (n : ℕ) (fs : List Field) → Gives t others (Each SameLine) (decode_fields_lines n fs)
  unfolding decode_fields_lines
  fields_lines_give n [] = yields_done t _ tt
  fields_lines_give n (f ∷ fs) = gives_joined SameLine (field_lines_give n f) (fields_lines_give (suc n) fs)

  lines_give : (x : Record) → SameRecord x → Gives t others (Each SameLine) (decode_lines_of x)
  unfolding decode_lines_of
  lines_give x h = gives_joined SameLine (own_lines_give x h) (yields_next t _ (fields_lines_give 0))

  pub listing_gives : (ws : List ℕ) → Gives t others (Each SameLine) (decode_listing ws)
  unfolding decode_listing
  listing_gives ws =
      yields_then t _ (records_give ws) (λ records alike.
      yields_then t _ (gives_gather SameRecord SameLine lines_give records alike) (λ lines same.
      yields_next t _ (λ events.
      yields_done t _ (each_append SameLine lines (end_line (length records) (length events) ∷ []) same (tt, tt)))))
