-- The settling steps of a plain listing, taken apart: those of a field and of the fields after it, those of records and of the records after
-- them.
use Rattle.std.proofs.Common.{◌≡◌, ℕ, suc, ◌+◌, List, [], ◌∷◌, ◌++◌, map, length, sym, ap, ◌∙◌, arith, length-append}
use lib.ListN.{length-map}
use Rattle.reads.specs.Outcome.{Outcome, value, absent, refused}
use Rattle.pointers.specs.Tables.{Tables}
use Rattle.records.specs.List.{entry_address}
use Rattle.records.specs.Row.{row_at}
use Rattle.records.specs.declared.list.Layout.{Layout}
use Rattle.records.specs.declared.row.Row.{Row}
use Rattle.walks.specs.Gather.{joined, gather, as_each}
use Rattle.walks.proofs.Gathers.{Parts, joined_parts, joined_none, joined_joined, gather_none, gather_parts, each_came}
use Rattle.listing.specs.PlainListing.{Field, name_list, Entry, with_row, without_row, entry_by, entry_in, entries_in, Event, event, field_events, record_events, events_from, plain_events, plain_records}
use Rattle.listing.specs.declared.at.Record.{Record}

pub parts_length : {A : Type 0} {o p : Outcome (List A)} {zs : List A} (parts : Parts o p zs) → length zs ≡ length parts.first + length parts.second
parts_length parts = ap length parts.whole ∙ length-append parts.first parts.second

pub each_length : {A B : Type 0} {f : A → B} {o : Outcome (List A)} {ys : List B} (came : (xs : List A) × (o ≡ value xs) × (ys ≡ map f xs)) → length ys ≡ length came.0
each_length {f = f} came = ap length came.2 ∙ length-map came.0 f

pub record FieldParts (t : Tables) (r n : ℕ) (f : Field) (fs : List Field) (gs : List Event) : Type 0 where
  pub entries : List Entry
  pub later : List Event
  pub of_entries : entries_in t f ≡ value entries
  pub of_later : field_events t r (suc n) fs ≡ value later
  pub entries_then_later : gs ≡ map (event r n) entries ++ later
  pub total : length gs ≡ length entries + length later

pub field_parts : (t : Tables) (r n : ℕ) (f : Field) (fs : List Field) (gs : List Event) → field_events t r n (f ∷ fs) ≡ value gs → FieldParts t r n f fs gs
unfolding field_events
field_parts t r n f fs gs e =
    let parts = joined_parts (as_each (event r n) (entries_in t f)) (field_events t r (suc n) fs) e in
    let mine = each_came (event r n) (entries_in t f) parts.of_first in
    record {
      entries = mine.0;
      later = parts.second;
      of_entries = mine.1;
      of_later = parts.of_second;
      entries_then_later = parts.whole ∙ ap (λ (es : List Event). es ++ parts.second) mine.2;
      total = omega (arith, parts_length parts, each_length mine);
    }

-- Each readable entry is settled once.
entry_one : (j : ℕ) (v : Outcome Row) (es : List Entry) → entry_by j v ≡ value es → length es ≡ 1
entry_one j (value row) es e = let same : es ≡ with_row j ∷ [] = cc in rw same
entry_one j (absent r) es e = let same : es ≡ without_row j r ∷ [] = cc in rw same
entry_one j (refused k) es e = let z : ◌≡◌ {A = ℕ} 0 1 = cc in absurd (omega arith)

pub entries_length : (t : Tables) (h : Layout) (js : List ℕ) (es : List Entry) → gather (entry_in t h) js ≡ value es → length es ≡ length js
entries_length t h [] es e = ap length (gather_none (entry_in t h) e)
entries_length t h (j ∷ js) es e =
    let parts = gather_parts (entry_in t h) j js e in
    omega (arith, parts_length parts, entry_one j (row_at t h.kind (entry_address h j)) parts.first parts.of_first, entries_length t h js parts.second parts.of_second)

-- A list of protocol names settles none.
pub names_settle_none : (t : Tables) (va : ℕ) (js : List Entry) → entries_in t (name_list va) ≡ value js → js ≡ []
unfolding entries_in
names_settle_none t va js e = cc

-- Those of a listing, by its records.
pub events_of : (t : Tables) (rs : List Record) → plain_records t ≡ value rs → plain_events t ≡ events_from t 0 rs
events_of t rs e = rw e

pub events_append : (t : Tables) (r : ℕ) (xs ys : List Record) → events_from t r (xs ++ ys) ≡ joined (events_from t r xs) (events_from t (r + length xs) ys)
unfolding events_from
events_append t r [] ys = let z : r + 0 ≡ r = omega arith in rw z (sym (joined_none (events_from t r ys)))
events_append t r (x ∷ xs) ys =
    let z : suc r + length xs ≡ r + suc (length xs) = omega arith in
    ap (joined (record_events t r x)) (events_append t (suc r) xs ys ∙ ap (λ (i : ℕ). joined (events_from t (suc r) xs) (events_from t i ys)) z)
    ∙ sym (joined_joined (record_events t r x) (events_from t (suc r) xs) (events_from t (r + suc (length xs)) ys))
