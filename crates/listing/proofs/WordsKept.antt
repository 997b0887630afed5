-- The numbers that a listing's state counts up fit their words after each step that goes on, whatever the tables hold: a slot is below the
-- slots of sections no longer than the longest file, and the address of an entry or of a protocol slot is one of 64 bits.
use Rattle.std.proofs.Common.{◌≡◌, ℕ, zero, suc, ◌+◌, ◌^◌, ◌<◌, ◌≤◌, true, leb, List, [], ◌∷◌, length, drop, sym, refl, mul-le-mul_left, arith}
use Rattle.reads.specs.Files.{longest}
use Rattle.reads.specs.Outcome.{Outcome, value, absent, refused}
use Rattle.reads.specs.declared.text.Text.{Text}
use Rattle.reads.proofs.Outcomes.{then_came}
use Rattle.reads.proofs.Tests.{by_choose}
use Rattle.pointers.specs.Question.{question, asked, guarded}
use Rattle.pointers.specs.Section.{section_at}
use Rattle.pointers.specs.Tables.{Tables, image_in, under}
use Rattle.pointers.specs.declared.setting.Setting.{Setting}
use Rattle.pointers.proofs.Rooms.{asked_tables_lem, tables_room}
use Rattle.records.specs.Category.{category_class_name}
use Rattle.records.specs.Class.{ro_of, superclass_name}
use Rattle.records.specs.List.{list_at, entry_address}
use Rattle.records.specs.Row.{row_at}
use Rattle.records.specs.Search.{first_readable}
use Rattle.records.specs.declared.class.ClassRo.{ClassRo}
use Rattle.records.specs.declared.list.Layout.{Layout}
use Rattle.records.specs.declared.row.Row.{Row}
use Rattle.records.proofs.Headers.{list_least, least_12}
use Rattle.walks.specs.Handed.{over_list, count_by, from_cursor}
use Rattle.walks.specs.ProtocolNames.{protocol_list_at, slot_in, name_in, ReachedName, name_reached, name_passed, names_finished, NameLeft, named, step_in, over_names, next_name_under, next_name}
use Rattle.walks.specs.Sections as sections
use Rattle.walks.specs.Sections.{Walk, Step, found, passed, dropped, finished, Kind, step_by, step_of, protocol_step_of}
use Rattle.walks.specs.Slots.{slots_of, asked_slot, asked_ledger}
use Rattle.walks.specs.Walk.{ReachedRow, row_reached, row_skipped, rows_finished, RowLeft, settles, searched, over_rows, next_under, next_of}
use Rattle.walks.specs.declared.list_walk.ListWalk.{ListWalk}
use Rattle.walks.specs.declared.protocol_names.ProtocolList.{ProtocolList}
use Rattle.walks.specs.declared.protocol_names.ProtocolNameWalk.{ProtocolNameWalk}
use Rattle.walks.specs.declared.slots.Lists.{Lists}
use Rattle.walks.specs.declared.slots.Lists.TheVariants.{Classes, Categories, Protocols}
use Rattle.walks.proofs.ProtocolLists.{slot_below}
use Rattle.walks.proofs.Moves.{by_asked, by_cursor, Further, past_slot, past_waiting, SectionMoves, section_step_moved, protocol_step_moved}
use Rattle.walks.proofs.SlotLaws.{pair_length, section_length, slot_room, Answered, answered_value, answered_number, slot_answered, ledger_answered}
use Rattle.walks.proofs.Steps.{found_fits}
use Rattle.listing.specs.PlainListing.{Field, row_list, name_list, name_or_none}
use Rattle.listing.specs.Listing as steps
use Rattle.listing.specs.Listing.{Begun, begun, owner_fields, at_first, enter, SectionWalk, walks, State, onward, as_record, section_step, after_section, by_section, on_section, record_step, by_ro, by_row, by_name, list_step, step_at, listing_step}
use Rattle.listing.specs.declared.at.At.{At}
use Rattle.listing.specs.declared.at.At.TheVariants as place
use Rattle.listing.specs.declared.at.FieldWalk.{FieldWalk}
use Rattle.listing.specs.declared.at.FieldWalk.TheVariants as field_walk
use Rattle.listing.specs.declared.at.Owner.{Owner}
use Rattle.listing.specs.declared.at.Owner.TheVariants as an_owner
use Rattle.listing.specs.declared.at.Record.{Record}
use Rattle.listing.specs.declared.at.Record.TheVariants as a_record
use Rattle.listing.proofs.Bounds.{section_slots}
use Rattle.listing.proofs.Falls.{never}
use Rattle.listing.proofs.Remaining.{slot_of, cursor_of, goes_on, InWords}
use Rattle.reads.specs.declared.answer.Question.{Question}
use Rattle.reads.specs.declared.answer.Question.TheVariants.{WalkState}
use Rattle.std.specs.Prelude.{Option, None, Some}

-- Sections that question SectionTable lets pass have few slots.
asked_slots : (t : Tables) → asked t ≡ value tt → (i : ℕ) → i < 5 → (section_at t.sections i).slots < 2 ^ 32
asked_slots t e i below =
    let room = tables_room t tt (asked_tables_lem t tt e) in
    omega (arith, room.image_length, section_slots (longest t.files) t.sections room.sections_fit i below)

lists_few : (t : Tables) → asked t ≡ value tt → (lists : Lists) → length (slots_of lists t.sections) < 2 ^ 33
lists_few t e Classes = omega (arith, pair_length t.sections 0 1, asked_slots t e 0 (omega arith), asked_slots t e 1 (omega arith))
lists_few t e Categories = omega (arith, pair_length t.sections 2 3, asked_slots t e 2 (omega arith), asked_slots t e 3 (omega arith))
lists_few t e Protocols = omega (arith, section_length t.sections 4, asked_slots t e 4 (omega arith))

-- A walk that goes on by one slot, or takes what waits.
further_low : (w : Walk) {v : Walk} → Further w v → w.slot + 1 < 2 ^ 64 → v.slot < 2 ^ 64
further_low w (past_slot e) h = omega (arith, e)
further_low w (past_waiting n) h = omega arith

moved_low : {A : Type 0} (w v : Walk) (o : Outcome (Step A)) → SectionMoves w v o → w.slot + 1 < 2 ^ 64 → v.slot < 2 ^ 64
moved_low w v (value (found a)) m h = further_low w m h
moved_low w v (value (passed r)) m h = further_low w m h
moved_low w v (value dropped) m h = further_low w m h
moved_low w v (value finished) m h = rw m (omega arith)
moved_low w v (absent r) m h = absurd m
moved_low w v (refused k) m h = rw m (omega arith)

slot_low : (t : Tables) (lists : Lists) (slot used : ℕ) → asked_slot t (slots_of lists t.sections) slot used ≡ value tt → slot + 1 < 2 ^ 64
unfolding asked_slot
slot_low t lists slot used e =
    let came = then_came (asked t) _ tt e in
    omega (arith, (slot_room (slots_of lists t.sections) t slot used e).0, lists_few t came.1 lists)

ledger_slot : (t : Tables) (slots : List ℕ) (slot used words : ℕ) → asked_ledger t slots slot used words ≡ value tt → asked_slot t slots slot used ≡ value tt
unfolding asked_ledger
ledger_slot t slots slot used words e = (then_came (asked_slot t slots slot used) _ tt e).1

module _ {A : Type 0} (k : Kind A) (t : Tables) (w : Walk) (l : List ℕ) (h : w.slot < 2 ^ 64) where
  abbrev asking : Outcome (Unit {0})
  asking = asked_ledger t (slots_of k.lists t.sections) w.slot w.used (length l)

  step_low : (step_of k t w l).walk.slot < 2 ^ 64
  step_low = go (ledger_answered t (slots_of k.lists t.sections) w.slot w.used (length l)) refl
    where
      go : {o : Outcome (Unit {0})} → Answered o → asking ≡ o → (step_of k t w l).walk.slot < 2 ^ 64
      go (answered_value u) e =
          let room = ledger_slot t (slots_of k.lists t.sections) w.slot w.used (length l) e in
          moved_low w _ (step_of k t w l).answer (section_step_moved k t w l).moves (slot_low t k.lists w.slot w.used room)
      go (answered_number n) e = unfold step_of in unfold step_by in rw e h

protocol_low : (t : Tables) (w : Walk) (l : List ℕ) → w.slot < 2 ^ 64 → (protocol_step_of t w l).walk.slot < 2 ^ 64
protocol_low t w l h = go (slot_answered t (slots_of Protocols t.sections) w.slot w.used) refl
  where
    go : {o : Outcome (Unit {0})} → Answered o → asked_slot t (slots_of Protocols t.sections) w.slot w.used ≡ o
        → (protocol_step_of t w l).walk.slot < 2 ^ 64
    go (answered_value u) e = moved_low w _ (protocol_step_of t w l).answer (protocol_step_moved t w l).moves (slot_low t Protocols w.slot w.used e)
    go (answered_number n) e = unfold protocol_step_of in rw e h

-- A row that is given or skipped has an address of 64 bits, and entries have at least 12 bytes.
abbrev RowLow : Outcome ReachedRow → ℕ → Type 0
RowLow (value (row_reached r)) cursor = cursor < 2 ^ 64
RowLow (value (row_skipped j r)) cursor = cursor < 2 ^ 64
RowLow (value rows_finished) cursor = Unit
RowLow (absent r) cursor = Unit
RowLow (refused k) cursor = Unit

record RowsLow (x : RowLeft) : Type 0 where
  low : RowLow x.answer x.walk.cursor

module _ (t : Tables) (w : ListWalk) where
  row_low : (j : ℕ) → suc j < 2 ^ 64 → (o : Outcome Row) → RowsLow (settles w j o)
  row_low j h (value r) = record { low = h }
  row_low j h (absent r) = record { low = h }
  row_low j h (refused k) = record { low = tt }

  entry_low : (h : Layout) (j : ℕ) → 12 ≤ h.size → entry_address h j < 2 ^ 64 → suc j < 2 ^ 64
  entry_low h j small fits = omega (arith, small, fits, mul-le-mul_left j small)

  search_low : (h : Layout) → 12 ≤ h.size → (o : Option ℕ) → o ≡ first_readable (image_in t) h w.cursor → RowsLow (searched t w h o)
  search_low h small (Some j) e =
      row_low j (entry_low h j small (found_fits (image_in t) h w.cursor j (sym e))) (row_at t h.kind (entry_address h j))
  search_low h small None e = record { low = tt }

  list_low : (o : Outcome Layout) → o ≡ list_at t w.kind w.list → RowsLow (over_list w (λ h. searched t w h (first_readable (image_in t) h w.cursor)) o)
  list_low (value h) e =
      search_low h (omega (arith, list_least t w.kind w.list h (sym e), least_12 h.kind)) (first_readable (image_in t) h w.cursor) refl
  list_low (absent r) e = record { low = tt }
  list_low (refused k) e = record { low = tt }

  under_rows_low : RowsLow (next_under t w)
  unfolding next_under over_rows from_cursor
  under_rows_low =
      by_asked RowsLow w (λ n. record { low = tt }) (asked t)
      (by_asked RowsLow w (λ n. record { low = tt }) (question WalkState (leb w.cursor (count_by (λ (h : Layout). h.count) (list_at t w.kind w.list))))
      (list_low (list_at t w.kind w.list) refl))

rows_low : (t : Tables) (w : ListWalk) → RowsLow (next_of t w)
rows_low t w = under_rows_low (under w.setting t) w

-- A protocol slot that is taken has an address of 64 bits.
abbrev NameLow : Outcome ReachedName → ℕ → Type 0
NameLow (value (name_reached name)) cursor = cursor < 2 ^ 64
NameLow (value (name_passed r)) cursor = cursor < 2 ^ 64
NameLow (value names_finished) cursor = Unit
NameLow (absent r) cursor = Unit
NameLow (refused k) cursor = Unit

record NamesLow (x : NameLeft) : Type 0 where
  low : NameLow x.answer x.walk.cursor

module _ (t : Tables) (w : ProtocolNameWalk) where
  named_low : w.cursor + 1 < 2 ^ 64 → (o : Outcome Text) → NamesLow (named w o)
  named_low h (value name) = record { low = h }
  named_low h (absent r) = record { low = h }
  named_low h (refused k) = record { low = tt }

  name_slot_low : (l : ProtocolList) → NamesLow (step_in t w l)
  unfolding step_in
  name_slot_low l =
      by_choose NamesLow (λ e. named_low (omega (arith, (slot_below l w.cursor e).1)) (name_in t (slot_in l w.cursor))) (λ e. record { low = tt })

  under_names_low : NamesLow (next_name_under t w)
  unfolding next_name_under over_names
  under_names_low =
      by_asked NamesLow w (λ n. record { low = tt }) (asked t)
      (by_cursor NamesLow w (λ n. record { low = tt }) w.cursor (λ (l : ProtocolList). l.count) (step_in t w) name_slot_low (λ r. record { low = tt })
      (protocol_list_at t w.list))

names_low : (t : Tables) (w : ProtocolNameWalk) → NamesLow (next_name t w)
names_low t w = under_names_low (under w.setting t) w

first_low : (u : Setting) (o : Owner) (n : ℕ) (fs : List Field) → cursor_of (at_first u o n fs) < 2 ^ 64
first_low u o n [] = omega arith
first_low u o n (row_list k va ∷ fs) = omega arith
first_low u o n (name_list va ∷ fs) = omega arith

enter_low : (u : Setting) (o : Owner) (n : ℕ) → cursor_of (enter u o n) < 2 ^ 64
enter_low u o n = first_low u o n (drop n (owner_fields o))

-- What a step owes.
record Keeps (x : steps.Left) : Type 0 where
  keeps : goes_on x.answer ≡ true → InWords x.state

module _ (s : State) (l : List ℕ) (h : InWords s) where
  refuses : (k : Question) → Keeps (steps.leaves (refused k) s l)
  refuses k = record { keeps = never }

  in_section_lem : (at : At) (r c : ℕ) → cursor_of at < 2 ^ 64 → InWords (steps.state s.setting at s.section r c)
  in_section_lem at r c g = record { slot = h.slot; cursor = g }

  onward_keeps : {A : Type 0} (o : Outcome A) (go : A → steps.Left) → ((a : A) → Keeps (go a)) → Keeps (onward s l o go)
  onward_keeps (value a) go f = f a
  onward_keeps (absent r) go f = record { keeps = never }
  onward_keeps (refused k) go f = refuses k

  record_keeps : (t : Tables) (x : Record) → Keeps (record_step t s l x)
  record_keeps t (a_record.Class c) =
      onward_keeps (name_or_none (guarded t (superclass_name t c))) _ (λ name. record { keeps = λ e. in_section_lem _ _ _ (omega arith) })
  record_keeps t (a_record.Protocol p) = onward_keeps (asked t) _ (λ u. record { keeps = λ e. in_section_lem _ _ _ (enter_low s.setting (an_owner.Protocol p) 0) })
  record_keeps t (a_record.Category c) =
      onward_keeps (name_or_none (guarded t (category_class_name t c))) _ (λ name. record { keeps = λ e. in_section_lem _ _ _ (enter_low s.setting (an_owner.Category c) 0) })

  ro_keeps : (o : Outcome ClassRo) → Keeps (by_ro s l o)
  ro_keeps (value r) = record { keeps = λ e. in_section_lem _ _ _ (enter_low s.setting (an_owner.Class r) 0) }
  ro_keeps (absent r) = record { keeps = λ e. in_section_lem _ _ _ (omega arith) }
  ro_keeps (refused k) = refuses k

  module _ (o : Owner) (n : ℕ) where
    row_keeps : (v : ListWalk) (x : Outcome ReachedRow) → RowLow x v.cursor → Keeps (by_row s l o n v x)
    row_keeps v (value (row_reached r)) m = record { keeps = λ e. in_section_lem _ _ _ m }
    row_keeps v (value (row_skipped j r)) m = record { keeps = λ e. in_section_lem _ _ _ m }
    row_keeps v (value rows_finished) m = record { keeps = λ e. in_section_lem _ _ _ (enter_low s.setting o (suc n)) }
    row_keeps v (absent r) m = record { keeps = λ e. in_section_lem _ _ _ (enter_low s.setting o (suc n)) }
    row_keeps v (refused k) m = refuses k

    name_keeps : (i : ℕ) (v : ProtocolNameWalk) (x : Outcome ReachedName) → NameLow x v.cursor → Keeps (by_name s l o n i v x)
    name_keeps i v (value (name_reached name)) m = record { keeps = λ e. in_section_lem _ _ _ m }
    name_keeps i v (value (name_passed r)) m = record { keeps = λ e. in_section_lem _ _ _ m }
    name_keeps i v (value names_finished) m = record { keeps = λ e. in_section_lem _ _ _ (enter_low s.setting o (suc n)) }
    name_keeps i v (absent r) m = record { keeps = λ e. in_section_lem _ _ _ (enter_low s.setting o (suc n)) }
    name_keeps i v (refused k) m = refuses k

    list_keeps : (t : Tables) (x : FieldWalk) → Keeps (list_step t s l o n x)
    list_keeps t (field_walk.Rows w) = let x = next_of t w in row_keeps x.walk x.answer (rows_low t w).low
    list_keeps t (field_walk.Names w) = let x = next_name t w in name_keeps w.cursor x.walk x.answer (names_low t w).low

  -- After the last record of a section the next begins at its first slot, or E is said and the section stays.
  after_keeps : (m : List ℕ) (x : SectionWalk) → slot_of x < 2 ^ 64 → Keeps (after_section s m x)
  after_keeps m x = go x.stage x.classes_at x.protocols_at x.categories_at
    where
      go : (n : ℕ) (c p k : Begun) → slot_of (walks n c p k) < 2 ^ 64 → Keeps (after_section s m (walks n c p k))
      go zero c p k low = record { keeps = λ e. record { slot = omega arith; cursor = omega arith } }
      go (suc zero) c p k low = record { keeps = λ e. record { slot = omega arith; cursor = omega arith } }
      go (suc (suc n)) c p k low = record { keeps = λ e. record { slot = low; cursor = omega arith } }

  section_keeps : {A : Type 0} (f : A → Record) (m : List ℕ) (x : SectionWalk) → slot_of x < 2 ^ 64 → (o : Outcome (Step A))
      → Keeps (onward s m (as_record f o) (by_section s m x))
  section_keeps f m x low (value (found a)) = record { keeps = λ e. record { slot = low; cursor = omega arith } }
  section_keeps f m x low (value (passed r)) = record { keeps = λ e. record { slot = low; cursor = omega arith } }
  section_keeps f m x low (value dropped) = record { keeps = λ e. record { slot = low; cursor = omega arith } }
  section_keeps f m x low (value finished) = after_keeps m x low
  section_keeps f m x low (absent r) = record { keeps = never }
  section_keeps f m x low (refused k) = record { keeps = never }

  walk_keeps : (t : Tables) (x : SectionWalk) → s.section ≡ x → Keeps (on_section s (section_step t l x))
  walk_keeps t x = go x.stage x.classes_at x.protocols_at x.categories_at
    where
      go : (n : ℕ) (c p k : Begun) → s.section ≡ walks n c p k → Keeps (on_section s (section_step t l (walks n c p k)))
      go zero c p k e =
          let low : c.walk.slot < 2 ^ 64 = rw e at h.slot in
          let x = step_of sections.classes (under c.setting t) c.walk l in
          section_keeps a_record.Class x.ledger (walks 0 (begun c.setting x.walk) p k) (step_low sections.classes (under c.setting t) c.walk l low) x.answer
      go (suc zero) c p k e =
          let low : p.walk.slot < 2 ^ 64 = rw e at h.slot in
          let x = protocol_step_of (under p.setting t) p.walk [] in
          section_keeps a_record.Protocol l (walks 1 c (begun p.setting x.walk) k) (protocol_low (under p.setting t) p.walk [] low) x.answer
      go (suc (suc n)) c p k e =
          let low : k.walk.slot < 2 ^ 64 = rw e at h.slot in
          let x = step_of sections.categories (under k.setting t) k.walk l in
          section_keeps a_record.Category x.ledger (walks (suc (suc n)) c p (begun k.setting x.walk)) (step_low sections.categories (under k.setting t) k.walk l low) x.answer

  at_keeps : (t : Tables) (a : At) → Keeps (step_at t s l a)
  unfolding step_at
  at_keeps t place.Info = onward_keeps (asked t) _ (λ u. record { keeps = λ e. in_section_lem _ _ _ (omega arith) })
  at_keeps t place.Section = walk_keeps t s.section refl
  at_keeps t (place.Record x) = record_keeps (under s.setting t) x
  at_keeps t (place.Ro c) = ro_keeps (guarded t (ro_of (under s.setting t) c))
  at_keeps t (place.List n x) = list_keeps x.owner n t x.walk
  at_keeps t place.End = onward_keeps (asked t) _ (λ u. record { keeps = never })

pub words_kept : (t : Tables) (s : State) (l : List ℕ) → InWords s → goes_on (listing_step t s l).answer ≡ true → InWords (listing_step t s l).state
words_kept t s l h = (at_keeps s l h t s.at).keeps
