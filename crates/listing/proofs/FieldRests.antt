-- A record's lists, walked one after the other: each list of rows settles its readable entries and says their rows, each list of protocol
-- names says its names, and then the next list comes.
use Rattle.std.proofs.Common.{◌≡◌, ℕ, zero, suc, ◌+◌, ◌-◌, ◌%◌, ◌^◌, ◌<◌, ◌≤◌, false, List, [], ◌∷◌, ◌++◌, map, length, drop, sym, refl, ap, ◌∙◌, append_assoc, mod-eq_of_lt, arith}
use Rattle.reads.specs.Outcome.{Outcome, value, absent, refused, Unrefused}
use Rattle.reads.specs.declared.text.Text.{Text}
use Rattle.reads.proofs.Tests.{by_choose, choose_true, choose_false}
use Rattle.reads.specs.declared.answer.Reason.{Reason}
use Rattle.pointers.specs.Open.{Opened}
use Rattle.pointers.specs.Tables.{Tables, image_in}
use Rattle.records.specs.List.{list_at, entry_address}
use Rattle.records.specs.Row.{row_at}
use Rattle.records.specs.Search.{first_readable, readables}
use Rattle.records.specs.declared.list.Layout.{Layout}
use Rattle.records.specs.declared.list.ListKind.{ListKind}
use Rattle.records.specs.declared.row.Row.{Row}
use Rattle.records.proofs.Headers.{list_unrefused}
use Rattle.records.proofs.Readables.{rest_from, found_below_count, rest_of_some, rest_of_none, rest_from_0}
use Rattle.walks.specs.Gather.{gather, of_value, present}
use Rattle.walks.specs.PlainWalk.{settling, count_of, plain_step, shown}
use Rattle.walks.specs.ProtocolNames.{protocol_list_at, has_slot, slot_in, name_in, walk_at, names_finished, NameLeft, named, step_in, next_name, slot_names, protocol_names}
use Rattle.walks.specs.Handed.{hands}
use Rattle.walks.specs.Walk.{walk_of, rows_finished, RowLeft, next_of}
use Rattle.walks.specs.declared.protocol_names.ProtocolList.{ProtocolList}
use Rattle.walks.proofs.Gathers.{joined_parts, gather_parts, gather_none, Held, held_one, held_none, present_held, each_came}
use Rattle.walks.proofs.ProtocolLists.{no_slot_from_count}
use Rattle.walks.proofs.ProtocolNameWalks.{next_in, next_absent}
use Rattle.walks.proofs.Walk.{opened_step, opened_unrefused, within_count, step_value, step_finished}
use Rattle.listing.specs.PlainListing.{Field, row_list, name_list, row_line, name_line, entry_lines, field_lines, fields_lines, Entry, with_row, without_row, entry_by, entry_in, entries_in, Event, event, field_events}
use Rattle.listing.specs.Listing.{owner_fields, in_list, enter, SectionWalk, State, state, after_row, after_name, step_at, listing_step}
use Rattle.listing.specs.ListingRun.{events_in, events_at, settled_in}
use Rattle.listing.specs.declared.at.At.TheVariants as place
use Rattle.listing.specs.declared.at.FieldWalk.TheVariants as field_walk
use Rattle.listing.specs.declared.at.Owner.{Owner}
use Rattle.listing.specs.declared.line.Line.{Line}
use Rattle.listing.proofs.Events.{field_parts, names_settle_none, entries_length}
use Rattle.listing.proofs.Rest.{Steps, silent, telling, saying}
use Rattle.std.specs.Prelude.{Option, None, Some}

pub less : (m a b : ℕ) → a ≤ b → b < m → a < m
less m a b u v = omega arith

drop_next : {A : Type 0} (n : ℕ) (l : List A) {a : A} {more : List A} → drop n l ≡ a ∷ more → drop (suc n) l ≡ more
drop_next zero [] e = let z : ◌≡◌ {A = ℕ} 0 1 = cc in absurd (omega arith)
drop_next (suc n) [] e = let z : ◌≡◌ {A = ℕ} 0 1 = cc in absurd (omega arith)
drop_next zero (b ∷ l) e = cc
drop_next (suc n) (b ∷ l) e = drop_next n l e

-- The steps over one list of rows: list n of a record. `Over` holds where the steps come to.
module _ (t : Tables) (o : Opened t) (Over : State → List ℕ → Type 0) (k : ListKind) (list n : ℕ) (w : Owner) (sec : SectionWalk) (r : ℕ) (l : List ℕ) where
  -- The state at entry p, with c entries settled so far.
  abbrev at_entry : ℕ → ℕ → State
  at_entry p c = state t.setting (in_list w n (field_walk.Rows (walk_of t.setting list k p))) sec r c

  step_by : (p c : ℕ) (x : RowLeft) → next_of t (walk_of t.setting list k p) ≡ x → listing_step t (at_entry p c) l ≡ after_row (at_entry p c) l w n x
  unfolding step_at
  step_by p c x e = ap (λ (y : RowLeft). after_row (at_entry p c) l w n y) e

  events_by_lem : (p c : ℕ) (x : RowLeft) → next_of t (walk_of t.setting list k p) ≡ x → events_in t (at_entry p c) ≡ settled_in (r - 1) n x
  unfolding events_at
  events_by_lem p c x e = ap (λ (y : RowLeft). settled_in (r - 1) n y) e

  module _ (xs : List Line) (es : List Event) (c' : ℕ) (below : c' < 2 ^ 128) (later : Steps t Over (state t.setting (enter t.setting w (suc n)) sec r c') l xs es) where
    -- An absent list.
    rest_absent : (why : Reason) → list_at t k list ≡ absent why → Steps t Over (at_entry 0 c') l xs es
    unfolding plain_step
    rest_absent why e =
        let zero_fits : 0 ≤ count_of (list_at t k list) = omega arith in
        let next : next_of t (walk_of t.setting list k 0) ≡ hands (absent why) (walk_of t.setting list k 0) =
        opened_step t o k list 0 zero_fits ∙ rw (opened_unrefused t o k list 0 zero_fits, e) refl in
        silent (step_by 0 c' _ next) (events_by_lem 0 c' _ next) later

    module _ (h : Layout) (there : list_at t k list ≡ value h) where
      next_finished : (p : ℕ) → p ≤ h.count → first_readable (image_in t) h p ≡ None
          → next_of t (walk_of t.setting list k p) ≡ hands (value rows_finished) (walk_of t.setting list k h.count)
      next_finished p u e = opened_step t o k list p (within_count t o k list h there p u) ∙ ap (shown t.setting k list) (step_finished t o k list h there p u e)

      next_settles : (p j : ℕ) → p ≤ h.count → first_readable (image_in t) h p ≡ Some j
          → next_of t (walk_of t.setting list k p) ≡ shown t.setting k list (settling j (row_at t h.kind (entry_address h j)))
      next_settles p j u e = opened_step t o k list p (within_count t o k list h there p u) ∙ ap (shown t.setting k list) (step_value t o k list h there p j u e)

      -- What comes from entry p on, where the entries from there are zs and give these lines.
      abbrev EntriesCome : ℕ → ℕ → List Entry → List Line → Type 0
      EntriesCome p c zs ys = Steps t Over (at_entry p c) l (ys ++ xs) (map (event (r - 1) n) zs ++ es)

      entry_comes : (p c j : ℕ) (mine zs : List Entry) (first ys : List Line) (v : Outcome Row) → row_at t h.kind (entry_address h j) ≡ v
          → of_value v (λ row. value (row_line n row ∷ [])) ≡ value first → entry_by j v ≡ value mine
          → next_of t (walk_of t.setting list k p) ≡ shown t.setting k list (settling j v)
          → c + 1 ≤ c' → EntriesCome (suc j) (c + 1) zs ys → EntriesCome p c (mine ++ zs) (first ++ ys)
      entry_comes p c j mine zs first ys (value row) d a b e u more =
          let m : (c + 1) % 2 ^ 128 ≡ c + 1 = mod-eq_of_lt (less (2 ^ 128) (c + 1) c' u below) in
          let after : EntriesCome (suc j) ((c + 1) % 2 ^ 128) zs ys = rw m more in
          let back : suc j - 1 ≡ j = omega arith in
          let own : first ≡ row_line n row ∷ [] = cc in
          let settled : mine ≡ with_row j ∷ [] = cc in
          rw (own, settled) (saying (step_by p c _ e) (events_by_lem p c _ e ∙ ap (λ (i : ℕ). value (event (r - 1) n (with_row i) ∷ [])) back) after)
      entry_comes p c j mine zs first ys (absent why) d a b e u more =
          let m : (c + 1) % 2 ^ 128 ≡ c + 1 = mod-eq_of_lt (less (2 ^ 128) (c + 1) c' u below) in
          let after : EntriesCome (suc j) ((c + 1) % 2 ^ 128) zs ys = rw m more in
          let none : first ≡ [] = cc in
          let settled : mine ≡ without_row j why ∷ [] = cc in
          rw (none, settled) (telling (step_by p c _ e) (events_by_lem p c _ e) after)
      entry_comes p c j mine zs first ys (refused i) d a b e u more = let z : ◌≡◌ {A = ℕ} 0 1 = cc in absurd (omega arith)

      entries_come : (js : List ℕ) (p c : ℕ) (ys : List Line) (zs : List Entry) → p ≤ h.count → (v : Option ℕ) → first_readable (image_in t) h p ≡ v
          → rest_from (image_in t) h p ≡ js → gather (entry_lines t n h) js ≡ value ys → gather (entry_in t h) js ≡ value zs → c' ≡ c + length js
          → EntriesCome p c zs ys
      entries_come [] p c ys zs u (Some j) e f a b d = let g = rest_of_some (image_in t) h p j e in let z : ◌≡◌ {A = ℕ} 0 1 = cc in absurd (omega arith)
      entries_come [] p c ys zs u None e f a b d =
          let same : c' ≡ c = omega arith in
          let next = next_finished p u e in
          let none = gather_none (entry_lines t n h) a in
          let nothing = gather_none (entry_in t h) b in
          rw (none, nothing) (silent (step_by p c _ next) (events_by_lem p c _ next) (rw same at later))
      entries_come (j ∷ js) p c ys zs u None e f a b d = let g = rest_of_none (image_in t) h p e in let z : ◌≡◌ {A = ℕ} 0 1 = cc in absurd (omega arith)
      entries_come (j ∷ js) p c ys zs u (Some i) e f a b d =
          let g = rest_of_some (image_in t) h p i e in
          let first : i ≡ j = cc in
          let rest : rest_from (image_in t) h (suc i) ≡ js = cc in
          let stands = found_below_count (image_in t) h p i e in
          let parts = gather_parts (entry_lines t n h) j js a in
          let entries = gather_parts (entry_in t h) j js b in
          let own : entry_lines t n h i ≡ value parts.first = rw first parts.of_first in
          let mine : entry_in t h i ≡ value entries.first = rw first entries.of_first in
          rw (parts.whole, entries.whole)
          (entry_comes p c i entries.first entries.second parts.first parts.second (row_at t h.kind (entry_address h i)) refl own mine (next_settles p i u e) (omega arith)
          (entries_come js (suc i) (c + 1) parts.second entries.second (omega arith) (first_readable (image_in t) h (suc i)) refl rest parts.of_second entries.of_second (omega arith)))

    -- A field that names a list of rows.
    rest_rows : (v : Outcome Layout) → Unrefused v → list_at t k list ≡ v → (c : ℕ) (ys : List Line) (zs : List Entry)
        → field_lines t n (row_list k list) ≡ value ys → entries_in t (row_list k list) ≡ value zs → c' ≡ c + length zs
        → Steps t Over (at_entry 0 c) l (ys ++ xs) (map (event (r - 1) n) zs ++ es)
    unfolding field_lines entries_in
    rest_rows (value h) u e c ys zs a b d =
        let lines : gather (entry_lines t n h) (readables (image_in t) h) ≡ value ys = rw e at a in
        let entries : gather (entry_in t h) (readables (image_in t) h) ≡ value zs = rw e at b in
        let count : c' ≡ c + length (readables (image_in t) h) = omega (arith, entries_length t h (readables (image_in t) h) zs entries) in
        entries_come h e (readables (image_in t) h) 0 c ys zs (omega arith) (first_readable (image_in t) h 0) refl (sym (rest_from_0 (image_in t) h)) lines entries count
    rest_rows (absent why) u e c ys zs a b d =
        let lines : value [] ≡ value ys = rw e at a in
        let entries : value [] ≡ value zs = rw e at b in
        let none : ys ≡ [] = cc in
        let nothing : zs ≡ [] = cc in
        let count : length zs ≡ 0 = rw nothing in
        let same : c ≡ c' = omega arith in
        rw (none, nothing, same) (rest_absent why e)
    rest_rows (refused _) u e c ys zs a b d = elim u [ ]

-- The steps over one list of protocol names.
module _ (t : Tables) (o : Opened t) (Over : State → List ℕ → Type 0) (list n : ℕ) (w : Owner) (sec : SectionWalk) (r c : ℕ) (l : List ℕ) where
  abbrev at_name : ℕ → State
  at_name i = state t.setting (in_list w n (field_walk.Names (walk_at t.setting list i))) sec r c

  name_by : (i : ℕ) (x : NameLeft) → next_name t (walk_at t.setting list i) ≡ x → listing_step t (at_name i) l ≡ after_name (at_name i) l w n i x
  unfolding step_at
  name_by i x e = ap (λ (y : NameLeft). after_name (at_name i) l w n i y) e

  no_event : (i : ℕ) → events_in t (at_name i) ≡ value []
  unfolding events_at
  no_event i = refl

  module _ (xs : List Line) (es : List Event) (later : Steps t Over (state t.setting (enter t.setting w (suc n)) sec r c) l xs es) where
    module _ (p : ProtocolList) (there : protocol_list_at t list ≡ value p) where
      -- What comes from slot i on, with these names.
      abbrev NamesCome : ℕ → List Text → Type 0
      NamesCome i names = Steps t Over (at_name i) l (map (name_line n) names ++ xs) es

      names_end : (i : ℕ) → i ≤ p.count → has_slot p i ≡ false → NamesCome i []
      unfolding step_in
      names_end i u e =
          let next : next_name t (walk_at t.setting list i) ≡ hands (value names_finished) (walk_at t.setting list p.count) = next_in t o (walk_at t.setting list i) p there u ∙ choose_false _ _ e in
          silent (name_by i _ next) (no_event i) later

      name_comes : (i : ℕ) {v : Outcome Text} {first : List Text} (names : List Text) → Held v first → next_name t (walk_at t.setting list i) ≡ named (walk_at t.setting list i) v
          → NamesCome (i + 1) names → NamesCome i (first ++ names)
      name_comes i names (held_one name) e more = saying (name_by i _ e) (no_event i) more
      name_comes i names (held_none why) e more = telling (name_by i _ e) (no_event i) more

      names_come : (q i : ℕ) (names : List Text) → i + q ≡ p.count → gather present (slot_names t p i q) ≡ value names → NamesCome i names
      unfolding slot_names step_in
      names_come zero i names u a =
          let none = gather_none present a in
          rw none (names_end i (omega arith) (no_slot_from_count p i (omega arith)))
      names_come (suc q) i names u a =
          by_choose (λ (os : List (Outcome Text)). gather present os ≡ value names → NamesCome i names)
          (λ e given.
          let next : next_name t (walk_at t.setting list i) ≡ named (walk_at t.setting list i) (name_in t (slot_in p i)) =
          next_in t o (walk_at t.setting list i) p there (omega arith) ∙ choose_true _ _ e in
          let parts = gather_parts present (name_in t (slot_in p i)) (slot_names t p (i + 1) q) given in
          rw parts.whole
          (name_comes i parts.second (present_held (name_in t (slot_in p i)) parts.of_first) next (names_come q (i + 1) parts.second (omega arith) parts.of_second)))
          (λ e given.
          let none = gather_none present given in
          rw none (names_end i (omega arith) e))
          a

    -- The names of a list.
    list_comes : (v : Outcome ProtocolList) → protocol_list_at t list ≡ v → (names : List Text)
        → of_value v (λ p. gather present (slot_names t p 0 p.count)) ≡ value names → Steps t Over (at_name 0) l (map (name_line n) names ++ xs) es
    list_comes (value p) e names a = names_come p e p.count 0 names (omega arith) a
    list_comes (absent why) e names a =
        let next = next_absent t o (walk_at t.setting list 0) why e (omega arith) in
        let none : names ≡ [] = cc in
        rw none (silent (name_by 0 _ next) (no_event 0) later)
    list_comes (refused k) e names a = let z : ◌≡◌ {A = ℕ} 0 1 = cc in absurd (omega arith)

    -- A field that names a list of protocol names.
    rest_names : (ys : List Line) → field_lines t n (name_list list) ≡ value ys → Steps t Over (at_name 0) l (ys ++ xs) es
    unfolding field_lines protocol_names
    rest_names ys a =
        let names = each_came (name_line n) (protocol_names t list) a in
        rw names.2 (list_comes (protocol_list_at t list) refl names.0 names.1)

-- A record's lists, from list n on, and then the section goes on.
module _ (t : Tables) (o : Opened t) (Over : State → List ℕ → Type 0) (w : Owner) (sec : SectionWalk) (r : ℕ) (l : List ℕ) (xs : List Line) (es : List Event) (c' : ℕ)
    (below : c' < 2 ^ 128) (later : Steps t Over (state t.setting place.Section sec r c') l xs es) where
  pub rest_fields : (fs : List Field) (n c : ℕ) → drop n (owner_fields w) ≡ fs → (ys : List Line) (gs : List Event)
      → fields_lines t n fs ≡ value ys → field_events t (r - 1) n fs ≡ value gs → c' ≡ c + length gs
      → Steps t Over (state t.setting (enter t.setting w n) sec r c) l (ys ++ xs) (gs ++ es)
  unfolding fields_lines
  rest_fields [] n c e ys gs a b d =
      let none : ys ≡ [] = cc in
      let events : value [] ≡ value gs = unfold field_events in b in
      let nothing : gs ≡ [] = cc in
      let count : length gs ≡ 0 = rw nothing in
      let same : c' ≡ c = omega arith in
      rw (e, none, nothing) (rw same at later)
  rest_fields (row_list k va ∷ fs) n c e ys gs a b d =
      let lines = joined_parts (field_lines t n (row_list k va)) (fields_lines t (suc n) fs) a in
      let events = field_parts t (r - 1) n (row_list k va) fs gs b in
      let c₁ = c + length events.entries in
      let h : c₁ ≤ c' = omega arith in
      rw (e, lines.whole, events.entries_then_later, append_assoc lines.first lines.second xs, append_assoc (map (event (r - 1) n) events.entries) events.later es)
      (rest_rows t o Over k va n w sec r l (lines.second ++ xs) (events.later ++ es) c₁ (less (2 ^ 128) c₁ c' h below)
      (rest_fields fs (suc n) c₁ (drop_next n (owner_fields w) e) lines.second events.later lines.of_second events.of_later (omega arith))
      (list_at t k va) (list_unrefused t k va) refl c lines.first events.entries lines.of_first events.of_entries refl)
  rest_fields (name_list va ∷ fs) n c e ys gs a b d =
      let lines = joined_parts (field_lines t n (name_list va)) (fields_lines t (suc n) fs) a in
      let events = field_parts t (r - 1) n (name_list va) fs gs b in
      let none = names_settle_none t va events.entries events.of_entries in
      let all : gs ≡ events.later = events.entries_then_later ∙ ap (λ (zs : List Entry). map (event (r - 1) n) zs ++ events.later) none in
      rw (e, lines.whole, append_assoc lines.first lines.second xs, all)
      (rest_names t o Over va n w sec r c l (lines.second ++ xs) (events.later ++ es)
      (rest_fields fs (suc n) c (drop_next n (owner_fields w) e) lines.second events.later lines.of_second events.of_later (rw all at d))
      lines.first lines.of_first)
