-- Demand 3 of the listing, over tables that opening accepted, with the index as opening left it, under either reading. Where no step gives a number the ledger has
-- a word for each slot of the two sections of classes and of those of categories: one too short is refused by 11 in the first step of that
-- walk (no_number_room). So under that alone the listing is whole (whole_listing, D3e; demand_3_listing, all of it in one statement).
use Rattle.std.proofs.Common.{◌≡◌, ℕ, ◌<◌, ◌≤◌, Bool, true, false, leb, List, [], ◌∷◌, ◌++◌, length, sym, refl, ◌∙◌, arith, leb-false, leb-true}
use borrow.Author.Tests.{lt-leb}
use Rattle.reads.specs.Outcome.{value, refused}
use Rattle.reads.proofs.Outcomes.{then_came}
use Rattle.pointers.specs.Open.{Opened}
use Rattle.pointers.specs.Tables.{Tables, under}
use Rattle.pointers.specs.declared.setting.Setting.{Setting}
use Rattle.pointers.proofs.OpenedTables.{opened_asked, opened_under}
use Rattle.walks.specs.Gather.{gather}
use Rattle.walks.specs.Sections as sections
use Rattle.walks.specs.Sections.{at_start, Kind, step_by, step_of}
use Rattle.walks.specs.Slots.{slots_of, slot_count, ledger_fits}
use Rattle.walks.proofs.Gathers.{there_known}
use Rattle.walks.proofs.SlotLaws.{classes_count, categories_count, slot_fits_lem, ask_11}
use Rattle.listing.specs.PlainListing.{version_and_flags, info_line, end_line, plain_records, lines_of, Event, events_from, plain_events, plain_listing, record_line_count}
use Rattle.listing.specs.Listing.{classes, State, state, start, leaves, says, step_at, listing_step}
use Rattle.listing.specs.ListingRun.{events_at, answer_at, GivesNoNumber, Lists, ListsWhole}
use Rattle.listing.specs.declared.at.At.TheVariants as place
use Rattle.listing.specs.declared.line.Line.{Line}
use Rattle.listing.proofs.Bounds.{settled_few}
use Rattle.listing.proofs.Events.{events_of}
use Rattle.listing.proofs.LoanSettings.{loan_lists, loan_numberless}
use Rattle.listing.proofs.PlainThere.{listing_there}
use Rattle.listing.proofs.RecordLines.{records_are_record_lines}
use Rattle.listing.proofs.Rest.{Steps, over, saying, comes_to}
use Rattle.listing.proofs.WholeListing.{to_categories, lists_with_room}
use Rattle.reads.specs.declared.answer.Question.TheVariants.{LedgerLength}

module _ (t : Tables) (o : Opened t) (l : List ℕ) where
  -- A step that is refused by 11.
  abbrev Short : State → List ℕ → Type 0
  Short s m = listing_step t s m ≡ leaves (refused LedgerLength) s m

  short_walk : {A : Type 0} (k : Kind A) (m : List ℕ) → length m < length (slots_of k.lists t.sections)
      → step_of k t at_start m ≡ sections.leaves (refused LedgerLength) at_start m
  unfolding step_of step_by ledger_fits
  short_walk k m h =
      rw (← ask_11 t (slots_of k.lists t.sections) 0 0 (length m) (opened_asked t o) (slot_fits_lem (slots_of k.lists t.sections) 0 0 (omega arith) (omega arith))
      (lt-leb (length (slots_of k.lists t.sections)) (length m) h))

  -- The first step is the line of the image info, the second the first of the class walk.
  classes_short : length l < slot_count t.sections 0 1 → (n : ℕ) × (answer_at t n (start t.setting) l ≡ refused LedgerLength)
  unfolding step_at events_at
  classes_short h =
      let info = info_line (version_and_flags t.info) t.setting in
      let first : listing_step t (start t.setting) l ≡ leaves (value (says info)) (state t.setting place.Section (classes t.setting at_start) 0 0) l = rw (opened_asked t o) in
      let refusing : Short (state t.setting place.Section (classes t.setting at_start) 0 0) l = rw (short_walk sections.classes l (rw (classes_count t.sections) h)) in
      let run : Steps t Short (start t.setting) l (info ∷ []) [] = saying first refl (over refusing refl) in
      comes_to t (λ s m e. e) run

  -- With room for the classes the steps come to the first of the category walk, with a ledger as long.
  categories_short : slot_count t.sections 0 1 ≤ length l → length l < slot_count t.sections 2 3 → (n : ℕ) × (answer_at t n (start t.setting) l ≡ refused LedgerLength)
  unfolding step_at events_at
  categories_short room h =
      comes_to t (λ s m e. e)
      (to_categories t o l room Short [] [] (λ m g. over (rw (short_walk sections.categories m (rw (g, categories_count t.sections) h))) refl))

  module _ (none : GivesNoNumber t.setting t l) where
    class_room : slot_count t.sections 0 1 ≤ length l
    class_room = go (leb (slot_count t.sections 0 1) (length l)) refl
      where
        go : (b : Bool) → leb (slot_count t.sections 0 1) (length l) ≡ b → slot_count t.sections 0 1 ≤ length l
        go true e = leb-true (slot_count t.sections 0 1) (length l) e
        go false e = let refusing = classes_short (leb-false (slot_count t.sections 0 1) (length l) e) in absurd (none refusing.0 LedgerLength refusing.1)

    category_room : slot_count t.sections 2 3 ≤ length l
    category_room = go (leb (slot_count t.sections 2 3) (length l)) refl
      where
        go : (b : Bool) → leb (slot_count t.sections 2 3) (length l) ≡ b → slot_count t.sections 2 3 ≤ length l
        go true e = leb-true (slot_count t.sections 2 3) (length l) e
        go false e =
            let refusing = categories_short class_room (leb-false (slot_count t.sections 2 3) (length l) e) in absurd (none refusing.0 LedgerLength refusing.1)

    pub no_number_room : (slot_count t.sections 0 1 ≤ length l) × (slot_count t.sections 2 3 ≤ length l)
    no_number_room = (class_room, category_room)

    -- D3e.
    pub whole_listing : (zs : List Line) (gs : List Event) → plain_listing t ≡ value zs → plain_events t ≡ value gs → Lists t.setting t l zs gs
    whole_listing zs gs a b = lists_with_room t o l class_room category_room zs gs a b

    -- Demand 3, whole, of a listing under the setting of the tables.
    lists_whole : ListsWhole t.setting t l
    unfolding plain_listing
    lists_whole =
        let all = there_known (listing_there t o) in
        let recorded = then_came (plain_records t) _ all.known all.is in
        let lines = then_came (gather (lines_of t) recorded.0) _ all.known recorded.2 in
        let events = then_came (events_from t 0 recorded.0) _ all.known lines.2 in
        let settling : plain_events t ≡ value events.0 = events_of t recorded.0 recorded.1 ∙ events.1 in
        let said : plain_listing t
        ≡ value ((info_line (version_and_flags t.info) t.setting ∷ lines.0) ++ (end_line (length recorded.0) (length events.0) ∷ [])) = all.is ∙ sym events.2 in
        record {
          records_listed = recorded.0;
          lines_before = info_line (version_and_flags t.info) t.setting ∷ lines.0;
          events = events.0;
          plain_recorded = recorded.1;
          plain_lines = said;
          plain_settling = settling;
          steps = whole_listing _ events.0 said settling;
          record_lines = unfold record_line_count in records_are_record_lines t recorded.0 lines.0 lines.1;
          bound = settled_few t o recorded.0 events.0 recorded.1 settling;
        }

-- Demand 3, whole, of a listing that began under any setting, whatever the setting of what is lent.
pub demand_3_listing : (u : Setting) (t : Tables) → Opened t → (l : List ℕ) → GivesNoNumber u t l → ListsWhole u t l
demand_3_listing u t o l none =
    let whole = lists_whole (under u t) (opened_under u o) l (loan_numberless u t u l none) in
    record {
      records_listed = whole.records_listed;
      lines_before = whole.lines_before;
      events = whole.events;
      plain_recorded = whole.plain_recorded;
      plain_lines = whole.plain_lines;
      plain_settling = whole.plain_settling;
      steps = loan_lists u t whole.steps;
      record_lines = whole.record_lines;
      bound = whole.bound;
    }
