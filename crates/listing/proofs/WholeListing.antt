-- Over tables that opening accepted, with the index as opening left it, and a ledger long enough, whatever it holds: no step of the listing
-- refuses, the steps end, their lines are those of the plain listing, and the settling steps are one for one the readable entries of the
-- lists, once for each field that names one. E's numbers are the record lines and the settling steps, whole.
use Rattle.std.proofs.Common.{◌≡◌, ℕ, ◌+◌, ◌^◌, ◌<◌, ◌≤◌, List, [], ◌∷◌, ◌++◌, map, length, refl, ◌∙◌, subst, append_assoc, append-nil, arith, length-append}
use lib.ListN.{length-map}
use Rattle.reads.specs.Outcome.{value}
use Rattle.pointers.specs.Open.{Opened}
use Rattle.pointers.specs.Tables.{Tables}
use Rattle.pointers.proofs.OpenedTables.{opened_asked}
use Rattle.records.specs.declared.category.ObjcCategory.{ObjcCategory}
use Rattle.records.specs.declared.class.ObjcClass.{ObjcClass}
use Rattle.records.specs.declared.protocol.ObjcProtocol.{ObjcProtocol}
use Rattle.walks.specs.Gather.{gather}
use Rattle.walks.specs.PlainSections.{plain_classes, plain_protocols, plain_categories}
use Rattle.walks.specs.Sections as sections
use Rattle.walks.specs.Sections.{Walk, at_start, finished, step_of, protocol_step_of}
use Rattle.walks.specs.Slots.{slot_count}
use Rattle.walks.proofs.Gathers.{gather_append, Known, there_known}
use Rattle.walks.proofs.OpenedSections.{classes_there, categories_there, protocols_there}
use Rattle.walks.proofs.PlainWalks.{class_run, protocol_run, category_run}
use Rattle.listing.specs.PlainListing.{version_and_flags, info_line, end_line, plain_records, lines_of, Event, events_from, plain_events, plain_listing}
use Rattle.listing.specs.Listing.{classes, protocols, categories, State, state, start, leaves, says, ended, section_step, section_leaves, step_at, listing_step}
use Rattle.listing.specs.ListingRun.{events_at, Lists}
use Rattle.listing.specs.declared.at.At.TheVariants as place
use Rattle.listing.specs.declared.at.Record.{Record}
use Rattle.listing.specs.declared.at.Record.TheVariants as a_record
use Rattle.listing.specs.declared.line.Line.{Line}
use Rattle.listing.proofs.Bounds.{records_few, events_few}
use Rattle.listing.proofs.Events.{events_of, events_append}
use Rattle.listing.proofs.FieldRests.{less}
use Rattle.walks.proofs.Moves.{step_keeps_length, protocol_step_keeps}
use Rattle.listing.proofs.PlainThere.{lines_there, events_there}
use Rattle.listing.proofs.Rest.{Steps, Rest, over, silent, saying, rest_lists}
use Rattle.listing.proofs.SectionRests.{step_of_lem, section_comes}

-- The records of one section, of which r others come before: their lines and their settling steps.
pub record SectionLines (t : Tables) (r : ℕ) (xs : List Record) : Type 0 where
  pub lines : List Line
  pub events : List Event
  pub of_lines : gather (lines_of t) xs ≡ value lines
  pub of_events : events_from t r xs ≡ value events

pub section_there : (t : Tables) → Opened t → (r : ℕ) (xs : List Record) → SectionLines t r xs
section_there t o r xs =
    let lines = there_known (lines_there t o xs) in
    let events = there_known (events_there t o r xs) in
    record { lines = lines.known; events = events.known; of_lines = lines.is; of_events = events.is }

-- The records of all, by those of each section.
records_of : (t : Tables) (cs : List ObjcClass) (ps : List ObjcProtocol) (ks : List ObjcCategory)
    → plain_classes t ≡ value cs → plain_protocols t ≡ value ps → plain_categories t ≡ value ks
    → plain_records t ≡ value (map a_record.Class cs ++ (map a_record.Protocol ps ++ map a_record.Category ks))
unfolding plain_records
records_of t cs ps ks a b c = rw (a, b, c)

module _ (t : Tables) (o : Opened t) where
  -- The records of each section.
  abbrev the_classes : Known (plain_classes t)
  the_classes = there_known (classes_there t o)

  abbrev the_protocols : Known (plain_protocols t)
  the_protocols = there_known (protocols_there t o)

  abbrev the_categories : Known (plain_categories t)
  the_categories = there_known (categories_there t o)

  abbrev class_records : List Record
  class_records = map a_record.Class the_classes.known

  abbrev protocol_records : List Record
  protocol_records = map a_record.Protocol the_protocols.known

  abbrev category_records : List Record
  category_records = map a_record.Category the_categories.known

  -- The records before each section and at the end.
  abbrev r₁ : ℕ
  r₁ = length the_classes.known

  abbrev r₂ : ℕ
  r₂ = r₁ + length the_protocols.known

  abbrev r₃ : ℕ
  r₃ = r₂ + length the_categories.known

  -- The lines and the settling steps of each section.
  abbrev of_classes : SectionLines t 0 class_records
  of_classes = section_there t o 0 class_records

  abbrev of_protocols : SectionLines t r₁ protocol_records
  of_protocols = section_there t o r₁ protocol_records

  abbrev of_categories : SectionLines t r₂ category_records
  of_categories = section_there t o r₂ category_records

  -- The entries settled before each section and at the end.
  abbrev c₁ : ℕ
  c₁ = length of_classes.events

  abbrev c₂ : ℕ
  c₂ = c₁ + length of_protocols.events

  abbrev c₃ : ℕ
  c₃ = c₂ + length of_categories.events

  -- The three sections as one list of records.
  abbrev all_records : List Record
  all_records = class_records ++ (protocol_records ++ category_records)

  records_in_all : plain_records t ≡ value all_records
  records_in_all = records_of t the_classes.known the_protocols.known the_categories.known the_classes.is the_protocols.is the_categories.is

  records_number : length all_records ≡ r₃
  records_number = simp (length-append, length-map) (omega arith)

  lines_in_all : gather (lines_of t) all_records ≡ value (of_classes.lines ++ (of_protocols.lines ++ of_categories.lines))
  lines_in_all =
      gather_append (lines_of t) class_records (protocol_records ++ category_records)
      ∙ rw (of_classes.of_lines, gather_append (lines_of t) protocol_records category_records, of_protocols.of_lines, of_categories.of_lines)

  settling_in_all : events_from t 0 all_records ≡ value (of_classes.events ++ (of_protocols.events ++ of_categories.events))
  settling_in_all =
      let z : 0 + length class_records ≡ r₁ = simp length-map (omega arith) in
      let y : r₁ + length protocol_records ≡ r₂ = simp length-map in
      events_append t 0 class_records (protocol_records ++ category_records)
      ∙ rw (z, of_classes.of_events, events_append t r₁ protocol_records category_records, y, of_protocols.of_events, of_categories.of_events)

  events_in_all : plain_events t ≡ value (of_classes.events ++ (of_protocols.events ++ of_categories.events))
  events_in_all = events_of t all_records records_in_all ∙ settling_in_all

  settled_in_all : length (of_classes.events ++ (of_protocols.events ++ of_categories.events)) ≡ c₃
  settled_in_all = simp length-append (omega arith)

  few : r₃ < 2 ^ 64
  few = rw records_number at (records_few t o all_records records_in_all)

  below : c₃ < 2 ^ 128
  below = rw settled_in_all at (events_few t o _ events_in_all)

  abbrev info : Line
  info = info_line (version_and_flags t.info) t.setting

  -- With room for the classes: the listing comes to the first step of the category walk, with a ledger as long.
  module _ (l : List ℕ) (class_room : slot_count t.sections 0 1 ≤ length l) (Over : State → List ℕ → Type 0) (xs : List Line) (es : List Event)
      (later : (m : List ℕ) → length m ≡ length l → Steps t Over (state t.setting place.Section (categories t.setting at_start) r₂ c₂) m xs es) where
    abbrev Kept : List ℕ → Type 0
    Kept m = length m ≡ length l

    -- The listing's ledger stays as it is while the protocols are walked.
    module _ (m : List ℕ) (g : Kept m) where
      is_protocols : (w : Walk) (n : List ℕ) → n ≡ [] → section_step t m (protocols t.setting w)
          ≡ section_leaves a_record.Protocol (protocols t.setting) (protocol_step_of t w n).answer (protocol_step_of t w n).walk m
      is_protocols w n h = rw h

      protocols_end : (w : Walk) (n : List ℕ) → n ≡ [] → protocol_step_of t w n ≡ sections.leaves (value finished) w n
          → Steps t Over (state t.setting place.Section (protocols t.setting w) r₂ c₂) m xs es
      unfolding events_at
      protocols_end w n h e =
          silent (step_of_lem t (protocol_step_of t) a_record.Protocol (protocols t.setting) (λ _. m) (λ k. k ≡ []) is_protocols w w n n (value finished) h e r₂ c₂) refl (later m g)

      protocols_come : Steps t Over (state t.setting place.Section (protocols t.setting at_start) r₁ c₁) m (of_protocols.lines ++ xs) (of_protocols.events ++ es)
      protocols_come =
          section_comes t (protocol_step_of t) a_record.Protocol (protocols t.setting) (λ _. m) (λ k. k ≡ []) is_protocols o Over (λ w n h. protocol_step_keeps t w n ∙ h)
          xs es r₂ c₂ (omega (arith, few)) (less (2 ^ 128) c₂ c₃ (omega arith) below) protocols_end
          (protocol_run t (opened_asked t o) [] the_protocols.known the_protocols.is).2 refl r₁ c₁ of_protocols.lines of_protocols.events of_protocols.of_lines of_protocols.of_events refl refl

    classes_end : (w : Walk) (m : List ℕ) → Kept m → step_of sections.classes t w m ≡ sections.leaves (value finished) w m
        → Steps t Over (state t.setting place.Section (classes t.setting w) r₁ c₁) m (of_protocols.lines ++ xs) (of_protocols.events ++ es)
    unfolding events_at
    classes_end w m g e =
        silent (step_of_lem t (step_of sections.classes t) a_record.Class (classes t.setting) (λ n. n) Kept (λ v n h. refl) w w m m (value finished) g e r₁ c₁) refl (protocols_come m g)

    pub to_categories : Steps t Over (start t.setting) l (info ∷ (of_classes.lines ++ (of_protocols.lines ++ xs))) (of_classes.events ++ (of_protocols.events ++ es))
    unfolding step_at events_at
    to_categories =
        let h : c₁ ≤ c₃ = omega arith in
        let first : listing_step t (start t.setting) l ≡ leaves (value (says info)) (state t.setting place.Section (classes t.setting at_start) 0 0) l = rw (opened_asked t o) in
        saying first refl
        (section_comes t (step_of sections.classes t) a_record.Class (classes t.setting) (λ n. n) Kept (λ v n g. refl) o Over (λ w n g. step_keeps_length sections.classes t w n ∙ g)
        (of_protocols.lines ++ xs) (of_protocols.events ++ es) r₁ c₁ (omega (arith, few)) (less (2 ^ 128) c₁ c₃ h below) classes_end
        (class_run t (opened_asked t o) l class_room the_classes.known the_classes.is).2 refl 0 0 of_classes.lines of_classes.events of_classes.of_lines of_classes.of_events (omega arith) (omega arith))

  -- With room for the categories too: the listing comes to its end.
  module _ (l : List ℕ) (class_room : slot_count t.sections 0 1 ≤ length l) (category_room : slot_count t.sections 2 3 ≤ length l) where
    abbrev end : Line
    end = end_line r₃ c₃

    categories_end : (w : Walk) (m : List ℕ) → length m ≡ length l → step_of sections.categories t w m ≡ sections.leaves (value finished) w m
        → Rest t (state t.setting place.Section (categories t.setting w) r₃ c₃) m (end ∷ []) []
    unfolding step_at events_at
    categories_end w m g e =
        let stays : listing_step t (state t.setting place.End (categories t.setting w) r₃ c₃) m ≡ leaves (value ended) (state t.setting place.End (categories t.setting w) r₃ c₃) m = rw (opened_asked t o) in
        saying (step_of_lem t (step_of sections.categories t) a_record.Category (categories t.setting) (λ n. n) (λ n. length n ≡ length l) (λ v n h. refl) w w m m (value finished) g e r₃ c₃) refl
        (over stays refl)

    categories_come : (m : List ℕ) → length m ≡ length l
        → Rest t (state t.setting place.Section (categories t.setting at_start) r₂ c₂) m (of_categories.lines ++ (end ∷ [])) (of_categories.events ++ [])
    categories_come m g =
        section_comes t (step_of sections.categories t) a_record.Category (categories t.setting) (λ n. n) (λ n. length n ≡ length l) (λ v n h. refl) o _
        (λ w n h. step_keeps_length sections.categories t w n ∙ h) (end ∷ []) [] r₃ c₃ few below categories_end
        (category_run t (opened_asked t o) m (rw g category_room) the_categories.known the_categories.is).2 g r₂ c₂ of_categories.lines of_categories.events of_categories.of_lines of_categories.of_events refl refl

    -- All that is left at the start.
    in_all : plain_listing t ≡ value (info ∷ (of_classes.lines ++ (of_protocols.lines ++ (of_categories.lines ++ (end ∷ [])))))
    unfolding plain_listing
    in_all =
        rw (
          records_in_all,
          lines_in_all,
          settling_in_all,
          records_number,
          settled_in_all,
          append_assoc of_classes.lines (of_protocols.lines ++ of_categories.lines) (end ∷ []),
          append_assoc of_protocols.lines of_categories.lines (end ∷ []),
        )

    pub whole_rest : (zs : List Line) (gs : List Event) → plain_listing t ≡ value zs → plain_events t ≡ value gs → Rest t (start t.setting) l zs gs
    whole_rest zs gs a b =
        let lines : zs ≡ info ∷ (of_classes.lines ++ (of_protocols.lines ++ (of_categories.lines ++ (end ∷ [])))) = cc (in_all) in
        let events : gs ≡ of_classes.events ++ (of_protocols.events ++ of_categories.events) = cc (events_in_all) in
        let last : of_categories.events ++ [] ≡ of_categories.events = append-nil of_categories.events in
        rw (lines, events)
        (subst (λ (es : List Event). Rest t (start t.setting) l (info ∷ (of_classes.lines ++ (of_protocols.lines ++ (of_categories.lines ++ (end ∷ []))))) (of_classes.events ++ (of_protocols.events ++ es))) last
        (to_categories l class_room _ (of_categories.lines ++ (end ∷ [])) (of_categories.events ++ []) categories_come))

    -- The whole listing, with a ledger long enough.
    pub lists_with_room : (zs : List Line) (gs : List Event) → plain_listing t ≡ value zs → plain_events t ≡ value gs → Lists t.setting t l zs gs
    lists_with_room zs gs a b = rest_lists t (whole_rest zs gs a b)
