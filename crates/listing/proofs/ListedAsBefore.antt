-- Where every string that the plain listing's definition asks for ends, both readings list alike but for line I's reading: lines, the entries
-- settled and the reasons of those skipped, and whatever record, class_ro or name the definition tries, with its reason where it is absent
-- (document 02, note 12).
use Rattle.std.proofs.Common.{◌≡◌, ℕ, List, ◌∷◌, sym, ap, ◌∙◌}
use Rattle.reads.specs.Outcome.{Outcome, value, and_then}
use Rattle.reads.specs.declared.text.Reading.TheVariants.{Old, New}
use Rattle.reads.proofs.Outcomes.{then_then, then_came}
use Rattle.pointers.specs.Open.{Opened}
use Rattle.pointers.specs.Tables.{Tables, reading_under}
use Rattle.pointers.proofs.OpenedTables.{opened_under}
use Rattle.records.specs.Asks.{Within, itself, in_first, in_next}
use Rattle.records.specs.Decode.{Decode, run}
use Rattle.records.specs.Readings.{under_old, under_new, StringsEnd}
use Rattle.records.proofs.Readings.{readings_agree, parts_agree}
use Rattle.walks.proofs.Gathers.{There, there_known}
use Rattle.listing.specs.DecodeListing.{gather, decode_records, decode_lines_of, decode_events_from, decode_events, decode_listing}
use Rattle.listing.specs.ListedAsBefore.{with_reading}
use Rattle.listing.specs.ListingRun.{GivesNoNumber, Lists}
use Rattle.listing.specs.PlainListing.{info_line, version_and_flags, Event, plain_events, plain_listing}
use Rattle.listing.specs.declared.at.Record.{Record}
use Rattle.listing.specs.declared.line.Line.{Line}
use Rattle.listing.proofs.DecodedListing.{listing_runs, events_run}
use Rattle.listing.proofs.Demand3.{no_number_room}
use Rattle.listing.proofs.LoanSettings.{loan_lists, loan_numberless}
use Rattle.listing.proofs.PlainThere.{listing_there}
use Rattle.listing.proofs.WholeListing.{lists_with_room}

module _ (t : Tables) (ends : StringsEnd t (decode_listing t.sections)) where
  pub listed_as_before : plain_listing (under_new t) ≡ and_then (plain_listing (under_old t)) (λ lines. value (with_reading New lines))
  listed_as_before =
      let whole = decode_listing t.sections in
      let first = info_line (version_and_flags t.info) (reading_under New) in
      let old = listing_runs (under_old t) in
      let new = listing_runs (under_new t) in
      sym new
      ∙ ap (λ (o : Outcome (List Line)). and_then o (λ lines. value (first ∷ lines))) (sym (readings_agree t whole ends).outcome)
      ∙ sym (then_then (run (under_old t) whole) _ _)
      ∙ ap (λ (o : Outcome (List Line)). and_then o (λ lines. value (with_reading New lines))) old

  -- Whatever the definition tries in its course.
  pub tried_as_before : {A : Type 0} (d : Decode A) → Within (under_old t) d (List Line) (decode_listing t.sections) → run (under_new t) d ≡ run (under_old t) d
  tried_as_before d w = sym (parts_agree t (decode_listing t.sections) ends w).outcome

  -- The entries settled, where the listing gives no number, as over what opening accepted.
  pub settled_as_before : There (plain_listing (under_old t)) → plain_events (under_new t) ≡ plain_events (under_old t)
  unfolding decode_listing decode_events
  settled_as_before there =
      let sections = t.sections in
      let listed = there_known there in
      let whole = then_came (run (under_old t) (decode_listing sections)) _ listed.known (listing_runs (under_old t) ∙ listed.is) in
      let recorded = then_came (run (under_old t) (decode_records sections)) _ whole.0 whole.1 in
      let lined = then_came (run (under_old t) (gather decode_lines_of recorded.0)) _ whole.0 recorded.2 in
      let records = tried_as_before (decode_records sections) (in_first _ itself) in
      let events = tried_as_before (decode_events_from 0 recorded.0) (in_next recorded.1 (in_next lined.1 (in_first _ itself))) in
      let old = ap (λ (x : Outcome (List Record)). and_then x (λ xs. run (under_old t) (decode_events_from 0 xs))) recorded.1 in
      let new = ap (λ (x : Outcome (List Record)). and_then x (λ xs. run (under_new t) (decode_events_from 0 xs))) (records ∙ recorded.1) in
      sym (events_run (under_new t)) ∙ new ∙ events ∙ sym old ∙ events_run (under_old t)

  -- The steps over what opening accepted, with a ledger with which none gives a number: those of a listing that began under the new reading say
  -- and settle what those of one that began under the old reading do, but for line I.
  module _ (o : Opened t) (l : List ℕ) (none : GivesNoNumber (reading_under Old) t l) where
    pub steps_as_before : (lines : List Line) (events : List Event) → plain_listing (under_old t) ≡ value lines → plain_events (under_old t) ≡ value events
        → Lists (reading_under Old) t l lines events × Lists (reading_under New) t l (with_reading New lines) events
    steps_as_before lines events a b =
        let room = no_number_room (under_old t) (opened_under (reading_under Old) o) l (loan_numberless (reading_under Old) t (reading_under Old) l none) in
        let there = listing_there (under_old t) (opened_under (reading_under Old) o) in
        let new : plain_listing (under_new t) ≡ value (with_reading New lines) = rw listed_as_before (rw a) in (
          loan_lists (reading_under Old) t (lists_with_room (under_old t) (opened_under (reading_under Old) o) l room.0 room.1 lines events a b),
          loan_lists (reading_under New) t (lists_with_room (under_new t) (opened_under (reading_under New) o) l room.0 room.1 (with_reading New lines) events new (settled_as_before there ∙ b)),
        )
