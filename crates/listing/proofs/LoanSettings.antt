-- A step takes its setting from the listing's state and from the walk under way, never from what it is lent (document 02, note 12): over tables
-- under any setting the steps are the same.
use Rattle.std.proofs.Common.{◌≡◌, ℕ, zero, suc, List, sym, refl, ap, ◌∙◌, subst}
use Rattle.reads.specs.Outcome.{refused}
use Rattle.pointers.specs.Tables.{Tables, under}
use Rattle.pointers.specs.declared.setting.Setting.{Setting}
use Rattle.walks.specs.Gather.{joined}
use Rattle.listing.specs.PlainListing.{Event}
use Rattle.listing.specs.Listing.{Begun, walks, State, Left, start, on_section, section_step, step_at, listing_step}
use Rattle.listing.specs.ListingRun.{events_at, events_in, line_said, settled_at, answer_at, lines_by, events_by, Answered, Lists}
use Rattle.listing.specs.declared.at.At.{At}
use Rattle.listing.specs.declared.at.At.TheVariants as place
use Rattle.listing.specs.declared.at.FieldWalk.{FieldWalk}
use Rattle.listing.specs.declared.at.FieldWalk.TheVariants as field_walk
use Rattle.listing.specs.declared.at.Owner.{Owner}
use Rattle.listing.specs.declared.at.Record.TheVariants as a_record
use Rattle.listing.specs.declared.line.Line.{Line}
use Rattle.reads.specs.declared.answer.Question.{Question}

module _ (u : Setting) (t : Tables) where
  loan_section : (l : List ℕ) (n : ℕ) (c p k : Begun) → section_step (under u t) l (walks n c p k) ≡ section_step t l (walks n c p k)
  loan_section l zero c p k = refl
  loan_section l (suc zero) c p k = refl
  loan_section l (suc (suc n)) c p k = refl

  loan_at : (s : State) (l : List ℕ) (a : At) → step_at (under u t) s l a ≡ step_at t s l a
  unfolding step_at
  loan_at s l place.Info = refl
  loan_at s l place.Section =
      let x = s.section in ap (on_section s) (loan_section l x.stage x.classes_at x.protocols_at x.categories_at)
  loan_at s l (place.Record (a_record.Class c)) = refl
  loan_at s l (place.Record (a_record.Protocol p)) = refl
  loan_at s l (place.Record (a_record.Category c)) = refl
  loan_at s l (place.Ro c) = refl
  loan_at s l (place.List n x) = go x.owner x.walk
    where
      go : (o : Owner) (w : FieldWalk)
          → step_at (under u t) s l (place.List n (record { walk = w; owner = o })) ≡ step_at t s l (place.List n (record { walk = w; owner = o }))
      go o (field_walk.Rows w) = refl
      go o (field_walk.Names w) = refl
  loan_at s l place.End = refl

  pub loan_step : (s : State) (l : List ℕ) → listing_step (under u t) s l ≡ listing_step t s l
  loan_step s l = loan_at s l s.at

  loan_events_at : (r : ℕ) (a : At) → events_at (under u t) r a ≡ events_at t r a
  unfolding events_at
  loan_events_at r place.Info = refl
  loan_events_at r place.Section = refl
  loan_events_at r (place.Record x) = refl
  loan_events_at r (place.Ro c) = refl
  loan_events_at r (place.List n x) = go x.owner x.walk
    where
      go : (o : Owner) (w : FieldWalk)
          → events_at (under u t) r (place.List n (record { walk = w; owner = o })) ≡ events_at t r (place.List n (record { walk = w; owner = o }))
      go o (field_walk.Rows w) = refl
      go o (field_walk.Names w) = refl
  loan_events_at r place.End = refl

  loan_events : (s : State) → events_in (under u t) s ≡ events_in t s
  loan_events s = loan_events_at s.records s.at

  loan_answers : (n : ℕ) (s : State) (l : List ℕ) → answer_at (under u t) n s l ≡ answer_at t n s l
  unfolding answer_at
  loan_answers zero s l = ap (λ (x : Left). x.answer) (loan_step s l)
  loan_answers (suc n) s l =
      ap (λ (x : Left). answer_at (under u t) n x.state x.ledger) (loan_step s l)
      ∙ loan_answers n (listing_step t s l).state (listing_step t s l).ledger

  loan_lines : (n : ℕ) (s : State) (l : List ℕ) → lines_by (under u t) n s l ≡ lines_by t n s l
  unfolding lines_by
  loan_lines zero s l = refl
  loan_lines (suc n) s l =
      let x = listing_step t s l in
      ap (λ (y : Left). joined (line_said y.answer) (lines_by (under u t) n y.state y.ledger)) (loan_step s l)
      ∙ ap (joined (line_said x.answer)) (loan_lines n x.state x.ledger)

  loan_settled : (n : ℕ) (s : State) (l : List ℕ) → events_by (under u t) n s l ≡ events_by t n s l
  unfolding events_by
  loan_settled zero s l = refl
  loan_settled (suc n) s l =
      let x = listing_step t s l in
      ap (λ (y : Left). joined (settled_at (under u t) s y.answer) (events_by (under u t) n y.state y.ledger)) (loan_step s l)
      ∙ rw (loan_events s, loan_settled n x.state x.ledger)

  -- What holds of the steps over the tables under a setting holds over the tables as they are lent.
  pub loan_lists : {v : Setting} {l : List ℕ} {zs : List Line} {gs : List Event} → Lists v (under u t) l zs gs → Lists v t l zs gs
  loan_lists {v} {l} {zs} {gs} x =
      record {
        most = x.most;
        answered = λ n. subst Answered (loan_answers n (start v) l) (x.answered n);
        ends = λ n h. sym (loan_answers n (start v) l) ∙ x.ends n h;
        said_lines = λ n e. sym (loan_lines n (start v) l) ∙ x.said_lines n (loan_answers n (start v) l ∙ e);
        settled_events = λ n e. sym (loan_settled n (start v) l) ∙ x.settled_events n (loan_answers n (start v) l ∙ e);
      }

  pub loan_numberless : (v : Setting) (l : List ℕ) → ((n : ℕ) (k : Question) → answer_at t n (start v) l ≡ refused k → ⊥) → (n : ℕ) (k : Question) → answer_at (under u t) n (start v) l ≡ refused k → ⊥
  loan_numberless v l none n k e = none n k (sym (loan_answers n (start v) l) ∙ e)
