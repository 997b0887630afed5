-- What is left of a marked listing: each step that goes on leaves less, and the numbers that it counts up fit their words. Nothing depends on the
-- setting of what is lent.
use Prim.Native.Nat.{ℕ, suc, ◌+◌, ◌<◌}
use mathlib.Core.Path.{◌≡◌, refl, sym, ap, ◌∙◌}
use mathlib.Core.Bool.{Bool, true, false}
use mathlib.Core.List.{List}
use native.Mathlib.Omega.{arith}
use Rattle.reads.specs.Outcome.{Outcome, value, absent, refused}
use Rattle.pointers.specs.Tables.{Tables, under, reading_new}
use Rattle.pointers.specs.declared.setting.Setting.{Setting}
use Rattle.std.specs.Prelude.{Option}
use Rattle.frames.specs.declared.frames.Frames.{Frames}
use Rattle.listing.specs.Listing.{State, start, Answer, says, lacks, nothing, ended, listing_step}
use Rattle.listing.proofs.Falls.{falls_to}
use Rattle.listing.proofs.LoanSettings.{loan_step}
use Rattle.listing.proofs.Remaining.{remaining, goes_on, InWords}
use Rattle.listing.proofs.WordsKept.{words_kept}
use Rattle.marking.specs.MarkedListing.{Marking, finds_by, marked_answer, in_pass, marked_step}

-- A listing from its start on, under any setting.
abbrev pub whole_left : ℕ
whole_left = remaining (start reading_new)

-- The rest of the first pass, and then the second.
abbrev pub pass_left : Bool → State → ℕ
pass_left true s = suc (remaining s + whole_left)
pass_left false s = remaining s

abbrev pub steps_left : Marking → ℕ
steps_left m = pass_left m.finding m.state

start_left : (u : Setting) → remaining (start u) ≡ whole_left
unfolding remaining
start_left u = refl

pub start_words : (u : Setting) → InWords (start u)
start_words u = record { slot = omega arith; cursor = omega arith }

-- Marks change nothing in whether a listing goes on.
told_on : (w : Option Frames) (o : Outcome Answer) → goes_on (marked_answer w o) ≡ goes_on o
told_on w (value (says x)) = refl
told_on w (value (lacks x)) = refl
told_on w (value nothing) = refl
told_on w (value ended) = refl
told_on w (absent r) = refl
told_on w (refused k) = refl

module _ (w : Option Frames) (v : State) (l : List ℕ) where
  finds_words : (o : Outcome Answer) → (goes_on o ≡ true → InWords v) → goes_on (finds_by w v l o).answer ≡ true → InWords (finds_by w v l o).state.state
  finds_words (value (says x)) h e = h refl
  finds_words (value (lacks x)) h e = h refl
  finds_words (value nothing) h e = h refl
  finds_words (value ended) h e = start_words v.setting
  finds_words (absent r) h e = let z : ◌≡◌ {A = ℕ} 0 1 = cc in absurd (omega arith)
  finds_words (refused k) h e = let z : ◌≡◌ {A = ℕ} 0 1 = cc in absurd (omega arith)

  finds_less : (n : ℕ) (o : Outcome Answer) → (goes_on o ≡ true → remaining v < n) → goes_on (finds_by w v l o).answer ≡ true
      → steps_left (finds_by w v l o).state < suc (n + whole_left)
  finds_less n (value (says x)) h e = omega (arith, h refl)
  finds_less n (value (lacks x)) h e = omega (arith, h refl)
  finds_less n (value nothing) h e = omega (arith, h refl)
  finds_less n (value ended) h e = omega (arith, start_left v.setting)
  finds_less n (absent r) h e = let z : ◌≡◌ {A = ℕ} 0 1 = cc in absurd (omega arith)
  finds_less n (refused k) h e = let z : ◌≡◌ {A = ℕ} 0 1 = cc in absurd (omega arith)

module _ (t : Tables) (m : Marking) (l : List ℕ) (h : InWords m.state) where
  abbrev left_by : Bool → Marking
  left_by b = (in_pass b m.frames (listing_step t m.state l)).state

  abbrev on_by : Bool → Type 0
  on_by b = goes_on (in_pass b m.frames (listing_step t m.state l)).answer ≡ true

  falls : goes_on (listing_step t m.state l).answer ≡ true → remaining (listing_step t m.state l).state < remaining m.state
  falls e = falls_to t m.state l (listing_step t m.state l) refl e (words_kept t m.state l h e)

  pub marked_words_kept : goes_on (marked_step t m l).answer ≡ true → InWords (marked_step t m l).state.state
  marked_words_kept = go m.finding
    where
      go : (b : Bool) → on_by b → InWords (left_by b).state
      go true e = finds_words m.frames _ _ (listing_step t m.state l).answer (words_kept t m.state l h) e
      go false e = words_kept t m.state l h (sym (told_on m.frames (listing_step t m.state l).answer) ∙ e)

  pub marked_falls : goes_on (marked_step t m l).answer ≡ true → steps_left (marked_step t m l).state < steps_left m
  marked_falls = go m.finding
    where
      go : (b : Bool) → on_by b → steps_left (left_by b) < pass_left b m.state
      go true e = finds_less m.frames _ _ (remaining m.state) (listing_step t m.state l).answer falls e
      go false e = falls (sym (told_on m.frames (listing_step t m.state l).answer) ∙ e)

pub marked_loan : (u : Setting) (t : Tables) (m : Marking) (l : List ℕ) → marked_step (under u t) m l ≡ marked_step t m l
marked_loan u t m l = ap (in_pass m.finding m.frames) (loan_step u t m.state l)
