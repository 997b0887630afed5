-- Over opened tables, with a ledger long enough, the first pass finds the starts of all m rows of the plain listing, and the steps say the plain
-- listing's lines, each m row with the mark that these starts give it, and then that the listing has ended.
use Prim.Native.Nat.{ℕ, ◌≤◌}
use mathlib.Core.Path.{◌≡◌, refl, sym, ap, ◌∙◌, subst}
use mathlib.Core.Bool.{true, false}
use mathlib.Core.List.{List, ◌∷◌, map, flat_map, foldl-append}
use lib.ListN.{length}
use Rattle.reads.specs.Outcome.{value}
use Rattle.pointers.specs.Open.{Opened}
use Rattle.pointers.specs.Tables.{Tables}
use Rattle.pointers.specs.declared.setting.Setting.{Setting}
use Rattle.frames.specs.Marks.{met, met_all}
use Rattle.frames.specs.declared.frames.Frames.{Frames}
use Rattle.frames.proofs.Floors.{none_met}
use Rattle.walks.specs.Slots.{slot_count}
use Rattle.walks.proofs.Gathers.{there_known}
use Rattle.listing.specs.PlainListing.{Event, plain_listing}
use Rattle.listing.specs.Listing.{State, Left, start, nothing, listing_step}
use Rattle.listing.specs.declared.line.Line.{Line}
use Rattle.listing.proofs.PlainThere.{plain_events_there}
use Rattle.listing.proofs.Rest.{Rest, over, silent, telling, saying}
use Rattle.listing.proofs.WholeListing.{whole_rest}
use Rattle.marking.specs.Marked.{line_starts, starts_in, marked, marked_lines}
use Rattle.marking.specs.MarkedListing.{Marking, marking, marked_start, marked_leaves, finds, tells, marked_step}
use Rattle.marking.specs.MarkedRun as run
use Rattle.marking.specs.MarkedRun.{Silent, Tells, Finds}
use Rattle.marking.proofs.StepKeeps.{step_keeps}
use Rattle.std.specs.Prelude.{Option, Some, None}

-- Steps that say nothing, before others.
pub then_tells : {t : Tables} {m n : Marking} {l k : List ℕ} {xs : List Line} → Silent t m l n k → Tells t n k xs → Tells t m l xs
then_tells run.here r = r
then_tells (run.step e s) r = run.silent e (then_tells s r)

module _ (t : Tables) where
  -- The second pass says the lines with their marks.
  tells_rest : (w : Option Frames) {s : State} {l : List ℕ} {xs : List Line} {es : List Event} → Rest t s l xs es → Tells t (marking false w s) l (map (marked w) xs)
  tells_rest w (over e f) = run.over (ap (tells w) e)
  tells_rest w (silent e f r) = run.silent (ap (tells w) e) (tells_rest w r)
  tells_rest w (telling e f r) = run.lacking (ap (tells w) e) (tells_rest w r)
  tells_rest w (saying e f r) = run.saying (ap (tells w) e) (tells_rest w r)

  -- What a step keeps, for one whose answer is known.
  setting_kept : (s : State) (l : List ℕ) {x : Left} {u : Setting} → listing_step t s l ≡ x → s.setting ≡ u → x.state.setting ≡ u
  setting_kept s l e h = sym (ap (λ (y : Left). y.state.setting) e) ∙ (step_keeps t s l).setting ∙ h

  room_kept : (s : State) (l : List ℕ) {x : Left} → listing_step t s l ≡ x → length x.ledger ≡ length l
  room_kept s l e = sym (ap (λ (y : Left). length y.ledger) e) ∙ (step_keeps t s l).room

  -- One silent step more.
  module _ {m n : Marking} {l k : List ℕ} {u : Setting} (e : marked_step t m l ≡ marked_leaves (value nothing) n k) (room : length k ≡ length l) where
    one_more : (w v : Option Frames) (xs ys : List Line) → met_all w (starts_in xs) ≡ met_all v (starts_in ys) → Finds t n k u w xs → Finds t m l u v ys
    one_more w v xs ys g r =
        record {
          ledger = r.ledger;
          room = r.room ∙ room;
          steps = run.step e (subst (λ (z : Option Frames). Silent t n k (marking false z (start u)) r.ledger) g r.steps);
        }

  -- The first pass meets the starts of the lines.
  finds_rest : (u : Setting) (w : Option Frames) {s : State} {l : List ℕ} {xs : List Line} {es : List Event} → Rest t s l xs es → s.setting ≡ u → Finds t (marking true w s) l u w xs
  unfolding flat_map
  finds_rest u w (over {s = s} {l = l} e f) h =
      record {
        ledger = l;
        room = refl;
        steps = run.step (ap (finds w) e ∙ ap (λ (v : Setting). marked_leaves (value nothing) (marking false w (start v)) l) h) run.here;
      }
  finds_rest u w (silent {s = s} {l = l} e f r) h =
      one_more (ap (finds w) e) (room_kept s l e) w w _ _ refl (finds_rest u w r (setting_kept s l e h))
  finds_rest u w (telling {s = s} {l = l} e f r) h =
      one_more (ap (finds w) e) (room_kept s l e) w w _ _ refl (finds_rest u w r (setting_kept s l e h))
  finds_rest u w (saying {s = s} {l = l} {x = x} {xs = xs} e f r) h =
      one_more (ap (finds w) e) (room_kept s l e) (met_all w (line_starts x)) w xs (x ∷ xs) (sym (foldl-append met w (line_starts x) (starts_in xs)))
      (finds_rest u (met_all w (line_starts x)) r (setting_kept s l e h))

module _ (t : Tables) (o : Opened t) (w : Option Frames) (lines : List Line) (plain : plain_listing t ≡ value lines) where
  rest_of : (l : List ℕ) → slot_count t.sections 0 1 ≤ length l → slot_count t.sections 2 3 ≤ length l
      → Rest t (start t.setting) l lines (there_known (plain_events_there t o)).known
  rest_of l classes categories = whole_rest t o l classes categories lines _ plain (there_known (plain_events_there t o)).is

  module _ (l : List ℕ) (classes : slot_count t.sections 0 1 ≤ length l) (categories : slot_count t.sections 2 3 ≤ length l) where
    -- The floors found are those of the starts of all m rows of the plain listing under the same setting.
    pub starts_found : Finds t (marking true w (start t.setting)) l t.setting w lines
    starts_found = finds_rest t t.setting w (rest_of l classes categories) refl

    pub whole_marked : Tells t (marked_start t.setting w) l (marked_lines w lines)
    unfolding marked_lines
    whole_marked = go w refl
      where
        go : (v : Option Frames) → w ≡ v → Tells t (marked_start t.setting v) l (map (marked (met_all v (starts_in lines))) lines)
        go (Some f) e =
            let found = starts_found in
            rw (← e) (then_tells found.steps (tells_rest t (met_all w (starts_in lines)) (rest_of found.ledger (rw found.room classes) (rw found.room categories))))
        go None e = rw (none_met (starts_in lines)) (tells_rest t None (rest_of l classes categories))
