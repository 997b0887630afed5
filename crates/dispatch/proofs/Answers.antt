-- The call's answer and the result buffer that it leaves, by the questions that it asks.
use Prim.Native.Nat.{ℕ, ◌-◌, ◌*◌, ◌/◌, ◌≤◌}
use mathlib.Core.Path.{◌≡◌, refl, ap, sym, subst, ◌∙◌}
use mathlib.Core.Bool.{Bool, true, false}
use mathlib.Core.List.{List}
use native.Mathlib.Omega.{arith}
use lib.ListN.{length}
use borrow.Author.Tests.{leb-true, leb-false, le-leb, lt-leb}
use Rattle.reads.specs.Answer.{missed, outcome, answered}
use Rattle.reads.specs.Outcome.{Outcome, value, refused, and_then}
use Rattle.reads.specs.declared.answer.Missing.{Missing}
use Rattle.reads.specs.declared.answer.Missing.TheVariants.{Absent, Refused}
use Rattle.reads.proofs.Outcomes.{on_value, on_missing}
use Rattle.reads.proofs.Tests.{choose_true, choose_false}
use Rattle.pointers.specs.Tables.{Tables}
use Rattle.pointers.specs.Question.{asked}
use Rattle.records.specs.Class.{class_at}
use Rattle.records.specs.declared.category.ObjcCategory.{ObjcCategory}
use Rattle.records.specs.declared.class.ObjcClass.{ObjcClass}
use Rattle.walks.specs.PlainSections.{plain_categories}
use Rattle.dispatch.specs.declared.sources.Side.{Side}
use Rattle.dispatch.specs.declared.rows.Position.{Position}
use Rattle.dispatch.specs.Sources.{own_source}
use Rattle.dispatch.specs.Appearances.{Rows, appearances}
use Rattle.dispatch.specs.SlotSources.{slot_rows, slot_total, slot_appearances, settled}
use Rattle.dispatch.specs.Dispatch.{firsts, effective_of, effective_among, effective, Left, leaves, left}
use Rattle.dispatch.specs.Position.{ahead, EnteredAt}
use Rattle.dispatch.specs.Table.{Origins}
use Rattle.dispatch.specs.Written.{few_firsts, few_rows, Surveyed, RoomFor, WroteAll}
use Rattle.dispatch.proofs.Asking.{settled_value, settled_number}
use Rattle.dispatch.proofs.Matches.{left_same}
use Rattle.dispatch.proofs.Origin.{origins_ahead}
use Rattle.dispatch.proofs.Places.{appearances_ordered, slots_ordered}
use Rattle.dispatch.proofs.Plain.{slots_plain}
use Rattle.dispatch.proofs.Scans.{length_effective, rows_suffice}
use Rattle.dispatch.proofs.Walks.{was_entered}
use Rattle.std.specs.Prelude.{Result, Ok, Err}
use Rattle.reads.specs.declared.answer.Question.{Question}
use Rattle.dispatch.specs.declared.sources.Source.{Source}
use Rattle.reads.specs.declared.answer.Question.TheVariants.{SelectorRoom}

left_missed : (m : Missing) (result : List ℕ) → leaves (missed m) result ≡ left (missed m) result
unfolding left
left_missed (Absent why) result = refl
left_missed (Refused k) result = refl

left_number : (k : Question) (result : List ℕ) → leaves (refused k) result ≡ left (refused k) result
unfolding left
left_number k result = refl

module _ (files : List (List ℕ)) (rs : Rows) (result : List ℕ) {a : Result Bool Question} (w : RoomFor files rs (length result / 4) a) where
  told_by : {b : Result Bool Question} → a ≡ b → RoomFor files rs (length result / 4) b
  told_by e = subst (λ (x : Result Bool Question). RoomFor files rs (length result / 4) x) e w

  pub from_refused : {k : Question} → a ≡ Err k → leaves (refused k) result ≡ left (effective_among files rs) result
  unfolding effective_among
  from_refused {k} g = rw (told_by g).told (left_number k result)

  found : rs.end ≡ value tt → effective_among files rs ≡ value (effective_of files rs.rows)
  unfolding effective_among
  found e = rw e

  pub from_short : a ≡ Ok false → leaves (refused SelectorRoom) result ≡ left (effective_among files rs) result
  unfolding few_firsts left
  from_short g =
      let l = leb-false (length (firsts files rs.rows rs.rows)) (length result / 4) (told_by g).told.1 in
      rw (found (told_by g).told.0)
      (sym (choose_false _ _ (lt-leb (4 * length (effective_of files rs.rows)) (length result) (omega (arith, length_effective files rs.rows)))))

  module _ (g : a ≡ Ok true) where
    pub from_room : 4 * length (firsts files rs.rows rs.rows) ≤ length result
    unfolding few_firsts
    from_room = let l = leb-true (length (firsts files rs.rows rs.rows)) (length result / 4) (told_by g).told.1 in omega arith

    pub from_written : {n : ℕ} {after : List ℕ} → WroteAll files rs.rows result n after → leaves (value n) after ≡ left (effective_among files rs) result
    unfolding left
    from_written v =
        rw (found (told_by g).told.0, v.counted, v.contents, ← length_effective files rs.rows)
        (sym (choose_true _ _ (le-leb (4 * length (effective_of files rs.rows)) (length result) (omega (arith, from_room, length_effective files rs.rows)))))

-- 22, once all rows are reached.
module _ (files : List (List ℕ)) (rs : Rows) (room : ℕ) {a : Result Bool Question} (w : Surveyed rs room a) where
  found_by : {b : Result Bool Question} → a ≡ b → Surveyed rs room b
  found_by e = subst (λ (x : Result Bool Question). Surveyed rs room x) e w

  pub room_fits : a ≡ Ok true → RoomFor files rs room (Ok true)
  room_fits g = let f = (found_by g).found in record { told = (f.0, sym (rows_suffice files rs.rows room (sym f.1) refl)) }

  pub room_counted : a ≡ Ok false → {b : Bool} → b ≡ few_firsts files rs.rows rs.rows room → RoomFor files rs room (Ok b)
  room_counted g f = record { told = ((found_by g).found, sym f) }

  pub room_refused : {k : Question} → a ≡ Err k → RoomFor files rs room (Err k)
  room_refused g = record { told = (found_by g).found }

-- A pass that came to the end.
pub surveyed_by : (rs : Rows) (room : ℕ) (few : Bool) → rs.end ≡ value tt → (few ≡ true → few_rows rs.rows room ≡ true) → Surveyed rs room (Ok few)
surveyed_by rs room true e f = record { found = (e, f refl) }
surveyed_by rs room false e f = record { found = e }

-- The rows from the first entry of the class's own list on are all.
module _ (t : Tables) (s : Side) (c : ObjcClass) (a : Result Source Missing) (o : outcome a ≡ own_source t s c) {r : (Result Position Question)}
    (f : EnteredAt t 0 (outcome a) r) where
  all_rows : {start : Position} → r ≡ Ok start → ahead t s c.address start ≡ slot_appearances t s c
  unfolding ahead slot_appearances
  all_rows {start} g =
      let d = (was_entered f g).came in
      let z : slot_total t - 0 ≡ slot_total t = omega arith in
      rw (← o, d.1 (slot_rows t s c.address 0 (slot_total t)), d.0, z)

  -- From there the record of the class's own list is that of the position.
  pub own_origins : {start : Position} → r ≡ Ok start → Origins start.origin t (ahead t s c.address start).rows
  own_origins {start} g = origins_ahead t s c.address start.origin start (was_entered f g).came.0 refl

  pub of_start : (files : List (List ℕ)) (result : List ℕ) {start : Position} {l : Left} → r ≡ Ok start
      → l ≡ left (effective_among files (ahead t s c.address start)) result → l ≡ left (effective_among files (slot_appearances t s c)) result
  of_start files result g e = e ∙ ap (λ rs. left (effective_among files rs) result) (all_rows g)

  pub of_refused : (files : List (List ℕ)) (result : List ℕ) {k : Question} → r ≡ Err k → leaves (refused k) result ≡ left (effective_among files (slot_appearances t s c)) result
  unfolding slot_appearances effective_among left
  of_refused files result {k} g =
      let d = (was_entered f g).came in
      rw (← o, d (slot_rows t s c.address 0 (slot_total t)))

-- The categories are listed, or their number is the answer.
module _ (t : Tables) (s : Side) (c : ObjcClass) (result : List ℕ) (a : Result (Unit {0}) Question) (e : answered a ≡ settled (plain_categories t)) where
  pub slots_listed : a ≡ (Ok tt) → {l : Left} → l ≡ left (effective_among t.files (slot_appearances t s c)) result
      → l ≡ left (and_then (plain_categories t) (λ categories. effective_among t.files (appearances t s categories c))) result
  slots_listed g h =
      let p = settled_value (plain_categories t) (sym e ∙ ap answered g) in
      h ∙ left_same t.files (slots_plain t s c p.0 p.1) (slots_ordered t s c) (appearances_ordered t s p.0 c) result
      ∙ sym (ap (λ (o : Outcome (List ObjcCategory)). left (and_then o (λ categories. effective_among t.files (appearances t s categories c))) result) p.1)

  pub slots_refused : {k : Question} → a ≡ Err k → leaves (refused k) result ≡ left (and_then (plain_categories t) (λ categories. effective_among t.files (appearances t s categories c))) result
  slots_refused {k} g = rw (settled_number (plain_categories t) (sym e ∙ ap answered g)) (left_number k result)

module _ (t : Tables) (s : Side) (va : ℕ) (result : List ℕ) (a : Result (Unit {0}) Question) (e : answered a ≡ asked t) where
  pub call_refused : {k : Question} → a ≡ Err k → leaves (refused k) result ≡ left (effective t s va) result
  unfolding effective
  call_refused {k} g = rw (← e, g) (left_number k result)

  module _ (g : a ≡ (Ok tt)) (b : Result ObjcClass Missing) (d : outcome b ≡ class_at t va false) where
    pub call_missing : (m : Missing) → b ≡ Err m → leaves (missed m) result ≡ left (effective t s va) result
    unfolding effective
    call_missing m h = left_missed m result ∙ ap (λ o. left o result) (on_value answered _ e g refl (on_missing outcome _ m d h refl))

    pub call_class : {c : ObjcClass} {l : Left} → b ≡ Ok c
        → l ≡ left (and_then (plain_categories t) (λ categories. effective_among t.files (appearances t s categories c))) result → l ≡ left (effective t s va) result
    unfolding effective
    call_class h r = r ∙ ap (λ o. left o result) (on_value answered _ e g refl (on_value outcome _ d h refl refl))
