-- Each step of the listing after which it goes on leaves less, so a listing ends.
use Rattle.std.proofs.Common.{◌≡◌, ℕ, zero, suc, ◌+◌, ◌-◌, ◌*◌, ◌^◌, ◌<◌, ◌≤◌, true, false, eqb, List, [], ◌∷◌, length, drop, sym, refl, ap, subst, arith, length-drop, ne_eqb}
use Rattle.reads.specs.Outcome.{Outcome, value, absent, refused, choose}
use Rattle.reads.proofs.Tests.{by_choose}
use Rattle.pointers.specs.Question.{asked, guarded}
use Rattle.pointers.specs.Tables.{Tables, under}
use Rattle.pointers.specs.declared.setting.Setting.{Setting}
use Rattle.records.specs.Category.{category_class_name}
use Rattle.records.specs.Class.{ro_of, superclass_name}
use Rattle.records.specs.declared.class.ClassRo.{ClassRo}
use Rattle.walks.specs.ProtocolNames.{ReachedName, name_reached, name_passed, names_finished, next_name}
use Rattle.walks.specs.Sections as sections
use Rattle.walks.specs.Sections.{Walk, at_start, Step, found, passed, dropped, finished, step_of, protocol_step_of}
use Rattle.walks.specs.Walk.{ReachedRow, row_reached, row_skipped, rows_finished, next_of}
use Rattle.walks.specs.declared.list_walk.ListWalk.{ListWalk}
use Rattle.walks.specs.declared.protocol_names.ProtocolNameWalk.{ProtocolNameWalk}
use Rattle.walks.proofs.Moves.{RowMoves, row_step_moved, NameMoves, name_step_moved, Further, past_slot, past_waiting, SectionMoves, section_step_moved, protocol_step_moved}
use Rattle.listing.specs.PlainListing.{Field, row_list, name_list, name_or_none}
use Rattle.listing.specs.Listing as listing
use Rattle.listing.specs.Listing.{Begun, begun, owner_fields, at_first, enter, SectionWalk, walks, State, as_record, onward, section_step, after_section, by_section, on_section, record_step, by_ro, by_row, by_name, list_step, step_at, listing_step}
use Rattle.listing.specs.declared.at.At.{At}
use Rattle.listing.specs.declared.at.At.TheVariants as place
use Rattle.listing.specs.declared.at.FieldWalk.{FieldWalk}
use Rattle.listing.specs.declared.at.FieldWalk.TheVariants as field_walk
use Rattle.listing.specs.declared.at.Owner.{Owner}
use Rattle.listing.specs.declared.at.Owner.TheVariants as an_owner
use Rattle.listing.specs.declared.at.Record.{Record}
use Rattle.listing.specs.declared.at.Record.TheVariants as a_record
use Rattle.listing.proofs.Remaining.{walk_left, section_weight, list_left, cursor_in, place_left, remaining, goes_on, slot_of, InWords}
use Rattle.reads.specs.declared.answer.Question.{Question}

pub never : {A : Type 0} → false ≡ true → A
never e = let z : ◌≡◌ {A = ℕ} 0 1 = cc in absurd (omega arith)

-- The address that waits counts for less than a slot.
waits_few : (n : ℕ) → choose (eqb n 0) 0 1 ≤ 1
waits_few n = by_choose (λ (k : ℕ). k ≤ 1) (λ e. omega arith) (λ e. omega arith)

-- A walk that goes on has less left.
further_less : (w v : Walk) → Further w v → v.slot < 2 ^ 64 → walk_left v < walk_left w
unfolding walk_left choose
further_less w v (past_slot e) h = omega (arith, e, waits_few v.waiting)
further_less w _ (past_waiting n) h = rw (ne_eqb w.waiting 0 n) (omega arith)

-- A record's lists from list n on, the first at its start.
first_few : (u : Setting) (o : Owner) (n : ℕ) (fs : List Field) → length fs ≡ length (owner_fields o) - n → place_left (at_first u o n fs) ≤ 1 + (length (owner_fields o) - n) * 2 ^ 65
first_few u o n [] h = omega arith
first_few u o n (row_list k va ∷ fs) h = omega arith
first_few u o n (name_list va ∷ fs) h = omega arith

enter_few : (u : Setting) (o : Owner) (n : ℕ) → place_left (enter u o n) ≤ 1 + (length (owner_fields o) - n) * 2 ^ 65
enter_few u o n = first_few u o n (drop n (owner_fields o)) (length-drop n (owner_fields o))

walk_few : (w : Walk) → walk_left w < 2 ^ 66
unfolding walk_left
walk_few w = omega (arith, waits_few w.waiting)

-- Where less is left of the section walk, less is left, whatever the place.
lighter : (r s : State) → section_weight r.section < section_weight s.section → place_left r.at < 2 ^ 80 → remaining r < remaining s
unfolding remaining
lighter r s h g = omega (arith, h, g)

nearer : (r s : State) → section_weight r.section ≡ section_weight s.section → place_left r.at < place_left s.at → remaining r < remaining s
unfolding remaining
nearer r s e h = omega (arith, e, h)

-- What a step owes.
pub record Falls (s : State) (x : listing.Left) : Type 0 where
  pub falls : goes_on x.answer ≡ true → InWords x.state → remaining x.state < remaining s

module _ (s : State) (l : List ℕ) where
  stays : (k : Question) → Falls s (listing.leaves (refused k) s l)
  stays k = record { falls = λ e f. never e }

  -- A step that goes on to another place of the same section.
  onward_falls : {A : Type 0} (o : Outcome A) (go : A → listing.Left) → ((a : A) → Falls s (go a)) → Falls s (onward s l o go)
  onward_falls (value a) go f = f a
  onward_falls (absent r) go f = record { falls = λ e f. never e }
  onward_falls (refused k) go f = stays k

  record_falls : place_left s.at ≡ 2 ^ 71 → (t : Tables) (x : Record) → Falls s (record_step t s l x)
  record_falls h t (a_record.Class c) =
      onward_falls (name_or_none (guarded t (superclass_name t c))) _ (λ name. record { falls = λ e f. nearer _ s refl (omega (arith, h)) })
  record_falls h t (a_record.Protocol p) =
      onward_falls (asked t) _ (λ u. record { falls = λ e f. nearer _ s refl (omega (arith, h, enter_few s.setting (an_owner.Protocol p) 0)) })
  record_falls h t (a_record.Category c) =
      onward_falls (name_or_none (guarded t (category_class_name t c))) _
      (λ name. record { falls = λ e f. nearer _ s refl (omega (arith, h, enter_few s.setting (an_owner.Category c) 0)) })

  ro_falls : place_left s.at ≡ 2 ^ 70 → (o : Outcome ClassRo) → Falls s (by_ro s l o)
  ro_falls h (value r) = record { falls = λ e f. nearer _ s refl (omega (arith, h, enter_few s.setting (an_owner.Class r) 0)) }
  ro_falls h (absent r) = record { falls = λ e f. nearer _ s refl (omega (arith, h)) }
  ro_falls h (refused k) = stays k

  module _ (o : Owner) (n : ℕ) where
    abbrev lists_after : ℕ
    lists_after = length (owner_fields o) - suc n

    row_falls : (w v : ListWalk) → place_left s.at ≡ list_left w.cursor lists_after → (x : Outcome ReachedRow) → RowMoves w v x → Falls s (by_row s l o n v x)
    row_falls w v h (value (row_reached r)) m = record { falls = λ e f. nearer _ s refl (omega (arith, h, m, f.cursor)) }
    row_falls w v h (value (row_skipped j r)) m = record { falls = λ e f. nearer _ s refl (omega (arith, h, m, f.cursor)) }
    row_falls w v h (value rows_finished) m = record { falls = λ e f. nearer _ s refl (omega (arith, h, enter_few s.setting o (suc n))) }
    row_falls w v h (refused k) m = stays k
    row_falls w v h (absent r) m = record { falls = λ e f. nearer _ s refl (omega (arith, h, enter_few s.setting o (suc n))) }

    name_falls : (w v : ProtocolNameWalk) → place_left s.at ≡ list_left w.cursor lists_after → (x : Outcome ReachedName) → NameMoves w v x → Falls s (by_name s l o n w.cursor v x)
    name_falls w v h (value (name_reached name)) m = record { falls = λ e f. nearer _ s refl (omega (arith, h, m, f.cursor)) }
    name_falls w v h (value (name_passed r)) m = record { falls = λ e f. nearer _ s refl (omega (arith, h, m, f.cursor)) }
    name_falls w v h (value names_finished) m = record { falls = λ e f. nearer _ s refl (omega (arith, h, enter_few s.setting o (suc n))) }
    name_falls w v h (refused k) m = stays k
    name_falls w v h (absent r) m = record { falls = λ e f. nearer _ s refl (omega (arith, h, enter_few s.setting o (suc n))) }

    list_falls : (t : Tables) (x : FieldWalk) → place_left s.at ≡ list_left (cursor_in x) lists_after → Falls s (list_step t s l o n x)
    list_falls t (field_walk.Rows w) h = let x = next_of t w in row_falls w x.walk h x.answer (row_step_moved t w).moves
    list_falls t (field_walk.Names w) h = let x = next_name t w in name_falls w x.walk h x.answer (name_step_moved t w).moves

-- A step of a section walk, over any section: `weight` is what the sections after it weigh.
module _ {A : Type 0} (s : State) (h : place_left s.at ≡ 1) (f : A → Record) (in_walk : Walk → SectionWalk) (weight : ℕ)
    (weighs : (w : Walk) → section_weight (in_walk w) ≡ weight + walk_left w) (slots : (w : Walk) → slot_of (in_walk w) ≡ w.slot) (w v : Walk)
    (here : s.section ≡ in_walk w) (m : List ℕ) (last : v ≡ w → Falls s (after_section s m (in_walk v))) where
  taken_falls : (walk_left v < walk_left w) → (place : At) → place_left place < 2 ^ 80 → remaining (listing.in_section s place (in_walk v)) < remaining s
  taken_falls less place small = lighter _ s (rw (here, weighs v, weighs w) (omega (arith, less))) small

  walk_falls : (o : Outcome (Step A)) → SectionMoves w v o → Falls s (onward s m (as_record f o) (by_section s m (in_walk v)))
  walk_falls (value (found a)) b = record { falls = λ e g. taken_falls (further_less w v b (rw (slots v) at g.slot)) (place.Record (f a)) (omega arith) }
  walk_falls (value (passed r)) b = record { falls = λ e g. taken_falls (further_less w v b (rw (slots v) at g.slot)) place.Section (omega arith) }
  walk_falls (value dropped) b = record { falls = λ e g. taken_falls (further_less w v b (rw (slots v) at g.slot)) place.Section (omega arith) }
  walk_falls (value finished) b = last b
  walk_falls (absent r) b = absurd b
  walk_falls (refused k) b = record { falls = λ e g. never e }

module _ (s : State) (l : List ℕ) where
  stage_falls : (t : Tables) (n : ℕ) (c p k : Begun) → place_left s.at ≡ 1 → s.section ≡ walks n c p k → Falls s (on_section s (section_step t l (walks n c p k)))
  stage_falls t zero c p k h e =
      let x = step_of sections.classes (under c.setting t) c.walk l in
      walk_falls s h a_record.Class (λ v. walks 0 (begun c.setting v) p k) (2 * 2 ^ 70) (λ v. refl) (λ v. refl) c.walk x.walk e x.ledger
      (λ b. record { falls = λ g i. lighter _ s (rw e (omega (arith, walk_few at_start))) (omega arith) })
      x.answer (section_step_moved sections.classes (under c.setting t) c.walk l).moves
  stage_falls t (suc zero) c p k h e =
      let x = protocol_step_of (under p.setting t) p.walk [] in
      walk_falls s h a_record.Protocol (λ v. walks 1 c (begun p.setting v) k) (2 ^ 70) (λ v. refl) (λ v. refl) p.walk x.walk e l
      (λ b. record { falls = λ g i. lighter _ s (rw e (omega (arith, walk_few at_start))) (omega arith) })
      x.answer (protocol_step_moved (under p.setting t) p.walk []).moves
  stage_falls t (suc (suc n)) c p k h e =
      let x = step_of sections.categories (under k.setting t) k.walk l in
      walk_falls s h a_record.Category (λ v. walks (suc (suc n)) c p (begun k.setting v)) 0 (λ v. omega arith) (λ v. refl) k.walk x.walk e x.ledger
      (λ b. record { falls = λ g i. nearer _ s (rw (e, b)) (omega (arith, h)) })
      x.answer (section_step_moved sections.categories (under k.setting t) k.walk l).moves

  section_falls : (t : Tables) (x : SectionWalk) → place_left s.at ≡ 1 → s.section ≡ x → Falls s (on_section s (section_step t l x))
  section_falls t x = stage_falls t x.stage x.classes_at x.protocols_at x.categories_at

  at_falls : (t : Tables) (a : At) → s.at ≡ a → Falls s (step_at t s l a)
  unfolding step_at
  at_falls t place.Info e = onward_falls s l (asked t) _ (λ u. record { falls = λ g i. nearer _ s refl (omega (arith, ap place_left e)) })
  at_falls t place.Section e = section_falls t s.section (ap place_left e) refl
  at_falls t (place.Record x) e = record_falls s l (ap place_left e) (under s.setting t) x
  at_falls t (place.Ro c) e = ro_falls s l (ap place_left e) (guarded t (ro_of (under s.setting t) c))
  at_falls t (place.List n x) e = list_falls s l x.owner n t x.walk (ap place_left e)
  at_falls t place.End e = onward_falls s l (asked t) _ (λ u. record { falls = λ g i. never g })

-- A step after which the listing goes on leaves less, where what it counts up fits its words.
pub listing_falls : (t : Tables) (s : State) (l : List ℕ) → Falls s (listing_step t s l)
listing_falls t s l = at_falls s l t s.at refl

-- For a caller that has the step's answer as an equation.
pub falls_to : (t : Tables) (s : State) (l : List ℕ) (x : listing.Left) → x ≡ listing_step t s l → goes_on x.answer ≡ true → InWords x.state
    → remaining x.state < remaining s
falls_to t s l x e g h = (subst (Falls s) (sym e) (listing_falls t s l)).falls g h
