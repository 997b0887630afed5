-- The records of a section, one after the other: each says its own lines, then those of its lists; then the next section comes.
use Rattle.std.proofs.Common.{◌≡◌, ℕ, suc, ◌+◌, ◌-◌, ◌%◌, ◌^◌, ◌<◌, ◌≤◌, List, [], ◌∷◌, ◌++◌, map, length, sym, refl, ap, ◌∙◌, subst, append_assoc, mod-eq_of_lt, arith, length-append}
use Rattle.reads.specs.Outcome.{Outcome, value, absent, refused, and_then}
use Rattle.reads.proofs.Outcomes.{then_came}
use Rattle.pointers.specs.Open.{Opened}
use Rattle.pointers.specs.Tables.{Tables}
use Rattle.pointers.proofs.OpenedTables.{opened_asked}
use Rattle.records.specs.Category.{category_class_name}
use Rattle.records.specs.Class.{ro_of, superclass_name}
use Rattle.records.specs.declared.category.ObjcCategory.{ObjcCategory}
use Rattle.records.specs.declared.class.ClassRo.{ClassRo}
use Rattle.records.specs.declared.class.ObjcClass.{ObjcClass}
use Rattle.records.specs.declared.protocol.ObjcProtocol.{ObjcProtocol}
use Rattle.walks.specs.Gather.{gather, of_value}
use Rattle.walks.specs.PlainSections as plain_sections
use Rattle.walks.specs.PlainSections.{Gives, passing, dropping, giving}
use Rattle.walks.specs.Sections as sections
use Rattle.walks.specs.Sections.{Walk, found, passed, dropped, finished}
use Rattle.walks.proofs.Gathers.{joined_parts, gather_parts}
use Rattle.listing.specs.PlainListing.{Field, ro_fields, name_or_none, class_line, category_line, own_lines, record_fields, fields_lines, lines_of, Event, field_events, record_events, events_from}
use Rattle.listing.specs.Listing.{owner_fields, enter, SectionWalk, State, state, leaves, says, lacks, section_leaves, on_section, section_step, step_at, listing_step}
use Rattle.listing.specs.ListingRun.{events_at}
use Rattle.listing.specs.declared.absence.Absence.TheVariants as absence
use Rattle.listing.specs.declared.at.At.TheVariants as place
use Rattle.listing.specs.declared.at.Owner.{Owner}
use Rattle.listing.specs.declared.at.Owner.TheVariants as an_owner
use Rattle.listing.specs.declared.at.Record.{Record}
use Rattle.listing.specs.declared.at.Record.TheVariants as a_record
use Rattle.listing.specs.declared.line.Line.{Line}
use Rattle.listing.specs.declared.line.Line.TheVariants as line
use Rattle.listing.proofs.FieldRests.{less, rest_fields}
use Rattle.listing.proofs.Rest.{Steps, silent, telling, saying}
use Rattle.std.specs.Prelude.{Option}
use Rattle.reads.specs.declared.text.Text.{Text}

-- A record after r others, with c entries settled before it.
module _ (t : Tables) (o : Opened t) (Over : State → List ℕ → Type 0) (sec : SectionWalk) (r c : ℕ) (l : List ℕ) (few : r + 1 < 2 ^ 64) where
  one_record : (r + 1) % 2 ^ 64 ≡ r + 1
  one_record = mod-eq_of_lt few

  class_said_lem : (k : ObjcClass) (name : Option Text) → name_or_none (superclass_name t k) ≡ value name
      → listing_step t (state t.setting (place.Record (a_record.Class k)) sec r c) l ≡ leaves (value (says (class_line k name))) (state t.setting (place.Ro k) sec (r + 1) c) l
  unfolding step_at
  class_said_lem k name e = rw (opened_asked t o, e, one_record)

  protocol_said_lem : (p : ObjcProtocol)
      → listing_step t (state t.setting (place.Record (a_record.Protocol p)) sec r c) l ≡ leaves (value (says (line.Protocol p))) (state t.setting (enter t.setting (an_owner.Protocol p) 0) sec (r + 1) c) l
  unfolding step_at
  protocol_said_lem p = rw (opened_asked t o, one_record)

  category_said_lem : (k : ObjcCategory) (name : Option Text) → name_or_none (category_class_name t k) ≡ value name
      → listing_step t (state t.setting (place.Record (a_record.Category k)) sec r c) l
      ≡ leaves (value (says (category_line k name))) (state t.setting (enter t.setting (an_owner.Category k) 0) sec (r + 1) c) l
  unfolding step_at
  category_said_lem k name e = rw (opened_asked t o, e, one_record)

  -- Its own lines, and then its lists, or the section goes on where it has none.
  module _ (ys : List Line) (es : List Event) (fs : List Field)
      (lists : (w : Owner) → owner_fields w ≡ fs → Steps t Over (state t.setting (enter t.setting w 0) sec (r + 1) c) l ys es)
      (none : fs ≡ [] → Steps t Over (state t.setting place.Section sec (r + 1) c) l ys es) where
    ro_comes : (k : ObjcClass) (v : Outcome ClassRo) → ro_of t k ≡ v → (ros : List Line) → of_value v (λ ro. value (line.Ro ro ∷ [])) ≡ value ros
        → of_value v (λ ro. value (ro_fields ro)) ≡ value fs → Steps t Over (state t.setting (place.Ro k) sec (r + 1) c) l (ros ++ ys) es
    unfolding step_at events_at
    ro_comes k (value ro) e ros a b =
        let said : listing_step t (state t.setting (place.Ro k) sec (r + 1) c) l ≡ leaves (value (says (line.Ro ro))) (state t.setting (enter t.setting (an_owner.Class ro) 0) sec (r + 1) c) l =
        rw (opened_asked t o, e) in
        let own : ros ≡ line.Ro ro ∷ [] = cc in
        let fields : ro_fields ro ≡ fs = cc in
        rw own (saying said refl (lists (an_owner.Class ro) fields))
    ro_comes k (absent why) e ros a b =
        let said : listing_step t (state t.setting (place.Ro k) sec (r + 1) c) l ≡ leaves (value (lacks (absence.Record why))) (state t.setting place.Section sec (r + 1) c) l = rw (opened_asked t o, e) in
        let own : ros ≡ [] = cc in
        let fields : fs ≡ [] = cc in
        rw own (telling said refl (none fields))
    ro_comes k (refused i) e ros a b = let z : ◌≡◌ {A = ℕ} 0 1 = cc in absurd (omega arith)

    own_comes : (x : Record) (own : List Line) → own_lines t x ≡ value own → record_fields t x ≡ value fs → Steps t Over (state t.setting (place.Record x) sec r c) l (own ++ ys) es
    unfolding own_lines record_fields events_at
    own_comes (a_record.Class k) own a b =
        let name = then_came (name_or_none (superclass_name t k)) _ own a in
        let parts = joined_parts (value (class_line k name.0 ∷ [])) (of_value (ro_of t k) (λ ro. value (line.Ro ro ∷ []))) name.2 in
        let mine : parts.first ≡ class_line k name.0 ∷ [] = let g = parts.of_first in cc in
        rw (parts.whole, mine) (saying (class_said_lem k name.0 name.1) refl (ro_comes k (ro_of t k) refl parts.second parts.of_second b))
    own_comes (a_record.Protocol p) own a b =
        let mine : own ≡ line.Protocol p ∷ [] = cc in
        let fields : owner_fields (an_owner.Protocol p) ≡ fs = cc in
        rw mine (saying (protocol_said_lem p) refl (lists (an_owner.Protocol p) fields))
    own_comes (a_record.Category k) own a b =
        let name = then_came (name_or_none (category_class_name t k)) _ own a in
        let mine : own ≡ category_line k name.0 ∷ [] = let g = name.2 in cc in
        let fields : owner_fields (an_owner.Category k) ≡ fs = cc in
        rw mine (saying (category_said_lem k name.0 name.1) refl (lists (an_owner.Category k) fields))

  -- The whole record, with c' entries settled after it.
  module _ (c' : ℕ) (below : c' < 2 ^ 128) (xs : List Line) (es : List Event) (later : Steps t Over (state t.setting place.Section sec (r + 1) c') l xs es) where
    lists_come : (fs : List Field) (ys : List Line) (gs : List Event) → fields_lines t 0 fs ≡ value ys → field_events t r 0 fs ≡ value gs → c' ≡ c + length gs
        → (w : Owner) → owner_fields w ≡ fs → Steps t Over (state t.setting (enter t.setting w 0) sec (r + 1) c) l (ys ++ xs) (gs ++ es)
    lists_come fs ys gs a b d w e =
        let back : r + 1 - 1 ≡ r = omega arith in
        rest_fields t o Over w sec (r + 1) l xs es c' below later fs 0 c e ys gs a (rw back b) d

    no_lists : (fs : List Field) (ys : List Line) (gs : List Event) → fields_lines t 0 fs ≡ value ys → field_events t r 0 fs ≡ value gs → c' ≡ c + length gs
        → fs ≡ [] → Steps t Over (state t.setting place.Section sec (r + 1) c) l (ys ++ xs) (gs ++ es)
    unfolding fields_lines field_events
    no_lists fs ys gs a b d e =
        let lines : value [] ≡ value ys = rw e at a in
        let events : value [] ≡ value gs = rw e at b in
        let none : ys ≡ [] = cc in
        let nothing : gs ≡ [] = cc in
        let count : length gs ≡ 0 = rw nothing in
        let same : c' ≡ c = omega arith in
        rw (none, nothing) (rw same at later)

    record_comes : (x : Record) (zs : List Line) (gs : List Event) → lines_of t x ≡ value zs → record_events t r x ≡ value gs → c' ≡ c + length gs
        → Steps t Over (state t.setting (place.Record x) sec r c) l (zs ++ xs) (gs ++ es)
    unfolding lines_of record_events
    record_comes x zs gs a b d =
        let parts = joined_parts (own_lines t x) (and_then (record_fields t x) (fields_lines t 0)) a in
        let lines = then_came (record_fields t x) (fields_lines t 0) parts.second parts.of_second in
        let events = then_came (record_fields t x) (field_events t r 0) gs b in
        let same : events.0 ≡ lines.0 = let g = lines.1 in let h = events.1 in cc in
        let settled : field_events t r 0 lines.0 ≡ value gs = ap (field_events t r 0) (sym same) ∙ events.2 in
        rw (parts.whole, append_assoc parts.first parts.second xs)
        (own_comes (parts.second ++ xs) (gs ++ es) lines.0
        (lists_come lines.0 parts.second gs lines.2 settled d)
        (no_lists lines.0 parts.second gs lines.2 settled d)
        x parts.first parts.of_first lines.1)

-- A section, of records f: its walk's steps, and the section walk that holds its walk. The walk's ledger is `led` of the listing's; `good`
-- holds of it all along.
module _ {A : Type 0} (t : Tables) (step : Walk → List ℕ → sections.Left A) (f : A → Record) (in_walk : Walk → SectionWalk) (led : List ℕ → List ℕ) (good : List ℕ → Type 0)
    (is : (w : Walk) (l : List ℕ) → good l → section_step t (led l) (in_walk w) ≡ section_leaves f in_walk (step w l).answer (step w l).walk (led (step w l).ledger)) where
  -- The listing's step, by the walk's.
  pub step_of_lem : (w v : Walk) (l m : List ℕ) (a : Outcome (sections.Step A)) → good l → step w l ≡ sections.leaves a v m → (r c : ℕ)
      → listing_step t (state t.setting place.Section (in_walk w) r c) (led l) ≡ on_section (state t.setting place.Section (in_walk w) r c) (section_leaves f in_walk a v (led m))
  unfolding step_at
  step_of_lem w v l m a g e r c =
      ap (on_section (state t.setting place.Section (in_walk w) r c))
      (is w l g ∙ ap (λ (x : sections.Left A). section_leaves f in_walk x.answer x.walk (led x.ledger)) e)

  module _ (o : Opened t) (Over : State → List ℕ → Type 0) (keeps : (w : Walk) (l : List ℕ) → good l → good (step w l).ledger)
      (xs : List Line) (es : List Event) (r' c' : ℕ) (few : r' < 2 ^ 64) (below : c' < 2 ^ 128)
      (later : (w : Walk) (l : List ℕ) → good l → step w l ≡ sections.leaves (value finished) w l → Steps t Over (state t.setting place.Section (in_walk w) r' c') (led l) xs es) where
    good_after : (w v : Walk) (l m : List ℕ) (a : Outcome (sections.Step A)) → good l → step w l ≡ sections.leaves a v m → good m
    good_after w v l m a g e = subst (λ (x : sections.Left A). good x.ledger) e (keeps w l g)

    pub section_comes : {n : ℕ} {w : Walk} {l : List ℕ} {rs : List A} → Gives step n w l rs → good l → (r c : ℕ) (zs : List Line) (gs : List Event)
        → gather (lines_of t) (map f rs) ≡ value zs → events_from t r (map f rs) ≡ value gs → r' ≡ r + length rs → c' ≡ c + length gs
        → Steps t Over (state t.setting place.Section (in_walk w) r c) (led l) (zs ++ xs) (gs ++ es)
    unfolding gather events_from events_at
    section_comes {w = w} {l = l} (plain_sections.ended e) g r c zs gs a b d h =
        let none : zs ≡ [] = cc in
        let nothing : gs ≡ [] = cc in
        let count : length gs ≡ 0 = rw nothing in
        let x : r' ≡ r = omega arith in
        let y : c' ≡ c = omega arith in
        rw (none, nothing, sym x, sym y) (later w l g e)
    section_comes {w = w} {l = l} (passing {v = v} {m = m} {r = why} e more) g r c zs gs a b d h =
        telling (step_of_lem w v l m (value (passed why)) g e r c) refl (section_comes more (good_after w v l m (value (passed why)) g e) r c zs gs a b d h)
    section_comes {w = w} {l = l} (dropping {v = v} {m = m} e more) g r c zs gs a b d h =
        silent (step_of_lem w v l m (value dropped) g e r c) refl (section_comes more (good_after w v l m (value dropped) g e) r c zs gs a b d h)
    section_comes {w = w} {l = l} (giving {v = v} {m = m} {a = x} {rs = rs} e more) g r c zs gs a b d h =
        let lines = gather_parts (lines_of t) (f x) (map f rs) a in
        let events = joined_parts (record_events t r (f x)) (events_from t (suc r) (map f rs)) b in
        let sum : length gs ≡ length events.first + length events.second = ap length events.whole ∙ length-append events.first events.second in
        let c₁ = c + length events.first in
        let u : c₁ ≤ c' = omega arith in
        let next : suc r ≡ r + 1 = omega arith in
        let rest : events_from t (r + 1) (map f rs) ≡ value events.second = ap (λ (i : ℕ). events_from t i (map f rs)) (sym next) ∙ events.of_second in
        rw (lines.whole, events.whole, append_assoc lines.first lines.second xs, append_assoc events.first events.second es)
        (silent (step_of_lem w v l m (value (found x)) g e r c) refl
        (record_comes t o Over (in_walk v) r c (led m) (omega arith) c₁ (less (2 ^ 128) c₁ c' u below) (lines.second ++ xs) (events.second ++ es)
        (section_comes more (good_after w v l m (value (found x)) g e) (r + 1) c₁ lines.second events.second lines.of_second rest (omega arith) (omega arith))
        (f x) lines.first events.first lines.of_first events.of_first refl))
