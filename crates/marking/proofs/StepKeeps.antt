-- A step of the listing keeps the setting that the listing began with, and leaves as many words in the ledger as there were.
use Prim.Native.Nat.{ℕ, zero, suc}
use mathlib.Core.Path.{◌≡◌, refl}
use mathlib.Core.List.{List, []}
use lib.ListN.{length}
use Rattle.reads.specs.Outcome.{Outcome, value, absent, refused}
use Rattle.pointers.specs.Question.{asked, guarded}
use Rattle.pointers.specs.Tables.{Tables, under}
use Rattle.records.specs.Category.{category_class_name}
use Rattle.records.specs.Class.{ro_of, superclass_name}
use Rattle.records.specs.declared.class.ClassRo.{ClassRo}
use Rattle.walks.specs.ProtocolNames.{ReachedName, name_reached, name_passed, names_finished, next_name}
use Rattle.walks.specs.Sections as sections
use Rattle.walks.specs.Sections.{Step, found, passed, dropped, finished, step_of, protocol_step_of}
use Rattle.walks.specs.Walk.{ReachedRow, row_reached, row_skipped, rows_finished, next_of}
use Rattle.walks.specs.declared.list_walk.ListWalk.{ListWalk}
use Rattle.walks.specs.declared.protocol_names.ProtocolNameWalk.{ProtocolNameWalk}
use Rattle.walks.proofs.Moves.{step_keeps_length}
use Rattle.listing.specs.PlainListing.{name_or_none}
use Rattle.listing.specs.Listing.{Begun, begun, SectionWalk, walks, State, Left, onward, as_record, section_step, after_section, by_section, on_section, record_step, by_ro, by_row, by_name, list_step, step_at, listing_step}
use Rattle.listing.specs.declared.at.At.{At}
use Rattle.listing.specs.declared.at.At.TheVariants as place
use Rattle.listing.specs.declared.at.FieldWalk.{FieldWalk}
use Rattle.listing.specs.declared.at.FieldWalk.TheVariants as field_walk
use Rattle.listing.specs.declared.at.Owner.{Owner}
use Rattle.listing.specs.declared.at.Record.{Record}
use Rattle.listing.specs.declared.at.Record.TheVariants as a_record

pub record Keeps (s : State) (l : List ℕ) (x : Left) : Type 0 where
  pub setting : x.state.setting ≡ s.setting
  pub room : length x.ledger ≡ length l

module _ (s : State) (l : List ℕ) where
  onward_keeps : {A : Type 0} (m : List ℕ) → length m ≡ length l → (o : Outcome A) (go : A → Left) → ((a : A) → Keeps s l (go a)) → Keeps s l (onward s m o go)
  onward_keeps m e (value a) go f = f a
  onward_keeps m e (absent r) go f = record { setting = refl; room = e }
  onward_keeps m e (refused k) go f = record { setting = refl; room = e }

  record_keeps : (t : Tables) (x : Record) → Keeps s l (record_step t s l x)
  record_keeps t (a_record.Class c) = onward_keeps l refl (name_or_none (guarded t (superclass_name t c))) _ (λ name. record { setting = refl; room = refl })
  record_keeps t (a_record.Protocol p) = onward_keeps l refl (asked t) _ (λ u. record { setting = refl; room = refl })
  record_keeps t (a_record.Category c) = onward_keeps l refl (name_or_none (guarded t (category_class_name t c))) _ (λ name. record { setting = refl; room = refl })

  ro_keeps : (o : Outcome ClassRo) → Keeps s l (by_ro s l o)
  ro_keeps (value r) = record { setting = refl; room = refl }
  ro_keeps (absent r) = record { setting = refl; room = refl }
  ro_keeps (refused k) = record { setting = refl; room = refl }

  module _ (o : Owner) (n : ℕ) where
    row_keeps : (w : ListWalk) (x : Outcome ReachedRow) → Keeps s l (by_row s l o n w x)
    row_keeps w (value (row_reached r)) = record { setting = refl; room = refl }
    row_keeps w (value (row_skipped j r)) = record { setting = refl; room = refl }
    row_keeps w (value rows_finished) = record { setting = refl; room = refl }
    row_keeps w (absent r) = record { setting = refl; room = refl }
    row_keeps w (refused k) = record { setting = refl; room = refl }

    name_keeps : (i : ℕ) (w : ProtocolNameWalk) (x : Outcome ReachedName) → Keeps s l (by_name s l o n i w x)
    name_keeps i w (value (name_reached name)) = record { setting = refl; room = refl }
    name_keeps i w (value (name_passed r)) = record { setting = refl; room = refl }
    name_keeps i w (value names_finished) = record { setting = refl; room = refl }
    name_keeps i w (absent r) = record { setting = refl; room = refl }
    name_keeps i w (refused k) = record { setting = refl; room = refl }

    list_keeps : (t : Tables) (x : FieldWalk) → Keeps s l (list_step t s l o n x)
    list_keeps t (field_walk.Rows w) = let x = next_of t w in row_keeps x.walk x.answer
    list_keeps t (field_walk.Names w) = let x = next_name t w in name_keeps w.cursor x.walk x.answer

  module _ (m : List ℕ) (e : length m ≡ length l) where
    after_keeps : (x : SectionWalk) → Keeps s l (after_section s m x)
    after_keeps x = go x.stage x.classes_at x.protocols_at x.categories_at
      where
        go : (n : ℕ) (c p k : Begun) → Keeps s l (after_section s m (walks n c p k))
        go zero c p k = record { setting = refl; room = e }
        go (suc zero) c p k = record { setting = refl; room = e }
        go (suc (suc n)) c p k = record { setting = refl; room = e }

    section_keeps : {A : Type 0} (f : A → Record) (x : SectionWalk) (o : Outcome (Step A)) → Keeps s l (onward s m (as_record f o) (by_section s m x))
    section_keeps f x (value (found a)) = record { setting = refl; room = e }
    section_keeps f x (value (passed r)) = record { setting = refl; room = e }
    section_keeps f x (value dropped) = record { setting = refl; room = e }
    section_keeps f x (value finished) = after_keeps x
    section_keeps f x (absent r) = record { setting = refl; room = e }
    section_keeps f x (refused k) = record { setting = refl; room = e }

  walk_keeps : (t : Tables) (x : SectionWalk) → Keeps s l (on_section s (section_step t l x))
  walk_keeps t x = go x.stage x.classes_at x.protocols_at x.categories_at
    where
      go : (n : ℕ) (c p k : Begun) → Keeps s l (on_section s (section_step t l (walks n c p k)))
      go zero c p k =
          let x = step_of sections.classes (under c.setting t) c.walk l in
          section_keeps x.ledger (step_keeps_length sections.classes (under c.setting t) c.walk l) a_record.Class (walks 0 (begun c.setting x.walk) p k) x.answer
      go (suc zero) c p k =
          let x = protocol_step_of (under p.setting t) p.walk [] in
          section_keeps l refl a_record.Protocol (walks 1 c (begun p.setting x.walk) k) x.answer
      go (suc (suc n)) c p k =
          let x = step_of sections.categories (under k.setting t) k.walk l in
          section_keeps x.ledger (step_keeps_length sections.categories (under k.setting t) k.walk l) a_record.Category (walks (suc (suc n)) c p (begun k.setting x.walk)) x.answer

  at_keeps : (t : Tables) (a : At) → Keeps s l (step_at t s l a)
  unfolding step_at
  at_keeps t place.Info = onward_keeps l refl (asked t) _ (λ u. record { setting = refl; room = refl })
  at_keeps t place.Section = walk_keeps t s.section
  at_keeps t (place.Record x) = record_keeps (under s.setting t) x
  at_keeps t (place.Ro c) = ro_keeps (guarded t (ro_of (under s.setting t) c))
  at_keeps t (place.List n x) = list_keeps x.owner n t x.walk
  at_keeps t place.End = onward_keeps l refl (asked t) _ (λ u. record { setting = refl; room = refl })

pub step_keeps : (t : Tables) (s : State) (l : List ℕ) → Keeps s l (listing_step t s l)
step_keeps t s l = at_keeps s l t s.at
