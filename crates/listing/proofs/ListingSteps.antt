-- A step of the listing, by where it stands and what the code finds there.
use Rattle.std.proofs.Common.{◌≡◌, ℕ, List, sym, ap, ◌∙◌}
use Rattle.reads.specs.Outcome.{Outcome}
use Rattle.pointers.specs.Question.{guarded}
use Rattle.pointers.specs.Tables.{Tables, under}
use Rattle.records.specs.Class.{ro_of}
use Rattle.records.specs.declared.class.ClassRo.{ClassRo}
use Rattle.records.specs.declared.class.ObjcClass.{ObjcClass}
use Rattle.listing.specs.Listing.{SectionWalk, SectionLeft, State, Left, step_in_stage, section_step, after_stage, after_section, by_ro, step_at, listing_step}
use Rattle.listing.specs.declared.at.At.{At}
use Rattle.listing.specs.declared.at.At.TheVariants as place

module _ (t : Tables) (s : State) (l : List ℕ) {x : Left} where
  pub step_at_lem : {a : At} → s.at ≡ a → x ≡ step_at t s l a → x ≡ listing_step t s l
  step_at_lem g e = e ∙ ap (step_at t s l) (sym g)

  pub step_ro : (c : ObjcClass) {o : Outcome ClassRo} → o ≡ guarded t (ro_of (under s.setting t) c) → x ≡ by_ro s l o → x ≡ step_at t s l (place.Ro c)
  unfolding step_at
  step_ro c g e = e ∙ ap (by_ro s l) g

-- A section's step, and what comes after its last record, by the stage.
module _ (t : Tables) (l : List ℕ) (x : SectionWalk) {y : SectionLeft} where
  pub step_stage : {n : ℕ} → x.stage ≡ n → y ≡ step_in_stage t l x n → y ≡ section_step t l x
  step_stage g e = e ∙ ap (step_in_stage t l x) (sym g)

module _ (s : State) (l : List ℕ) (x : SectionWalk) {y : Left} where
  pub after_stage_lem : {n : ℕ} → x.stage ≡ n → y ≡ after_stage s l x n → y ≡ after_section s l x
  after_stage_lem g e = e ∙ ap (after_stage s l x) (sym g)
