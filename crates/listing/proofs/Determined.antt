-- A listing of the code is determined by its state in the words of the definitions: what a step hands back is one listing.
use Rattle.std.proofs.Common.{◌≡◌, ℕ, zero, suc, refl, sym, ap, ◌∙◌}
use Rattle.walks.specs.Sections.{Walk}
use Rattle.walks.specs.Slots.{slot_walk}
use Rattle.walks.specs.declared.slots.SlotWalk.{SlotWalk}
use Rattle.pointers.specs.declared.setting.Setting.{Setting}
use Rattle.walks.specs.declared.section_slots.CategorySlots.{CategorySlots}
use Rattle.walks.specs.declared.section_slots.ClassSlots.{ClassSlots}
use Rattle.walks.specs.declared.section_slots.ProtocolSlots.{ProtocolSlots}
use Rattle.walks.specs.declared.sections.RecordWalk.{RecordWalk}
use Rattle.listing.specs.Listing.{Begun, SectionWalk, State}
use Rattle.listing.specs.ListingAnswer.{stage_number, section_walk_of, state_of}
use Rattle.listing.specs.declared.at.At.{At}
use Rattle.listing.specs.declared.listing.Listing.{Listing}
use Rattle.listing.specs.declared.section.Section.{Section}
use Rattle.listing.specs.declared.section.Stage.{Stage}
use Rattle.listing.specs.declared.section.Stage.TheVariants as a_stage

-- Each walk, back from its state.
abbrev slots_back : Walk → SlotWalk
slots_back w = slot_walk w.slot w.used w.highest

abbrev class_back : Begun → RecordWalk ClassSlots
class_back b = record { slots = record { slots = slots_back b.walk; meta = b.walk.waiting }; setting = b.setting }

abbrev protocol_back : Begun → RecordWalk ProtocolSlots
protocol_back b = record { slots = record { slot = b.walk.slot }; setting = b.setting }

abbrev category_back : Begun → RecordWalk CategorySlots
category_back b = record { slots = record { slots = slots_back b.walk }; setting = b.setting }

abbrev stage_back : ℕ → Stage
stage_back zero = a_stage.Classes
stage_back (suc zero) = a_stage.Protocols
stage_back (suc (suc n)) = a_stage.Categories

stage_same : (a : Stage) → stage_back (stage_number a) ≡ a
stage_same a_stage.Classes = refl
stage_same a_stage.Protocols = refl
stage_same a_stage.Categories = refl

abbrev section_back : SectionWalk → Section
section_back x =
    record { stage = stage_back x.stage; classes = class_back x.classes_at; protocols = protocol_back x.protocols_at; categories = category_back x.categories_at }

abbrev at_stage_of : Section → Stage → Section
at_stage_of x a = record { stage = a; classes = x.classes; protocols = x.protocols; categories = x.categories }

back_same : (x : Section) → section_back (section_walk_of x) ≡ x
back_same x =
    ap (at_stage_of x) (stage_same x.stage)

section_same : (x y : Section) → section_walk_of x ≡ section_walk_of y → x ≡ y
section_same x y e = sym (back_same x) ∙ ap section_back e ∙ back_same y

abbrev listing_of : Setting → At → Section → ℕ → ℕ → Listing
listing_of u place section records settled = record { setting = u; at = place; section = section; records = records; settled = settled }

listing_same : {v w : Setting} {a b : At} {x y : Section} {i j h k : ℕ} → v ≡ w → a ≡ b → x ≡ y → i ≡ j → h ≡ k
    → listing_of v a x i h ≡ listing_of w b y j k
listing_same o p q r s = cc

pub state_determines : (r s : Listing) → state_of r ≡ state_of s → r ≡ s
state_determines r s e =
    let under : r.setting ≡ s.setting = ap (λ (x : State). x.setting) e in
    let place : r.at ≡ s.at = ap (λ (x : State). x.at) e in
    let walk = section_same r.section s.section (ap (λ (x : State). x.section) e) in
    let records : r.records ≡ s.records = ap (λ (x : State). x.records) e in
    listing_same under place walk records (ap (λ (x : State). x.settled) e)
