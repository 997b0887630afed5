-- What is left of a listing: a number that each step leaves less of, until the listing has ended or a question refuses it. The weights
-- leave room for the parts below them: an address of a slot, a cursor and the lists of a record.
use Rattle.std.proofs.Common.{ℕ, zero, suc, ◌+◌, ◌-◌, ◌*◌, ◌^◌, ◌<◌, Bool, true, false, eqb, length}
use Rattle.reads.specs.Outcome.{Outcome, value, absent, refused, choose}
use Rattle.walks.specs.Sections.{Walk}
use Rattle.listing.specs.Listing.{owner_fields, SectionWalk, State, Answer, says, lacks, nothing, ended}
use Rattle.listing.specs.declared.at.At.{At}
use Rattle.listing.specs.declared.at.At.TheVariants as place
use Rattle.listing.specs.declared.at.FieldWalk.{FieldWalk}
use Rattle.listing.specs.declared.at.FieldWalk.TheVariants as field_walk

-- The slots that a section walk has not taken, and the address that waits.
unfoldable pub walk_left : Walk → ℕ
walk_left w = 2 * (2 ^ 64 - w.slot) + choose (eqb w.waiting 0) 0 1

abbrev pub stage_weight : SectionWalk → ℕ → ℕ
stage_weight x zero = 2 * 2 ^ 70 + walk_left x.classes_at.walk
stage_weight x (suc zero) = 2 ^ 70 + walk_left x.protocols_at.walk
stage_weight x (suc (suc n)) = walk_left x.categories_at.walk

abbrev pub section_weight : SectionWalk → ℕ
section_weight x = stage_weight x x.stage

-- The entries of a list from its cursor on, and the lists after it.
abbrev pub list_left : ℕ → ℕ → ℕ
list_left cursor later = 2 + (2 ^ 64 - cursor) + later * 2 ^ 65

abbrev pub cursor_in : FieldWalk → ℕ
cursor_in (field_walk.Rows w) = w.cursor
cursor_in (field_walk.Names w) = w.cursor

abbrev pub place_left : At → ℕ
place_left place.Info = 2
place_left place.Section = 1
place_left (place.Record x) = 2 ^ 71
place_left (place.Ro c) = 2 ^ 70
place_left (place.List n x) = list_left (cursor_in x.walk) (length (owner_fields x.owner) - suc n)
place_left place.End = 0

unfoldable pub remaining : State → ℕ
remaining s = section_weight s.section * 2 ^ 80 + place_left s.at

-- The listing goes on after a line, after an absence and after a step that says nothing.
abbrev pub goes_on : Outcome Answer → Bool
goes_on (value (says x)) = true
goes_on (value (lacks x)) = true
goes_on (value nothing) = true
goes_on (value ended) = false
goes_on (absent r) = false
goes_on (refused k) = false

-- The numbers that a state counts up fit their words.
abbrev pub slot_in : SectionWalk → ℕ → ℕ
slot_in x zero = x.classes_at.walk.slot
slot_in x (suc zero) = x.protocols_at.walk.slot
slot_in x (suc (suc n)) = x.categories_at.walk.slot

abbrev pub slot_of : SectionWalk → ℕ
slot_of x = slot_in x x.stage

abbrev pub cursor_of : At → ℕ
cursor_of place.Info = 0
cursor_of place.Section = 0
cursor_of (place.Record x) = 0
cursor_of (place.Ro c) = 0
cursor_of (place.List n x) = cursor_in x.walk
cursor_of place.End = 0

pub record InWords (s : State) : Type 0 where
  pub slot : slot_of s.section < 2 ^ 64
  pub cursor : cursor_of s.at < 2 ^ 64
