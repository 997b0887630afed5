-- Worked cases of `used_ranges`: the ◆ image gives three ranges; a word past them is left; with eight words there is no room, and nothing is
-- written.
use mathlib.Core.Path.{◌≡◌, refl, ◌∙◌}
use mathlib.Core.List.{[], ◌∷◌}
use Rattle.reads.specs.Outcome.{value, refused, choose}
use Rattle.reads.specs.declared.answer.Question.TheVariants.{RangeRoom}
use Rattle.walks.proofs.HubRun.{hub, hub_opened}
use Rattle.ranges.specs.Range.{range_words}
use Rattle.ranges.specs.Written.{written, result}
use Rattle.used.proofs.HubUsed.{hub_ranges}
use Rattle.usage.specs.UsedRanges.{used_into}
use Rattle.usage.proofs.RangesGiven.{ranges_given}

pub hub_given : used_into hub (7 ∷ 7 ∷ 7 ∷ 7 ∷ 7 ∷ 7 ∷ 7 ∷ 7 ∷ 7 ∷ 7 ∷ []) ≡ result (value 3) (0 ∷ 0 ∷ 16 ∷ 0 ∷ 32 ∷ 20 ∷ 0 ∷ 56 ∷ 134 ∷ 7 ∷ [])
unfolding written range_words choose
hub_given = ranges_given hub hub_opened _ ∙ rw hub_ranges refl

pub hub_no_room : used_into hub (7 ∷ 7 ∷ 7 ∷ 7 ∷ 7 ∷ 7 ∷ 7 ∷ 7 ∷ []) ≡ result (refused RangeRoom) (7 ∷ 7 ∷ 7 ∷ 7 ∷ 7 ∷ 7 ∷ 7 ∷ 7 ∷ [])
unfolding written range_words choose
hub_no_room = ranges_given hub hub_opened _ ∙ rw hub_ranges refl
