-- What `used_ranges` gives over tables that opening accepted: the ranges that the listing uses, whatever the index beyond its own words holds;
-- and the same from every image for which the page is still good.
use Prim.Native.Nat.{ℕ}
use mathlib.Core.Path.{◌≡◌, sym, ap, ◌∙◌}
use mathlib.Core.List.{List}
use Rattle.pointers.specs.Open.{Opened}
use Rattle.pointers.specs.Tables.{Tables}
use Rattle.pointers.proofs.OpenedTables.{opened_asked}
use Rattle.walks.proofs.Gathers.{there_known}
use Rattle.ranges.specs.Written.{written, merged_into}
use Rattle.used.specs.StillGood.{StillGood}
use Rattle.used.specs.UsedBy.{used_by, ranges_used}
use Rattle.used.proofs.SameListings.{same_ranges}
use Rattle.usage.specs.UsedRanges.{used_into}
use Rattle.usage.proofs.PassUses.{pass_there, pass_same}

pub ranges_given : (t : Tables) → Opened t → (out : List ℕ) → used_into t out ≡ written (ranges_used t) out
unfolding used_into merged_into
ranges_given t o out = rw (opened_asked t o, (there_known (pass_there t o)).is) (ap (λ rs. written rs out) (pass_same t o))

pub same_given : (t u : Tables) → StillGood t u (used_by t) → (out : List ℕ) → used_into t out ≡ used_into u out
same_given t u g out = ranges_given t g.opened out ∙ ap (λ rs. written rs out) (same_ranges t u g) ∙ sym (ranges_given u g.opens out)
