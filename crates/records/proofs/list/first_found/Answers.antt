use mathlib.Core.Path.{◌≡◌, ap}
use Rattle.reads.specs.Place.{Image}
use Rattle.records.proofs.Jumps as laws
use Rattle.records.proofs.list.first_found.Goals as goal

pub search-requires : goal.search-requires
search-requires c =
    let words : c.image.inside.segments.now ≡ c.args.image.now.words = ap (λ (m : Image). m.words) c.image.view_is in
    rw (c.search_budget-budget.ensures, words) (laws.ahead_few _ _ _)
