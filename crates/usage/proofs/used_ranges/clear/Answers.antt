use mathlib.Core.Path.{refl}
use Rattle.usage.proofs.used_ranges.clear.Goals as goal

pub returns : goal.returns
returns c = refl
