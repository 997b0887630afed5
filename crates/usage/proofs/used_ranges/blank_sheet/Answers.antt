use mathlib.Core.Path.{refl}
use Rattle.usage.proofs.used_ranges.blank_sheet.Goals as goal

pub returns : goal.returns
returns c = refl
