use mathlib.Core.Path.{refl}
use Rattle.records.specs.Class.{fast_flags}
use Rattle.records.proofs.class.ObjcClass.fast_flags.Goals as goal

pub returns : goal.returns
unfolding fast_flags
returns c = refl
