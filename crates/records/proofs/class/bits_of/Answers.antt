use mathlib.Core.Path.{refl}
use Rattle.records.specs.Class.{bits_of}
use Rattle.records.proofs.class.bits_of.Goals as goal

pub returns : goal.returns
unfolding bits_of
returns c = refl
