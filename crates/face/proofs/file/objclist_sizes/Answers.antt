use mathlib.Core.Path.{refl}
use Rattle.face.specs.File.{sizes_of}
use Rattle.face.proofs.file.objclist_sizes.Goals as goal

pub returns : goal.returns
unfolding sizes_of
returns c = refl
