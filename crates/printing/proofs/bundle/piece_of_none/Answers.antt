use native.Mathlib.Omega.{arith}
use Rattle.reads.specs.Files.{files_lent, longest}
use Rattle.printing.proofs.bundle.piece_of_none.Goals as goal

pub fill-requires : goal.fill-requires
unfolding files_lent longest
fill-requires c = omega arith

pub returns : goal.returns
unfolding files_lent
returns c = record { piece = rw c.new.ensures at c.fill.ensures.piece; rest = rw c.new.ensures at c.fill.ensures.rest }
