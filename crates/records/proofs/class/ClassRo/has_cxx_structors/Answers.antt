use Rattle.pointers.proofs.Flags.{bit_by}
use Rattle.records.proofs.class.ClassRo.has_cxx_structors.Goals as goal

pub returns : goal.returns
returns c = bit_by 2 _
