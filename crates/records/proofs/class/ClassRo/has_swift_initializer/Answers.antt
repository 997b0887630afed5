use Rattle.pointers.proofs.Flags.{bit_by}
use Rattle.records.proofs.class.ClassRo.has_swift_initializer.Goals as goal

pub returns : goal.returns
returns c = bit_by 6 _
