use Rattle.pointers.proofs.Flags.{bit_by}
use Rattle.records.proofs.class.ClassRo.is_root.Goals as goal

pub returns : goal.returns
returns c = bit_by 1 _
