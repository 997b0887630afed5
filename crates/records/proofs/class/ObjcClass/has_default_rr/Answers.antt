use Rattle.pointers.proofs.Flags.{bit_by}
use Rattle.records.proofs.class.ObjcClass.has_default_rr.Goals as goal

pub returns : goal.returns
returns c = bit_by 2 _
