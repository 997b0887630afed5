use Rattle.reads.proofs.Numbers.{answer_at_room}
use Rattle.reads.proofs.relative.read_i32_le_at.Goals as goal

pub le-requires : goal.le-requires
le-requires c = answer_at_room c.readable_at.result _ _ _ _ c.readable_at.ensures c.in_ok-p.was
