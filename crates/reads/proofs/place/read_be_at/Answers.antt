use Rattle.reads.proofs.Numbers.{answer_at_room}
use Rattle.reads.proofs.place.read_be_at.Goals as goal

pub be-requires : goal.be-requires
be-requires g c =
    let e = rw c.BYTES.ensures at c.readable_at.ensures in
    answer_at_room c.readable_at.result _ _ _ _ e c.in_ok-p.was
