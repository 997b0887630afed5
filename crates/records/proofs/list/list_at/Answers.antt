use Rattle.records.specs.List.{decode_list}
use Rattle.records.proofs.list.list_at.Goals as goal

pub returns : goal.returns
unfolding decode_list
returns c =
    let n = c.in_ok-header.ensures.record in
    rw (← c.nonzero.ensures, c.in_ok-nonzero.was, ← c.list_address.ensures, c.in_ok-list_address.was) (rw (n.0, n.1) at c.layout_near.ensures)
