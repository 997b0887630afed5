use Rattle.pointers.proofs.Chains.{found_row}
use Rattle.pointers.proofs.slot.bind_at.Goals as goal

pub bind_name-requires : goal.bind_name-requires
bind_name-requires c = rw (c.binds.ensures.table.0, c.binds.ensures.table.1) at (found_row _ _ _ _ _ _ c.find.ensures c.in_ok-i.was)
