use Rattle.pointers.proofs.NearSlots.{rebase_found}
use Rattle.pointers.proofs.slot.rebase_at.Goals as goal

pub at-rebase-requires : goal.at-rebase-requires
at-rebase-requires c =
    let t = c.args.tables.now in
    rw c.rebases.ensures (rebase_found t.rebases t.index c.args.slot t.setting.lookup c.rebase_row.ensures c.in_ok-i.was)
