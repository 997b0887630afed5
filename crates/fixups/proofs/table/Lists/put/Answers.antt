use Rattle.fixups.proofs.Visits.{put_rebase_is, put_bind_is}
use Rattle.fixups.proofs.table.Lists.put.Goals as goal

pub returns-in-Rebase-clause-put : goal.returns-in-Rebase-clause-put
returns-in-Rebase-clause-put c = put_rebase_is _ _ _ _ _ c.in-Rebase.is c.put_rebase-self.ensures

pub returns-in-Bind-clause-put : goal.returns-in-Bind-clause-put
returns-in-Bind-clause-put c = put_bind_is _ _ _ _ _ c.in-Bind.is c.put_bind-self.ensures
