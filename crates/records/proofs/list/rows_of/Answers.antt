use Rattle.records.proofs.list.rows_of.Goals as goal

pub returns-in-Methods : goal.returns-in-Methods
returns-in-Methods c = rw (c.method_rows.ensures, c.in-Methods.is)
