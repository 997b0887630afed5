use Rattle.printing.proofs.pieces.Progress.under.Goals as goal

pub returns : goal.returns
returns c = rw (← c.under.ensures) c.starting.ensures
