use Rattle.printing.proofs.pieces.Progress.new.Goals as goal

pub returns : goal.returns
returns c = c.under.ensures
