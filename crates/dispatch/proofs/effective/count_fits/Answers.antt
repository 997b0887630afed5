use Rattle.dispatch.proofs.Scans.{fit_by_all, fit_by_least}
use Rattle.dispatch.proofs.effective.count_fits.Goals as goal

pub returns-then-room-n : goal.returns-then-room-n
returns-then-room-n c = fit_by_least _ _ _ c.count_few.ensures c.in-AtLeast.is c.if-room-n.true

pub returns-in-All : goal.returns-in-All
returns-in-All c = fit_by_all _ _ _ c.count_few.ensures c.in-All.is
