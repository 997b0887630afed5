use Rattle.fixups.specs.Tables.{state_in}
use Rattle.fixups.proofs.Building.{counted, uncounted}
use Rattle.fixups.proofs.chain.Data.count_records.Goals as goal
use Rattle.std.proofs.lemmas.Result.{err_from_is_err_and}

pub returns : goal.returns
returns c = counted _ c.image_starts.result (state_in c.image_starts.new.lists) c.image_starts.ensures.told c.in_ok-image_starts.was c.image_starts.ensures.kept.rebases.words c.image_starts.ensures.kept.binds.words

pub returns-in_err-image_starts : goal.returns-in_err-image_starts
returns-in_err-image_starts c =
    let p = err_from_is_err_and c.from_residual.result c.from_residual.ensures.1 in
    rw (p.1, p.2) (uncounted _ c.image_starts.result (state_in c.image_starts.new.lists) c.image_starts.ensures.told _ c.in_err-image_starts.was)
