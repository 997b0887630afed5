use Rattle.opcodes.specs.Tables.{part_in}
use Rattle.opcodes.proofs.Building.{count_there, count_not}
use Rattle.opcodes.proofs.dyld_info.Info.count_binds.Goals as goal
use Rattle.std.proofs.lemmas.Result.{err_from_is_err_and}

pub returns : goal.returns
returns c = count_there _ c.streams_at.result (part_in c.streams_at.new.binds) c.streams_at.ensures.told c.in_ok-streams_at.was c.streams_at.ensures.kept.words

pub returns-in_err-streams_at : goal.returns-in_err-streams_at
returns-in_err-streams_at c =
    let p = err_from_is_err_and c.from_residual.result c.from_residual.ensures.1 in
    rw (p.1, p.2) (count_not _ c.streams_at.result (part_in c.streams_at.new.binds) c.streams_at.ensures.told _ c.in_err-streams_at.was)
