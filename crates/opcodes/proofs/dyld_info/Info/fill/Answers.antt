use Rattle.std.proofs.Common.{rules, ◌^◌, ◌<◌, length, arith}
use Rattle.opcodes.specs.Tables.{part_in}
use Rattle.opcodes.proofs.Building as laws
use Rattle.opcodes.proofs.dyld_info.Info.fill.Goals as goal
use Rattle.std.proofs.lemmas.Result.{err_from_is_err_and}

-- `room`: the length of a slice is a word.
pub returns-then-binds-n : goal.returns-then-binds-n
returns-then-binds-n c =
    let room : length c.args.binds.now < 2 ^ 64 = omega arith in
    laws.is_6 c.args.binds.now (room) _ c.count_binds.result c.count_binds.ensures _ c.in_ok-n.was c.if-binds-n.true

pub returns : goal.returns
returns c =
    let room : length c.args.binds.now < 2 ^ 64 = omega arith in
    let same = c.streams_at.ensures.kept.table in
    let p = laws.is_filled c.args.binds.now (room) _ c.count_binds.result c.count_binds.ensures _ c.in_ok-n.was c.if-binds-n.false c.streams_at.result (part_in c.streams_at.new.binds) c.streams_at.ensures.told in
    search rules

pub returns-in_err-n : goal.returns-in_err-n
returns-in_err-n c =
    let room : length c.args.binds.now < 2 ^ 64 = omega arith in
    let p = err_from_is_err_and c.from_residual.result c.from_residual.ensures.1 in
    rw (p.1, p.2) (laws.refusing c.args.binds.now (room) _ c.count_binds.result c.count_binds.ensures _ c.in_err-n.was)
