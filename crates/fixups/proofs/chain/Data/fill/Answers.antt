use Rattle.std.proofs.Common.{rules, ◌^◌, ◌<◌, length, arith}
use Rattle.fixups.specs.Tables.{state_in}
use Rattle.fixups.proofs.Building as laws
use Rattle.fixups.proofs.chain.Data.fill.Goals as goal
use Rattle.std.proofs.lemmas.Result.{err_from_is_err_and}

pub returns-then-rebases-r : goal.returns-then-rebases-r
returns-then-rebases-r c =
    let a = c.args in
    laws.is_5 a.rebases.now a.binds.now (omega arith) (omega arith) _ c.count_records.result c.count_records.ensures _ c.in_ok-r.was c.if-rebases-r.true

pub returns-then-binds-b : goal.returns-then-binds-b
returns-then-binds-b c =
    let a = c.args in
    laws.is_6 a.rebases.now a.binds.now (omega arith) (omega arith) _ c.count_records.result c.count_records.ensures _ c.in_ok-r.was c.if-rebases-r.false c.if-binds-b.true

-- `room-rebases`: the length of a slice is a word.
pub returns : goal.returns
returns c =
    let room-rebases : length c.args.rebases.now < 2 ^ 64 = omega arith in
    let room-binds : length c.args.binds.now < 2 ^ 64 = omega arith in
    let a = c.args in
    let same-rebases = c.image_starts.ensures.kept.rebases.table in
    let same-binds = c.image_starts.ensures.kept.binds.table in
    let p = laws.is_filled a.rebases.now a.binds.now (room-rebases) (room-binds) _ c.count_records.result c.count_records.ensures _ c.in_ok-r.was c.if-rebases-r.false c.if-binds-b.false
    c.image_starts.result (state_in c.image_starts.new.lists) c.image_starts.ensures.told in
    search rules

pub returns-in_err-r : goal.returns-in_err-r
returns-in_err-r c =
    let a = c.args in
    let p = err_from_is_err_and c.from_residual.result c.from_residual.ensures.1 in
    rw (p.1, p.2) (laws.refusing a.rebases.now a.binds.now (omega arith) (omega arith) _ c.count_records.result c.count_records.ensures _ c.in_err-r.was)
