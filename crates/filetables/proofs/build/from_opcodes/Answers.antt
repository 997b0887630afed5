use Rattle.reads.specs.Outcome.{refused}
use Rattle.std.proofs.lemmas.Result.{err_from_is_err_and}
use Rattle.filetables.proofs.Records as laws
use Rattle.filetables.proofs.build.from_opcodes.Goals as goal

pub returns : goal.returns
returns c = let a = c.args in laws.from_opcodes a.rebases.now a.binds.now _ _ _ (rw c.in_ok-n.was at c.bind_table.ensures)

pub returns-in_err-n : goal.returns-in_err-n
returns-in_err-n c =
    let a = c.args in
    let p = err_from_is_err_and c.from_residual.result c.from_residual.ensures.1 in
    rw (p.1, p.2) (laws.from_opcodes a.rebases.now a.binds.now _ (refused c.in_err-n.field-0.0) _ (rw c.in_err-n.was at c.bind_table.ensures))
