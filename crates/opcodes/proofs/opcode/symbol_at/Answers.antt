use Rattle.std.proofs.Common.{sym, ◌∙◌}
use Rattle.std.proofs.lemmas.Result.{err_from_is_err_and}
use Rattle.fixups.proofs.Options.{some_of, none_of}
use Rattle.opcodes.proofs.Decoding as laws
use Rattle.opcodes.proofs.opcode.symbol_at.Goals as goal

pub returns-in_err-n : goal.returns-in_err-n
returns-in_err-n c =
    let p = err_from_is_err_and c.from_residual.result c.from_residual.ensures.1 in
    let q = none_of _ c.first_zero.result c.in_err-n.field-0.0 (sym c.ok_or.ensures.value ∙ c.in_err-n.was) in
    rw (p.1, p.2, q.1) (laws.symbol_runs_out _ _ _ c.first_zero.ensures q.0)

pub returns : goal.returns
returns c = laws.symbol_ends _ _ _ c.first_zero.ensures _ (some_of _ c.first_zero.result _ (sym c.ok_or.ensures.value ∙ c.in_ok-n.was))
