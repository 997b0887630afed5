use Rattle.std.proofs.Common.{◌≡◌, ◌+◌, sym, ◌∙◌, arith}
use Rattle.std.proofs.lemmas.Result.{err_from_is_err_and}
use Rattle.fixups.proofs.Options.{some_of, none_of}
use Rattle.fixups.proofs.Names as laws
use Rattle.fixups.proofs.chain.Data.text_at.Goals as goal

pub returns-then-self-start : goal.returns-then-self-start
returns-then-self-start c = laws.past _ _ _ (omega arith)

-- `e`: where the text begins.
pub returns-in_err-n : goal.returns-in_err-n
returns-in_err-n c =
    let e : c.from.result + c.from-2.result ≡ c.args.self.fixups.symbols + c.args.offset = omega arith in
    let p = err_from_is_err_and c.from_residual.result c.from_residual.ensures.1 in
    let q = none_of _ c.first_zero.result c.in_err-n.field-0.0 (sym c.ok_or.ensures.value ∙ c.in_err-n.was) in
    rw (p.1, p.2, q.1) (laws.runs_out _ _ _ _ (rw e at c.first_zero.ensures) q.0)

pub returns : goal.returns
returns c =
    let e : c.from.result + c.from-2.result ≡ c.args.self.fixups.symbols + c.args.offset = omega arith in
    rw (e, c.from-3.ensures) (laws.ends _ _ _ _ (rw e at c.first_zero.ensures) _ (some_of _ c.first_zero.result _ (sym c.ok_or.ensures.value ∙ c.in_ok-n.was)))
