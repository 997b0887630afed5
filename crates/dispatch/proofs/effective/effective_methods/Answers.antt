use native.Mathlib.Omega.{arith}
use Rattle.std.proofs.Common.{rules}
use Rattle.std.proofs.lemmas.Result.{err_from_is_err_and}
use Rattle.dispatch.proofs.Answers.{call_refused, call_missing, call_class}
use Rattle.dispatch.proofs.effective.effective_methods.Goals as goal

pub returns-in_err-ask : goal.returns-in_err-ask
returns-in_err-ask c =
    let t = c.args.tables.now in
    search (rules, call_refused t c.args.side c.args.class c.args.res.now c.ask.result c.ask.ensures)

pub returns-in_err-c : goal.returns-in_err-c
returns-in_err-c c =
    let p = err_from_is_err_and c.from_residual-in_err-c.result c.from_residual-in_err-c.ensures.1 in
    rw (p.1, p.2) (call_missing _ _ _ _ c.ask.result c.ask.ensures (grind arith) c.class_at.result c.class_at.ensures _ c.in_err-c.was)

pub returns-in_err-effective_of : goal.returns-in_err-effective_of
returns-in_err-effective_of c =
    let p = err_from_is_err_and c.from_residual-in_err-effective_of.result c.from_residual-in_err-effective_of.ensures.1 in
    rw (p.1, p.2) (call_class _ _ _ _ c.ask.result c.ask.ensures (search rules) c.class_at.result c.class_at.ensures c.in_ok-c.was c.in_err-effective_of.ensures)

pub returns : goal.returns
returns c = call_class _ _ _ _ c.ask.result c.ask.ensures (search rules) c.class_at.result c.class_at.ensures c.in_ok-c.was c.in_ok-effective_of.ensures
