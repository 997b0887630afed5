use Rattle.std.proofs.lemmas.Result.{err_from_is_err_and}
use mathlib.Core.Path.{◌≡◌}
use native.Mathlib.Omega.{arith}
use lib.ListN.{length}
use Rattle.encodings.proofs.Reached.{reached_types, reached_ordered, reached_missing, reached_end, reached_end_missing}
use Rattle.encodings.proofs.reading.read_types.Goals as goal

pub returns-in_err-step : goal.returns-in_err-step
returns-in_err-step c =
    let p = err_from_is_err_and c.from_residual.result c.from_residual.ensures.1 in
    let e = c.in_err-step in
    rw (p.1, p.2) (reached_missing c.loop-i.invariant c.loop-i-test.true e.field-0.0 e.ensures)

pub put_row-requires : goal.put_row-requires
put_row-requires c = reached_ordered c.loop-i.invariant

pub overflow_add-types : goal.overflow_add-types
overflow_add-types c = omega (arith, reached_types c.loop-i.invariant, c.loop-i.invariant.within)

pub returns-in_err-finish : goal.returns-in_err-finish
returns-in_err-finish c =
    let p = err_from_is_err_and c.from_residual-in_err-finish.result c.from_residual-in_err-finish.ensures.1 in
    let e = c.in_err-finish in
    rw (p.1, p.2) (reached_end_missing c.loop-i.invariant c.loop-i-test.false e.field-0.0 e.ensures)

pub put_row-requires-2 : goal.put_row-requires-2
put_row-requires-2 c =
    let l = c.loop-i in
    let all : length c.args.text.now ≡ l.i = omega (arith, l.invariant.within) in
    rw all (reached_ordered l.invariant)

pub overflow_add-result : goal.overflow_add-result
overflow_add-result c = omega (arith, reached_types c.loop-i.invariant, c.loop-i.invariant.within)

pub returns : goal.returns
returns c =
    let l = c.loop-i in
    let all : length c.args.text.now ≡ l.i = omega (arith, l.invariant.within) in
    reached_end l.invariant c.loop-i-test.false c.in_ok-finish.ensures (rw all at c.put_row-2.ensures)
