use mathlib.Core.Path.{refl}
use lib.ListN.{length}
use Prim.Native.Nat.{◌<◌, ◌^◌}
use native.Mathlib.Omega.{arith}
use Rattle.std.specs.Prelude.{Ok, Err}
use Rattle.std.proofs.lemmas.Result.{err_from_is_err_and}
use Rattle.ranges.specs.Written.{merged_into}
use Rattle.ranges.proofs.WrittenLaws.{written_none, written_all}
use Rattle.usage.specs.UsedRanges.{used_into}
use Rattle.usage.proofs.used_ranges.used_ranges.Goals as goal

pub returns-in_err-ask : goal.returns-in_err-ask
unfolding used_into
returns-in_err-ask c =
    let p = err_from_is_err_and c.from_residual.result c.from_residual.ensures.1 in
    rw (p.1, p.2, ← c.in_err-ask.ensures) refl

pub returns-in_err-note_pass : goal.returns-in_err-note_pass
unfolding used_into
returns-in_err-note_pass c =
    let p = err_from_is_err_and c.from_residual-in_err-note_pass.result c.from_residual-in_err-note_pass.ensures.1 in
    rw (p.1, p.2, ← c.in_ok-ask.ensures, ← c.in_err-note_pass.ensures.asked) refl

pub returns-in_err-count : goal.returns-in_err-count
unfolding used_into merged_into
returns-in_err-count c =
    let out = c.args.out.now in
    let long : length out < 2 ^ 64 = omega arith in
    let p = err_from_is_err_and c.from_residual-in_err-count.result c.from_residual-in_err-count.ensures.1 in
    rw (p.1, p.2, ← c.in_ok-ask.ensures, ← c.in_ok-note_pass.ensures.asked)
    (written_none _ out _ _ _ c.sweep-count.ensures long (Err c.in_err-count.field-0.0) c.in_err-count.field-0.0 c.in_err-count.ensures refl)

pub returns : goal.returns
unfolding used_into merged_into
returns c =
    let out = c.args.out.now in
    let long : length out < 2 ^ 64 = omega arith in
    let n = c.in_ok-count.count in
    rw (← c.in_ok-ask.ensures, ← c.in_ok-note_pass.ensures.asked)
    (written_all _ out _ _ _ c.sweep-count.ensures long (Ok n) n _ _ c.in_ok-count.ensures refl c.sweep.ensures)
