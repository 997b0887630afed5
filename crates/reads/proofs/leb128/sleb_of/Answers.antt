use Rattle.std.proofs.lemmas.Result.{err_from_is_err_and}
use Rattle.reads.specs.Leb128.{negative}
use Rattle.reads.proofs.LebLaws.{code_by_sign, sleb_fits, sleb_over, sleb_missing}
use Rattle.reads.proofs.leb128.sleb_of.Goals as goal

pub returns-then-m-ge9223372036854775808 : goal.returns-then-m-ge9223372036854775808
unfolding negative
returns-then-m-ge9223372036854775808 c = sleb_over _ _ c.magnitude.ensures _ c.in_ok-m.was c.if-m-ge9223372036854775808.true

pub returns : goal.returns
unfolding negative
returns c =
    rw (code_by_sign _ _ _ c.by_sign-value.ensures c.if-m-ge9223372036854775808.false)
    (sleb_fits _ _ c.magnitude.ensures _ c.in_ok-m.was
    c.if-m-ge9223372036854775808.false)

pub returns-in_err-m : goal.returns-in_err-m
unfolding negative
returns-in_err-m c =
    let p = err_from_is_err_and c.from_residual.result c.from_residual.ensures.1 in
    rw (p.1, p.2) (sleb_missing _ _ c.magnitude.ensures _ c.in_err-m.was)
