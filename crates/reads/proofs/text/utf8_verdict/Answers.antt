use Rattle.std.proofs.Common.{[], sym, ap, ◌∙◌, arith, drop_of_length-le}
use Rattle.reads.specs.Utf8.{judge}
use Rattle.reads.proofs.Passes.{left_ascii, good_character, bad_character, read_there}
use Rattle.reads.proofs.text.utf8_verdict.Goals as goal

pub loop-read-smaller-then-b-lt128 : goal.loop-read-smaller-then-b-lt128
loop-read-smaller-then-b-lt128 c =
    let n = ap (λ b. b.read) c.read_byte-b.ensures ∙ read_there c.args.s.now c.loop-read.read c.loop-read-test.true in
    omega (arith, n)

pub loop-read-preserved-then-b-lt128 : goal.loop-read-preserved-then-b-lt128
loop-read-preserved-then-b-lt128 c = left_ascii c.loop-read.invariant c.read_byte-b.ensures c.loop-read-test.true tt c.if-b-lt128.true

-- Behind the tests stands a character of more than one byte.
pub returns-in-Err : goal.returns-in-Err
returns-in-Err c =
    (bad_character c.loop-read.invariant c.read_byte-b.ensures c.if-b-lt128.false c.character_apart.ensures c.in-Err.is).bad.judged

pub loop-read-smaller : goal.loop-read-smaller
loop-read-smaller c =
    let t = good_character c.loop-read.invariant c.read_byte-b.ensures c.if-b-lt128.false c.character_apart.ensures c.in-Ok.is in
    omega (arith, t.ahead, t.on.within)

pub loop-read-preserved : goal.loop-read-preserved
loop-read-preserved c =
    (good_character c.loop-read.invariant c.read_byte-b.ensures c.if-b-lt128.false c.character_apart.ensures c.in-Ok.is).on

pub returns : goal.returns
unfolding judge
returns c = ap (judge c.loop-read.read []) (sym (drop_of_length-le c.args.s.now c.loop-read-test.false)) ∙ c.loop-read.invariant.judged
