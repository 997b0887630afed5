use Rattle.std.proofs.Common.{true, arith, ap, sym, ◌∙◌}
use Rattle.reads.proofs.Passes.{good_character, bad_character}
use Rattle.reads.proofs.Texts.{scan_good, scan_broken}
use Rattle.reads.proofs.PlainBytes.{high, left_skipped, left_none, left_byte, plain_read, plain_behind}
use Rattle.reads.specs.Pass.{to_end, to_bad}
use Rattle.reads.proofs.text.pass_on.Goals as goal

pub loop-b-init : goal.loop-b-init
loop-b-init c = (c.requires.is, left_skipped (left_none true c.args.s.now) c.requires)

pub skip_few-b-requires : goal.skip_few-b-requires
skip_few-b-requires c =
    let b = c.loop-b.invariant in
    (plain_behind c.args.s.now b.0 (sym c.plain.ensures ∙ c.if-plain.true) b.1).within

pub loop-b-smaller-then-plain : goal.loop-b-smaller-then-plain
loop-b-smaller-then-plain c =
    let next = plain_read c.args.s.now c.loop-b.invariant.0 (sym c.plain.ensures ∙ c.if-plain.true) in
    let run = c.skip_few-b.ensures.run in
    omega (arith, next, run.ahead, run.within)

pub loop-b-preserved-then-plain : goal.loop-b-preserved-then-plain
loop-b-preserved-then-plain c =
    let b = c.loop-b.invariant in
    (c.skip_few-b.ensures.is, left_skipped (plain_behind c.args.s.now b.0 (sym c.plain.ensures ∙ c.if-plain.true) b.1) c.skip_few-b.ensures)

pub returns-then-b-eq0 : goal.returns-then-b-eq0
returns-then-b-eq0 c = let b = c.loop-b.invariant in to_end (scan_good b.1 b.0 c.if-b-eq0.true)

-- Past the tests the byte is neither zero nor ASCII.
pub loop-b-smaller : goal.loop-b-smaller
loop-b-smaller c =
    let b = c.loop-b.invariant in
    let h = high c.loop-b.b (sym c.plain.ensures ∙ c.if-plain.false) (omega arith) in
    let t = good_character b.1 b.0 h c.character.ensures c.in-Ok.is in
    omega (arith, t.ahead, t.on.within, ap (λ b. b.at) c.read_byte-b.ensures)

pub loop-b-preserved : goal.loop-b-preserved
loop-b-preserved c =
    let b = c.loop-b.invariant in
    let h = high c.loop-b.b (sym c.plain.ensures ∙ c.if-plain.false) (omega arith) in
    left_byte c.read_byte-b.ensures (good_character b.1 b.0 h c.character.ensures c.in-Ok.is).on

pub returns-in-Err : goal.returns-in-Err
returns-in-Err c =
    let b = c.loop-b.invariant in
    let h = high c.loop-b.b (sym c.plain.ensures ∙ c.if-plain.false) (omega arith) in
    let t = bad_character b.1 b.0 h c.character.ensures c.in-Err.is in
    to_bad t.bad.within t.is (scan_broken t.bad)
