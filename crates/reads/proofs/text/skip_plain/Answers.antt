use Rattle.std.proofs.Common.{rules, arith, sym, ◌∙◌}
use Rattle.reads.proofs.PlainBytes.{eight_skipped, eight_at, eight_read, eight_on, eight_ahead}
use Rattle.reads.proofs.text.skip_plain.Goals as goal

pub overflow_add-result : goal.overflow_add-result
overflow_add-result c =
    let h = eight_at c.args.s.now c.loop-read.read (omega arith) c.args.from c.loop-read.invariant c.of_eight-b.ensures in
    search rules

pub overflow_add-result-then-not-plain : goal.overflow_add-result-then-not-plain
overflow_add-result-then-not-plain c =
    let h = eight_read c.args.s.now c.loop-read.read (omega arith) c.args.from c.loop-read.invariant c.of_eight-b.ensures in
    search rules

pub returns-then-not-plain : goal.returns-then-not-plain
returns-then-not-plain c =
    eight_skipped c.args.s.now c.loop-read.read (omega arith) c.args.from c.loop-read.invariant c.of_eight-b.ensures

pub overflow_add-read-in-loop-read : goal.overflow_add-read-in-loop-read
overflow_add-read-in-loop-read c =
    let h = eight_read c.args.s.now c.loop-read.read (omega arith) c.args.from c.loop-read.invariant c.of_eight-b.ensures in
    search rules

pub loop-read-smaller : goal.loop-read-smaller
loop-read-smaller c =
    let h = eight_read c.args.s.now c.loop-read.read (omega arith) c.args.from c.loop-read.invariant c.of_eight-b.ensures in
    let a = eight_ahead c.args.s.now c.loop-read.read (omega arith) c.args.from c.loop-read.invariant c.of_eight-b.ensures
    (sym c.plain.ensures ∙ c.if-not-plain.false) in
    omega (arith, h, a)

pub loop-read-preserved : goal.loop-read-preserved
loop-read-preserved c =
    eight_on c.args.s.now c.loop-read.read (omega arith) c.args.from c.loop-read.invariant c.of_eight-b.ensures
    (sym c.plain.ensures ∙ c.if-not-plain.false)
