use mathlib.Core.Path.{sym, ◌∙◌}
use Rattle.records.proofs.Jumps as laws
use Rattle.reads.proofs.LeastAbove.{next_break_above}
use native.Mathlib.Omega.{arith}
use borrow.Author.Rules.{rules}
use Rattle.records.proofs.list.try_at.Goals as goal

pub returns-then-count-i : goal.returns-then-count-i
returns-then-count-i c = laws.search_past _ _ _ (search rules)

pub overflow_mul-way : goal.overflow_mul-way
overflow_mul-way c = omega (arith, laws.product_fits c.args.i c.args.h.size (omega arith) (omega arith))

pub returns-in_default : goal.returns-in_default
returns-in_default c = laws.search_over _ _ _ (omega arith) (omega (arith, c.in_default.ensures))

pub returns-in-Ok : goal.returns-in-Ok
returns-in-Ok c =
    let at = c.in-Some.ensures in
    let found = sym c.readable_spot.ensures in
    let reads = laws.can_read_found _ _ _ c.readable_spot.result c.readable_spot.ensures c.in-Ok.spot c.in-Ok.is in
    record {
      first = laws.search_here _ _ _ (omega arith) at.0 (rw (at.1, c.least-k.ensures) at reads);
      address = at.1;
      spot = rw (c.least-k.ensures, c.in-Ok.is) at found;
    }

pub returns-in_default-next_break : goal.returns-in_default-next_break
returns-in_default-next_break c =
    laws.search_past_breaks _ _ _ (omega arith) (rw (c.in-Some.ensures.1, c.least-k.ensures) at (sym c.next_break.ensures ∙ c.in_default-next_break.is))

pub returns-then-size-eq0 : goal.returns-then-size-eq0
returns-then-size-eq0 c =
    let at = c.in-Some.ensures in
    let unread = laws.can_read_not _ _ _ c.readable_spot.result c.readable_spot.ensures _ c.in_default-readable_spot.is in
    laws.search_flat _ _ _ (omega arith) (rw (at.1, c.least-k.ensures) at unread) (search rules)

pub overflow_sub-gap : goal.overflow_sub-gap
overflow_sub-gap c = omega (arith, next_break_above _ _ _ (sym c.next_break.ensures ∙ c.in-Some-next_break.is))

pub overflow_sub-gap-2 : goal.overflow_sub-gap-2
overflow_sub-gap-2 c = omega (arith, next_break_above _ _ _ (sym c.next_break.ensures ∙ c.in-Some-next_break.is))

pub returns-then-count-i-2 : goal.returns-then-count-i-2
returns-then-count-i-2 c =
    let at = c.in-Some.ensures in
    let unread = laws.can_read_not _ _ _ c.readable_spot.result c.readable_spot.ensures _ c.in_default-readable_spot.is in
    laws.jump_out _ _ _ (omega arith) (rw (at.1, c.least-k.ensures) at unread) (search rules) c.in-Some-next_break.b
    (rw (at.1, c.least-k.ensures) at (sym c.next_break.ensures ∙ c.in-Some-next_break.is)) (rw (← at.1) c.if-count-i-2.true)

pub returns : goal.returns
returns c =
    let at = c.in-Some.ensures in
    let is = at.1 in
    let missing = laws.can_read_not _ _ _ c.readable_spot.result c.readable_spot.ensures _ c.in_default-readable_spot.is in
    let unread = rw (is, c.least-k.ensures) at missing in
    let next = rw (is, c.least-k.ensures) at (sym c.next_break.ensures ∙ c.in-Some-next_break.is) in
    rw is
    (laws.jump_same _ _ _ (omega arith) unread (search rules) c.in-Some-next_break.b next (rw is at c.if-count-i-2.false), laws.jump_fewer _ _ _ (omega arith) unread (search rules) c.in-Some-next_break.b next)
