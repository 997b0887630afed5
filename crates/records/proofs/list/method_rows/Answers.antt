use mathlib.Core.Path.{refl}
use Rattle.reads.specs.Outcome.{choose}
use Rattle.records.specs.List.{method_rows}
use Rattle.records.proofs.Headers.{bit_clear, bit_set}
use Rattle.records.proofs.list.method_rows.Goals as goal

pub returns-then-w-eq0 : goal.returns-then-w-eq0
unfolding method_rows choose
returns-then-w-eq0 c = rw (bit_clear 31 c.args.w c.if-w-eq0.true) refl

pub returns-then-w-eq0-2 : goal.returns-then-w-eq0-2
unfolding method_rows choose
returns-then-w-eq0-2 c = rw (bit_set 31 c.args.w c.if-w-eq0.false, bit_clear 30 c.args.w c.if-w-eq0-2.true) refl

pub returns : goal.returns
unfolding method_rows choose
returns c = rw (bit_set 31 c.args.w c.if-w-eq0.false, bit_set 30 c.args.w c.if-w-eq0-2.false) refl
