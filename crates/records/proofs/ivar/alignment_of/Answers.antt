use mathlib.Core.Path.{sym, ◌∙◌}
use native.Mathlib.Omega.{arith}
use borrow.Author.Tests.{eq-eqb, ne_eqb, le-leb, lt-leb}
use Rattle.reads.proofs.Tests.{choose_true, choose_false}
use Rattle.records.specs.Row.{alignment_of}
use Rattle.records.proofs.ivar.alignment_of.Goals as goal

pub returns-then-raw-eq4294967295 : goal.returns-then-raw-eq4294967295
unfolding alignment_of
returns-then-raw-eq4294967295 c = sym (choose_true _ _ (eq-eqb _ _ c.if-raw-eq4294967295.true))

pub returns-then-raw-gt63 : goal.returns-then-raw-gt63
unfolding alignment_of
returns-then-raw-gt63 c = sym (choose_false _ _ (ne_eqb _ _ c.if-raw-eq4294967295.false) ∙ choose_false _ _ (lt-leb c.args.raw 63 (omega arith)))

pub returns : goal.returns
unfolding alignment_of
returns c = sym (choose_false _ _ (ne_eqb _ _ c.if-raw-eq4294967295.false) ∙ choose_true _ _ (le-leb c.args.raw 63 (omega arith)))
