use mathlib.Core.Path.{sym}
use native.Mathlib.Omega.{arith}
use borrow.Author.Tests.{le-leb, lt-leb}
use Rattle.reads.proofs.Tests.{choose_true, choose_false}
use Rattle.records.specs.Ask.{entry_size}
use borrow.Author.Rules.{rules}
use Rattle.records.proofs.list.entry_size.Goals as goal

pub returns-then-size-least : goal.returns-then-size-least
unfolding entry_size
returns-then-size-least c = sym (choose_false _ _ (lt-leb c.args.least c.args.size (search rules)))

pub returns : goal.returns
unfolding entry_size
returns c = sym (choose_true _ _ (le-leb c.args.least c.args.size (omega arith)))
