use mir.Facts.{to_z-of_z}
use mir.Syntax.{w32}
use Rattle.reads.proofs.Tests.{choose_true, choose_false}
use mathlib.Core.Path.{sym, ◌∙◌, ap}
use borrow.Author.Tests.{eq-eqb, ne_eqb}
use Rattle.reads.specs.Relative.{relative}
use Rattle.reads.specs.Address.{stripped}
use Rattle.records.specs.Row.{small_imp}
use Rattle.records.proofs.method.small_imp.Goals as goal
use Rattle.std.specs.Prelude.{Some}

pub returns-then-raw-eq0 : goal.returns-then-raw-eq0
unfolding small_imp
returns-then-raw-eq0 c = sym (choose_true _ _ (eq-eqb _ _ c.if-raw-eq0.true))

pub returns : goal.returns
unfolding small_imp
returns c = ap Some (c.strip.ensures ∙ ap stripped (c.relative_pointer.ensures ∙ ap (relative c.args.field) (to_z-of_z {w = w32} {z = c.signed.result} (record { sfits = c.signed.type_inv }) ∙ c.signed.ensures))) ∙ sym (choose_false _ _ (ne_eqb _ _ c.if-raw-eq0.false))
