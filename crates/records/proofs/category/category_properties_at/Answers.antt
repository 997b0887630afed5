use Rattle.reads.proofs.Tests.{choose_true, choose_false}
use mathlib.Core.Path.{sym, ◌∙◌}
use Rattle.records.specs.Category.{decode_category_properties}
use Rattle.records.proofs.category.category_properties_at.Goals as goal

pub returns-then-wide : goal.returns-then-wide
unfolding decode_category_properties
returns-then-wide c = c.pointer_or_0.ensures ∙ sym (choose_true _ _ c.if-wide.true)

pub returns : goal.returns
unfolding decode_category_properties
returns c = sym (choose_false _ _ c.if-wide.false)
