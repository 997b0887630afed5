use borrow.Author.Rules.{rules}
use mathlib.Core.Path.{refl, ◌∙◌}
use native.Mathlib.Omega.{arith}
use Rattle.attributes.proofs.PutParts.{puts_in_order}
use Rattle.attributes.proofs.written.put_all.Goals as goal

pub returns : goal.returns
returns c =
    let a = c.args in
    let h = puts_in_order a.text.now a.declared a.unknown.now _ refl (omega arith) c.front.ensures c.rows_in.ensures c.unknown.ensures c.attribute.ensures in
    let s = c.attribute.ensures.same ∙ c.unknown.ensures.same ∙ c.front.ensures.same in
    search rules
