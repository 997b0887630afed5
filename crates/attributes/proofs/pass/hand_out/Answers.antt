use Rattle.std.proofs.lemmas.Result.{err_from_is_err_and}
use Rattle.std.proofs.Common.{length}
use Rattle.attributes.specs.Attributes.{items}
use Rattle.attributes.specs.Pass.{chosen}
use Rattle.attributes.proofs.AttributeAnswers.{out_missing, out_room, out_value}
use Rattle.attributes.proofs.pass.hand_out.Goals as goal

pub returns-in_err-count : goal.returns-in_err-count
returns-in_err-count c =
    let a = c.args in
    let e = c.chosen_items-handed.ensures in
    let is = chosen a.which (items a.text.now) in
    let p = err_from_is_err_and c.from_residual.result c.from_residual.ensures.1 in
    rw (p.1, p.2) (out_missing a.text.now a.buffer.now is (length is) c.count_fitting.result (rw (e.left, e.text) at c.count_fitting.ensures) _ c.in_err-count.was)

pub write_items-requires : goal.write_items-requires
write_items-requires c =
    let a = c.args in
    let e = c.chosen_items-handed.ensures in
    let is = chosen a.which (items a.text.now) in
    rw e.left (out_room a.text.now a.buffer.now is (length is) c.count_fitting.result (rw (e.left, e.text) at c.count_fitting.ensures) _ c.in_ok-count.was)

pub returns : goal.returns
returns c =
    let a = c.args in
    let e = c.chosen_items-handed.ensures in
    let is = chosen a.which (items a.text.now) in
    out_value a.text.now a.buffer.now is (length is) c.count_fitting.result (rw (e.left, e.text) at c.count_fitting.ensures) _ c.in_ok-count.was (rw e.left at c.write_items.ensures)
