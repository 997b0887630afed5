use Rattle.std.proofs.Common.{ap}
use Rattle.std.proofs.lemmas.Result.{err_from_is_err_and}
use Rattle.reads.specs.Answer.{outcome}
use Rattle.attributes.specs.Attributes.{items, attributes, attributes_of, items_left}
use Rattle.attributes.proofs.AttributeAnswers.{made_missing, made_value, made_count}
use Rattle.attributes.proofs.AttributeItems.{chosen_all, type_first}
use Rattle.attributes.proofs.items.parse_attributes.Goals as goal

pub returns-in_err-count : goal.returns-in_err-count
unfolding attributes_of items_left
returns-in_err-count c =
    let a = c.args in
    let p = err_from_is_err_and c.from_residual.result c.from_residual.ensures.1 in
    let h =
    made_missing a.text.now a.buffer.now _ (attributes a.text.now) (chosen_all (items a.text.now)) c.hand_out.ensures _ (ap outcome c.in_err-count.was) in
    record { outcome = rw (p.1, p.2) h.0; contents = h.1 }

pub returns : goal.returns
unfolding attributes_of items_left attributes
returns c =
    let a = c.args in
    let all = chosen_all (items a.text.now) in
    let came = ap outcome c.in_ok-count.was in
    let n = made_count a.text.now a.buffer.now _ (attributes a.text.now) all c.hand_out.ensures _ came in
    let h = made_value a.text.now a.buffer.now _ (attributes a.text.now) all c.hand_out.ensures _ came in
    record { outcome = rw (n, all, c.first_value.ensures, type_first (items a.text.now)) h.0; contents = h.1 }
