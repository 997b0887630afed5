use Rattle.std.proofs.Common.{ap, length, ◌∙◌}
use Rattle.std.proofs.lemmas.Result.{err_from_is_err_and}
use Rattle.reads.specs.Answer.{outcome}
use Rattle.attributes.specs.Attributes.{items}
use Rattle.attributes.specs.Property.{declared, declared_of, unknown_left}
use Rattle.attributes.proofs.AttributeAnswers.{made_missing, made_value, made_count}
use Rattle.attributes.proofs.AttributeItems.{chosen_unknown}
use Rattle.attributes.proofs.property.decode_attributes.Goals as goal

pub returns-in_err-unknown_count : goal.returns-in_err-unknown_count
unfolding declared_of unknown_left
returns-in_err-unknown_count c =
    let a = c.args in
    let p = err_from_is_err_and c.from_residual.result c.from_residual.ensures.1 in
    let h =
    made_missing a.text.now a.buffer.now _ (declared a.text.now) (chosen_unknown (items a.text.now)) c.hand_out.ensures _ (ap outcome c.in_err-unknown_count.was) in
    record { outcome = rw (p.1, p.2) h.0; contents = h.1 }

pub declared_by-requires : goal.declared_by-requires
declared_by-requires c =
    let a = c.args in
    let some = chosen_unknown (items a.text.now) in
    made_count a.text.now a.buffer.now _ (declared a.text.now) some c.hand_out.ensures _ (ap outcome c.in_ok-unknown_count.was) ∙ ap length some

pub returns : goal.returns
unfolding declared_of unknown_left
returns c =
    let a = c.args in
    let h =
    made_value a.text.now a.buffer.now _ (declared a.text.now) (chosen_unknown (items a.text.now)) c.hand_out.ensures _ (ap outcome c.in_ok-unknown_count.was) in
    record { outcome = rw c.declared_by.ensures h.0; contents = h.1 }
