use mathlib.Core.Path.{ap, ◌∙◌}
use native.Mathlib.Omega.{arith}
use Rattle.std.proofs.lemmas.Result.{err_from_is_err_and}
use Rattle.listing.specs.Listing.{field_of}
use Rattle.records.specs.Decode.{Decode}
use Rattle.usage.specs.Noting.{trace}
use Rattle.usage.specs.Pass.{pass_field}
use Rattle.usage.proofs.Passes as laws
use Rattle.usage.proofs.noting.Noting.note_lists.Goals as goal

pub loop-field-init : goal.loop-field-init
loop-field-init c = ap (λ (d : Decode (Unit {0})). trace d c.args.self.now) (laws.each_map pass_field field_of c.args.fields.now)

pub returns-in_err-note_field_list : goal.returns-in_err-note_field_list
returns-in_err-note_field_list c =
    let p = err_from_is_err_and c.from_residual.result c.from_residual.ensures.1 in
    rw (p.1, p.2) (laws.items_stop (λ x. pass_field (field_of x)) c.args.fields.now c.loop-field.field-index c.loop-field.self _ _ _ (omega arith) c.in_err-note_field_list.ensures ∙ c.loop-field.invariant)

pub loop-field-preserved : goal.loop-field-preserved
loop-field-preserved c =
    laws.items_on (λ x. pass_field (field_of x)) c.args.fields.now c.loop-field.field-index c.loop-field.self _ _ (omega arith) c.in_ok-note_field_list.ensures ∙ c.loop-field.invariant

pub returns : goal.returns
returns c = laws.items_end (λ x. pass_field (field_of x)) c.args.fields.now c.loop-field.field-index c.loop-field.self (omega arith) ∙ c.loop-field.invariant
