use mathlib.Core.Path.{ap, ◌∙◌}
use lib.ListN.{length, get_or}
use native.Mathlib.Omega.{arith}
use Rattle.std.proofs.lemmas.Result.{err_from_is_err_and}
use Rattle.walks.specs.Slots.{slots_of, decode_address}
use Rattle.usage.specs.Noting.{trace}
use Rattle.usage.specs.Pass.{if_there, pass_record, pass_slots}
use Rattle.usage.proofs.Passes as laws
use Rattle.usage.proofs.noting.Noting.pass_slots.Goals as goal

pub returns-in_err-pass_slot : goal.returns-in_err-pass_slot
unfolding pass_slots
returns-in_err-pass_slot c =
    let lists = c.args.lists in
    let at = c.loop-k in
    let p = err_from_is_err_and c.from_residual.result c.from_residual.ensures.1 in
    rw (p.1, p.2)
    (laws.items_stop (λ a. if_there (decode_address a) (pass_record lists)) (slots_of lists c.args.self.now.tables.now.sections) at.k at.self 0 _ _
    (omega (arith, ap (λ ws. length (slots_of lists ws)) c.sections-sections.ensures))
    (c.in_err-pass_slot.ensures ∙ ap (λ a. trace (if_there (decode_address a) (pass_record lists)) at.self) (c.slot_at.ensures ∙ ap (λ ws. get_or (slots_of lists ws) at.k 0) c.sections-sections.ensures))
    ∙ at.invariant)

pub loop-k-preserved : goal.loop-k-preserved
loop-k-preserved c =
    let lists = c.args.lists in
    let at = c.loop-k in
    laws.items_on (λ a. if_there (decode_address a) (pass_record lists)) (slots_of lists c.args.self.now.tables.now.sections) at.k at.self 0 _
    (omega (arith, ap (λ ws. length (slots_of lists ws)) c.sections-sections.ensures))
    (c.in_ok-pass_slot.ensures ∙ ap (λ a. trace (if_there (decode_address a) (pass_record lists)) at.self) (c.slot_at.ensures ∙ ap (λ ws. get_or (slots_of lists ws) at.k 0) c.sections-sections.ensures))
    ∙ at.invariant

pub returns : goal.returns
unfolding pass_slots
returns c =
    let lists = c.args.lists in
    let at = c.loop-k in
    laws.items_end (λ a. if_there (decode_address a) (pass_record lists)) (slots_of lists c.args.self.now.tables.now.sections) at.k at.self
    (omega (arith, ap (λ ws. length (slots_of lists ws)) c.sections-sections.ensures))
    ∙ at.invariant
