use mathlib.Core.Path.{sym, ap, ◌∙◌}
use Rattle.reads.proofs.Tests.{choose_true, choose_false}
use Rattle.walks.specs.ProtocolNames.{named, step_in}
use Rattle.walks.proofs.protocol_names.ProtocolNameWalk.step_in.Goals as goal

pub returns-then-has_slot : goal.returns-then-has_slot
unfolding step_in
returns-then-has_slot c = c.named.ensures ∙ ap (named _) c.name_in-name.ensures ∙ sym (choose_true _ _ (sym c.has_slot.ensures ∙ c.if-has_slot.true))

pub returns : goal.returns
unfolding step_in
returns c = c.at.ensures ∙ sym (choose_false _ _ (sym c.has_slot.ensures ∙ c.if-has_slot.false))
