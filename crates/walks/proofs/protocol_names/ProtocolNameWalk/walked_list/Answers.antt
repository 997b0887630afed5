use Rattle.walks.specs.ProtocolNames.{over_names}
use Rattle.walks.proofs.Steps.{outcome_told, list_on}
use borrow.Author.Rules.{rules}
use Rattle.walks.proofs.protocol_names.ProtocolNameWalk.walked_list.Goals as goal
use Rattle.reads.specs.Answer.{outcome}

pub returns-else-list-self : goal.returns-else-list-self
unfolding over_names
returns-else-list-self c = list_on _ _ _ _ c.in-Ok.list (outcome_told outcome (rw (c.under.ensures) at c.protocol_list_at.ensures) c.in-Ok.is) (search rules) (rw (c.under.ensures) at c.step_in.ensures)
