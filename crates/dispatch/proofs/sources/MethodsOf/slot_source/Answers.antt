use Rattle.std.proofs.Common.{ap, sym, ◌∙◌}
use Rattle.reads.specs.Answer.{outcome}
use Rattle.dispatch.proofs.Held.{listed_nonzero}
use Rattle.dispatch.proofs.sources.MethodsOf.slot_source.Goals as goal

pub taking-requires : goal.taking-requires
taking-requires c = (c.requires, listed_nonzero _ _ (sym c.listed_at.ensures ∙ ap outcome c.in_ok-va.was))
