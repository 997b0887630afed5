use Rattle.dispatch.proofs.sources.MethodsOf.taking.Goals as goal

pub held_before-requires : goal.held_before-requires
held_before-requires c = (c.requires.0, c.requires.1)
