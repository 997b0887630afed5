use Rattle.std.proofs.Common.{ap}
use Rattle.listing.specs.ListingAnswer.{stage_number, section_walk_of}
use Rattle.listing.proofs.ListingSteps.{step_stage}
use Rattle.listing.proofs.section.Section.next.Goals as goal

pub returns-in-Classes : goal.returns-in-Classes
returns-in-Classes c =
    step_stage c.args.asked.now.tables c.args.ledger.now (section_walk_of c.args.self) (ap stage_number c.in-Classes.is) c.class_step.ensures

pub returns-in-Protocols : goal.returns-in-Protocols
returns-in-Protocols c =
    step_stage c.args.asked.now.tables c.args.ledger.now (section_walk_of c.args.self) (ap stage_number c.in-Protocols.is) (c.protocol_step.ensures c.args.ledger.now)

pub returns-in-Categories : goal.returns-in-Categories
returns-in-Categories c =
    step_stage c.args.asked.now.tables c.args.ledger.now (section_walk_of c.args.self) (ap stage_number c.in-Categories.is) c.category_step.ensures
