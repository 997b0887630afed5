use Rattle.attributes.proofs.PutParts.{puts_given, puts_not_given}
use Rattle.attributes.proofs.written.Out.attribute.Goals as goal

pub returns-in-Some : goal.returns-in-Some
returns-in-Some c = puts_given c.args.text.now c.args.letter c.in-Some.is c.item.ensures

pub returns-in_default : goal.returns-in_default
returns-in_default c = puts_not_given c.args.text.now c.args.letter c.in_default.is
