use borrow.Author.Rules.{rules}
use borrow.Author.Tests.{tests}
use Rattle.attributes.specs.Pass.{items_left_of, chosen_left_of}
use Rattle.attributes.proofs.AttributeItems.{chosen_first, first_goes}
use Rattle.attributes.proofs.pass.ChosenIterator.next.Goals as goal

pub returns-clause-steps : goal.returns-clause-steps
returns-clause-steps c =
    chosen_first c.args.self.now.which items_left_of (λ x b q k. search (rules, tests)) c.find.new.self c.find.result c.find.ensures.ran

pub returns-clause-goes : goal.returns-clause-goes
returns-clause-goes c = first_goes chosen_left_of c.find.result tt (returns-clause-steps c)
