use Rattle.dispatch.proofs.SelectorTable.{seeking_here, seeking_next, seeking_end}
use Rattle.dispatch.proofs.table.Selectors.find.Goals as goal

pub returns-then-same_selector : goal.returns-then-same_selector
returns-then-same_selector c =
    let steps = c.in-Some.ensures.steps in
    seeking_here _ c.requires c.loop-j.invariant c.in-Some.entry.now _ steps.0.1.0 steps.0.1.1 c.same_selector.ensures c.if-same_selector.true steps.1

pub loop-j-preserved : goal.loop-j-preserved
loop-j-preserved c =
    let steps = c.in-Some.ensures.steps in
    seeking_next _ c.requires c.loop-j.invariant c.in-Some.entry.now _ steps.0.1.0 steps.0.1.1 c.same_selector.ensures c.if-same_selector.false steps.2 steps.0.0

pub returns : goal.returns
returns c = seeking_end _ c.requires c.loop-j.invariant c.in-None.ensures.steps.0.1.0
