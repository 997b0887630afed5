use Rattle.std.proofs.Common.{rules}
use Rattle.dispatch.proofs.Answers.{slots_listed, slots_refused}
use Rattle.dispatch.proofs.effective.effective_of.Goals as goal

pub returns-in_err-ask_categories : goal.returns-in_err-ask_categories
returns-in_err-ask_categories c = search (rules, slots_refused _ c.args.side c.args.class c.args.res.now c.ask_categories.result c.ask_categories.ensures)

pub returns : goal.returns
returns c = slots_listed _ _ _ _ c.ask_categories.result c.ask_categories.ensures (search rules) c.effective_by_slots.ensures
