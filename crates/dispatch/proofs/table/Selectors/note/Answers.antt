use Rattle.dispatch.proofs.SelectorTable.{noted_kept, noted_replaced, noted_full, noted_added}
use Rattle.dispatch.proofs.table.Selectors.note.Goals as goal

pub returns-then-self-at-clause-noted : goal.returns-then-self-at-clause-noted
returns-then-self-at-clause-noted c = noted_replaced _ _ _ _ c.requires c.find.ensures c.in-Some.is c.if-self-at.true c.mark.ensures

pub returns-else-self-at-clause-noted : goal.returns-else-self-at-clause-noted
returns-else-self-at-clause-noted c = noted_kept _ _ _ _ c.requires c.find.ensures c.in-Some.is c.if-self-at.false

pub returns-then-self-at-lt4-clause-noted : goal.returns-then-self-at-lt4-clause-noted
returns-then-self-at-lt4-clause-noted c = noted_full _ _ _ _ c.requires c.find.ensures c.in_default.is c.if-self-at-lt4.true

pub returns-clause-noted : goal.returns-clause-noted
returns-clause-noted c = noted_added _ _ _ _ c.requires c.find.ensures c.in_default.is c.if-self-at-lt4.false c.mark-2.ensures
