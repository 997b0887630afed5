use Rattle.std.proofs.Common.{◌+◌, sym, ◌∙◌}
use Rattle.fixups.specs.Chain.{starts_in}
use Rattle.fixups.specs.Tables.{state_in}
use Rattle.fixups.proofs.Visits.{visit_out, visit_not, visit_put}
use Rattle.fixups.proofs.chain.Data.visit_slot.Goals as goal
use Rattle.std.proofs.lemmas.Result.{err_from_is_err_and}

pub returns-then-not-lies_in-clause-told : goal.returns-then-not-lies_in-clause-told
returns-then-not-lies_in-clause-told c =
    let a = c.args in
    visit_out a.self.file.now a.self.body.now a.self.fixups (starts_in a.s) (a.page + a.o) (state_in a.lists.now)
    (sym (rw (c.from.ensures, c.from-2.ensures) at c.lies_in.ensures) ∙ c.if-not-lies_in.true)

pub returns-clause-told : goal.returns-clause-told
returns-clause-told c =
    let a = c.args in
    visit_put a.self.file.now a.self.body.now a.self.fixups (starts_in a.s) (a.page + a.o) (state_in a.lists.now)
    c.u64_from-word.result c.entry_at.result (sym (rw (c.from.ensures, c.from-2.ensures) at c.lies_in.ensures) ∙ c.if-not-lies_in.false) (rw (c.from.ensures, c.from-2.ensures) at c.u64_from-word.ensures) (rw (c.from.ensures, c.from-2.ensures) at c.entry_at.ensures) _ _ c.in_ok-x.was c.put.ensures.put

pub returns-in_err-x-clause-told : goal.returns-in_err-x-clause-told
returns-in_err-x-clause-told c =
    let a = c.args in
    let p = err_from_is_err_and c.from_residual.result c.from_residual.ensures.1 in
    rw (p.1, p.2) (visit_not a.self.file.now a.self.body.now a.self.fixups (starts_in a.s) (a.page + a.o) (state_in a.lists.now)
    c.u64_from-word.result c.entry_at.result (sym (rw (c.from.ensures, c.from-2.ensures) at c.lies_in.ensures) ∙ c.if-not-lies_in.false) (rw (c.from.ensures, c.from-2.ensures) at c.u64_from-word.ensures) (rw (c.from.ensures, c.from-2.ensures) at c.entry_at.ensures) _ c.in_err-x.was)
