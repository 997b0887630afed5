use Rattle.std.proofs.Common.{sym, ◌∙◌, arith}
use Rattle.fixups.specs.Chain.{starts_in}
use Rattle.fixups.specs.Tables.{state_in}
use Rattle.fixups.proofs.Joining.{kept_on}
use Rattle.fixups.proofs.Links as laws
use Rattle.fixups.proofs.chain.Data.chain.Goals as goal
use Rattle.std.proofs.lemmas.Result.{err_from_is_err_and}

pub returns-then-step-eq0 : goal.returns-then-step-eq0
returns-then-step-eq0 c =
    record {
      kept = kept_on _ _ _ c.loop-o.invariant.1 c.visit_slot.ensures.kept;
      told =
          let a = c.args in let l = c.loop-o in
          laws.last a.self.file.now a.self.body.now a.self.fixups (starts_in a.s) a.page l.o (state_in l.lists) (omega arith)
          c.visit_slot.result (state_in c.visit_slot.new.lists) c.visit_slot.ensures.told _ c.in_ok-step.was c.if-step-eq0.true ∙ sym l.invariant.0;
    }

pub overflow_add-o : goal.overflow_add-o
overflow_add-o c =
    let a = c.args in let l = c.loop-o in
    omega (
      arith,
      laws.small a.self.file.now a.self.body.now a.self.fixups (starts_in a.s) a.page l.o (state_in l.lists) (omega arith)
          c.visit_slot.result (state_in c.visit_slot.new.lists) c.visit_slot.ensures.told _ c.in_ok-step.was,
    )

pub loop-o-preserved : goal.loop-o-preserved
loop-o-preserved c =
    let a = c.args in let l = c.loop-o in (
      l.invariant.0 ∙ sym (laws.onto a.self.file.now a.self.body.now a.self.fixups (starts_in a.s) a.page l.o (state_in l.lists) (omega arith)
          c.visit_slot.result (state_in c.visit_slot.new.lists) c.visit_slot.ensures.told _ c.in_ok-step.was c.if-step-eq0.false),
      kept_on _ _ _ l.invariant.1 c.visit_slot.ensures.kept,
    )

pub returns-in_err-step : goal.returns-in_err-step
returns-in_err-step c =
    record {
      kept = kept_on _ _ _ c.loop-o.invariant.1 c.visit_slot.ensures.kept;
      told =
          let a = c.args in let l = c.loop-o in
          let p = err_from_is_err_and c.from_residual.result c.from_residual.ensures.1 in
          rw (p.1, p.2) (laws.chain_refused a.self.file.now a.self.body.now a.self.fixups (starts_in a.s) a.page l.o (state_in l.lists) (omega arith)
          c.visit_slot.result (state_in c.visit_slot.new.lists) c.visit_slot.ensures.told _ c.in_err-step.was ∙ sym l.invariant.0);
    }

pub returns : goal.returns
returns c =
    record {
      kept = c.loop-o.invariant.1;
      told =
          let a = c.args in let l = c.loop-o in
          laws.left a.self.file.now a.self.body.now a.self.fixups (starts_in a.s) a.page l.o (state_in l.lists) (omega arith) ∙ sym l.invariant.0;
    }
