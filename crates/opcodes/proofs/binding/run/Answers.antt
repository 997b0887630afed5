use Rattle.std.proofs.Common.{◌≡◌, ◌+◌, ◌-◌, sym, ◌∙◌, arith}
use Rattle.opcodes.specs.Tables.{part_in}
use Rattle.opcodes.proofs.Bindings as laws
use Rattle.fixups.proofs.Joining.{same, same_on}
use Rattle.opcodes.proofs.binding.run.Goals as goal
use Rattle.std.proofs.lemmas.Result.{err_from_is_err_and}

pub loop-init : goal.loop-init
loop-init c = let e : c.args.count - 0 ≡ c.args.count = omega arith in (rw e, same _)

pub loop-preserved : goal.loop-preserved
loop-preserved c =
    let l = c.loop in let a = c.args in
    let e : a.count - (l.counter + 1) ≡ a.count - l.counter - 1 = omega arith in
    (l.invariant.0 ∙ rw e (laws.run_on a.end (a.count - l.counter) a.stride l.here (part_in l.binds) (omega arith) c.bound_by.result c.bound_by.ensures _ c.in_ok-x.was (part_in c.put.new.self) c.put.ensures.put c.further-here.result c.further-here.ensures), same_on _ _ _ l.invariant.1 c.put.ensures.kept)

pub returns-in_err-x : goal.returns-in_err-x
returns-in_err-x c =
    record {
      kept = c.loop.invariant.1;
      told =
          let l = c.loop in let a = c.args in
          let p = err_from_is_err_and c.from_residual.result c.from_residual.ensures.1 in
          rw (p.1, p.2) (laws.run_refused a.end (a.count - l.counter) a.stride l.here (part_in l.binds) (omega arith) c.bound_by.result c.bound_by.ensures _ c.in_err-x.was ∙ sym l.invariant.0);
    }

pub returns : goal.returns
returns c =
    record {
      kept = c.loop.invariant.1;
      told =
          let l = c.loop in let a = c.args in
          laws.run_none a.end (a.count - l.counter) a.stride l.here (part_in l.binds) (omega arith) ∙ sym l.invariant.0;
    }
