use Rattle.std.proofs.Common.{ℕ, ◌+◌, ◌≤◌, length, sym, ◌∙◌, ap₂, arith}
use Rattle.opcodes.specs.Streams.{segments_in}
use Rattle.opcodes.specs.Streams.{walk}
use Rattle.opcodes.specs.Tables.{told, part_in}
use Rattle.opcodes.specs.declared.binding.State.{State}
use Rattle.fixups.proofs.Joining.{same, same_on}
use Rattle.opcodes.proofs.Walks as laws
use Rattle.opcodes.proofs.dyld_info.Info.walk.Goals as goal
use Rattle.std.proofs.lemmas.Result.{err_from_is_err_and}

pub loop-i-init : goal.loop-i-init
loop-i-init c =
    let a = c.args in
    (ap₂ (λ (k : ℕ) (s : State). told (walk (length a.self.file.now) a.self.cmds.bytes.now (segments_in a.self) a.stream.parts k a.stream.bytes.now 0 s) (part_in a.binds.now)) (omega arith) (sym (laws.unset_is c.default-s.result c.default-s.ensures)), same _)

-- `operands-fit`: the operands of an opcode lie in the stream.
pub overflow_add-i-in-loop-i : goal.overflow_add-i-in-loop-i
overflow_add-i-in-loop-i c =
    let operands-fit : c.loop-i.i + 1 + c.in_ok-t.size ≤ length c.args.stream.bytes.now = let l = c.loop-i in let a = c.args in
    laws.walk_size (length a.self.file.now) a.self.cmds.bytes.now (segments_in a.self) a.stream.parts a.stream.at a.stream.bytes.now l.i l.s (part_in l.binds) (omega arith) c.step.result (part_in c.step.new.binds) c.step.ensures.told _ c.in_ok-t.was in
    omega (arith, operands-fit)

pub overflow_add-i : goal.overflow_add-i
overflow_add-i c =
    let operands-fit : c.loop-i.i + 1 + c.in_ok-t.size ≤ length c.args.stream.bytes.now = let l = c.loop-i in let a = c.args in
    laws.walk_size (length a.self.file.now) a.self.cmds.bytes.now (segments_in a.self) a.stream.parts a.stream.at a.stream.bytes.now l.i l.s (part_in l.binds) (omega arith) c.step.result (part_in c.step.new.binds) c.step.ensures.told _ c.in_ok-t.was in
    omega (arith, operands-fit)

pub loop-i-smaller : goal.loop-i-smaller
loop-i-smaller c =
    let operands-fit : c.loop-i.i + 1 + c.in_ok-t.size ≤ length c.args.stream.bytes.now = let l = c.loop-i in let a = c.args in
    laws.walk_size (length a.self.file.now) a.self.cmds.bytes.now (segments_in a.self) a.stream.parts a.stream.at a.stream.bytes.now l.i l.s (part_in l.binds) (omega arith) c.step.result (part_in c.step.new.binds) c.step.ensures.told _ c.in_ok-t.was in
    omega (arith, operands-fit)

pub loop-i-preserved : goal.loop-i-preserved
loop-i-preserved c =
    let l = c.loop-i in let a = c.args in
    (l.invariant.0 ∙ laws.walk_on (length a.self.file.now) a.self.cmds.bytes.now (segments_in a.self) a.stream.parts a.stream.at a.stream.bytes.now l.i l.s (part_in l.binds) (omega arith) c.step.result (part_in c.step.new.binds) c.step.ensures.told _ c.in_ok-t.was, same_on _ _ _ l.invariant.1 c.step.ensures.kept)

pub returns-in_err-t : goal.returns-in_err-t
returns-in_err-t c =
    record {
      kept = same_on _ _ _ c.loop-i.invariant.1 c.step.ensures.kept;
      told =
          let l = c.loop-i in let a = c.args in
          let p = err_from_is_err_and c.from_residual.result c.from_residual.ensures.1 in
          rw (p.1, p.2) (laws.walk_refused (length a.self.file.now) a.self.cmds.bytes.now (segments_in a.self) a.stream.parts a.stream.at a.stream.bytes.now l.i l.s (part_in l.binds) (omega arith) c.step.result (part_in c.step.new.binds) c.step.ensures.told _ c.in_err-t.was ∙ sym l.invariant.0);
    }

pub returns : goal.returns
returns c =
    record {
      kept = c.loop-i.invariant.1;
      told =
          let l = c.loop-i in let a = c.args in
          laws.walk_done (length a.self.file.now) a.self.cmds.bytes.now (segments_in a.self) a.stream.parts (a.stream.at + l.i) a.stream.bytes.now l.i l.s (part_in l.binds) c.loop-i-test.false ∙ sym l.invariant.0;
    }
