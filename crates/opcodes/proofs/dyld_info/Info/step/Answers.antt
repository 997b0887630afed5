use Rattle.std.proofs.Common.{length}
use Rattle.opcodes.specs.Streams.{segments_in}
use Rattle.opcodes.specs.Opcodes.{decode}
use Rattle.opcodes.specs.Binding.{perform}
use Rattle.opcodes.specs.Tables.{part_in}
use Rattle.opcodes.proofs.Walks as laws
use Rattle.opcodes.proofs.dyld_info.Info.step.Goals as goal
use Rattle.std.proofs.lemmas.Result.{err_from_is_err_and}

pub returns-clause-told : goal.returns-clause-told
returns-clause-told c =
    let a = c.args in
    laws.step_on (decode a.rest.parts a.rest.at a.b a.rest.bytes.now) (part_in a.binds.now) (λ d. perform (length a.self.file.now) a.self.cmds.bytes.now (segments_in a.self) d.says a.s) c.decode.result _ c.decode.ensures c.in_ok-x.was c.perform.result (part_in c.perform.new.binds) c.perform.ensures.told _ c.in_ok-t.was

pub returns-in_err-t-clause-told : goal.returns-in_err-t-clause-told
returns-in_err-t-clause-told c =
    let a = c.args in
    let p = err_from_is_err_and c.from_residual-in_err-t.result c.from_residual-in_err-t.ensures.1 in
    rw (p.1, p.2) (laws.step_not (decode a.rest.parts a.rest.at a.b a.rest.bytes.now) (part_in a.binds.now) (λ d. perform (length a.self.file.now) a.self.cmds.bytes.now (segments_in a.self) d.says a.s) c.decode.result _ c.decode.ensures c.in_ok-x.was c.perform.result (part_in c.perform.new.binds) c.perform.ensures.told _ c.in_err-t.was)

pub returns-in_err-x-clause-told : goal.returns-in_err-x-clause-told
returns-in_err-x-clause-told c =
    let a = c.args in
    let p = err_from_is_err_and c.from_residual.result c.from_residual.ensures.1 in
    rw (p.1, p.2) (laws.step_refused (decode a.rest.parts a.rest.at a.b a.rest.bytes.now) (part_in a.binds.now) (λ d. perform (length a.self.file.now) a.self.cmds.bytes.now (segments_in a.self) d.says a.s) c.decode.result _ c.decode.ensures c.in_err-x.was)
