use Rattle.std.proofs.Common.{ap, ◌∙◌, arith}
use Rattle.opcodes.specs.Binds.{settled}
use Rattle.opcodes.proofs.Building as laws
use Rattle.opcodes.proofs.build.build_from.Goals as goal
use Rattle.reads.specs.declared.answer.Question.TheVariants.{FixupData}

pub returns-in_default : goal.returns-in_default
returns-in_default c =
    let a = c.args in
    let first = (laws.info_by c.of-cmds.result.bytes.now c.of-cmds.result.count _ _ c.next-info.result c.next-info_only.result (rw c.of_kind.ensures at c.next-info.ensures.steps) (rw c.of_kind-2.ensures at c.next-info_only.ensures.steps)) in
    laws.settled_none a.binds.now
    ∙ ap (λ x. settled x a.binds.now) (laws.found_none a.file.now c.requires _ _ c.of-cmds.ensures.bytes c.of-cmds.ensures.count.0 _ (c.earlier.ensures ∙ first) c.in_default.is)

pub returns-then-field32-lt-SIZEOF_DYLD_INFO_COMMAND : goal.returns-then-field32-lt-SIZEOF_DYLD_INFO_COMMAND
returns-then-field32-lt-SIZEOF_DYLD_INFO_COMMAND c =
    let a = c.args in
    let first = (laws.info_by c.of-cmds.result.bytes.now c.of-cmds.result.count _ _ c.next-info.result c.next-info_only.result (rw c.of_kind.ensures at c.next-info.ensures.steps) (rw c.of_kind-2.ensures at c.next-info_only.ensures.steps)) in
    laws.settled_number FixupData a.binds.now
    ∙ ap (λ x. settled x a.binds.now) (laws.found_short a.file.now c.requires _ _ c.of-cmds.ensures.bytes c.of-cmds.ensures.count.0 _ (c.earlier.ensures ∙ first) _ c.in-Some.is (omega arith))

pub returns : goal.returns
returns c =
    let a = c.args in
    let first = (laws.info_by c.of-cmds.result.bytes.now c.of-cmds.result.count _ _ c.next-info.result c.next-info_only.result (rw c.of_kind.ensures at c.next-info.ensures.steps) (rw c.of_kind-2.ensures at c.next-info_only.ensures.steps)) in
    c.fill.ensures
    ∙ ap (λ x. settled x a.binds.now) (laws.found_long a.file.now c.requires _ _ c.of-cmds.ensures.bytes c.of-cmds.ensures.count.0 _ (c.earlier.ensures ∙ first) _ c.in-Some.is (omega arith))
