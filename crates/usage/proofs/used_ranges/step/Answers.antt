use mathlib.Core.Path.{ap, ◌∙◌}
use lib.ListN.{length}
use Prim.Native.Nat.{◌-◌}
use native.Mathlib.Omega.{arith}
use Rattle.reads.specs.Files.{file_of}
use Rattle.ranges.specs.Sheet.{headed}
use Rattle.ranges.proofs.StepLaws.{step_end, step_window}
use Rattle.usage.proofs.Driven.{length_of}
use Rattle.usage.proofs.used_ranges.step.Goals as goal

pub returns-then-size-sweep : goal.returns-then-size-sweep
returns-then-size-sweep c =
    let t = c.args.tables.now in
    step_end _ _ _ _ c.file_len-size.result (length_of t.files c.args.sweep.file c.file_len-size.result (c.file_len-size.ensures ∙ ap (λ fs. length (file_of fs c.args.sweep.file)) c.files.ensures)) (omega arith) c.over_end.ensures

pub returns : goal.returns
returns c =
    let t = c.args.tables.now in
    let w = c.args.sweep in
    let size = c.file_len-size.result in
    step_window _ _ _ _ size (length_of t.files w.file size (c.file_len-size.ensures ∙ ap (λ fs. length (file_of fs w.file)) c.files.ensures))
    _ _ (omega arith) (c.begin.ensures ∙ ap (headed w.file w.at (size - w.at)) c.clear.ensures) c.note_pass.ensures.noted c.over_window.ensures
