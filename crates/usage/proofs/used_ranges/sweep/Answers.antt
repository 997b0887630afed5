use mathlib.Core.Path.{ap, ◌∙◌}
use Rattle.reads.specs.Files.{is_lent}
use Rattle.ranges.proofs.StepLaws.{sweep_merged}
use Rattle.usage.proofs.Driven as driven
use Rattle.usage.proofs.used_ranges.sweep.Goals as goal

pub loop-sheet-init : goal.loop-sheet-init
loop-sheet-init c = rw c.new-sweep.ensures (sweep_merged _ _ _)

pub loop-sheet-smaller : goal.loop-sheet-smaller
loop-sheet-smaller c =
    let t = c.args.tables.now in
    driven.less_left t.files (driven.few_lent _ _ c.files.ensures) _ _ c.is_lent.result (c.is_lent.ensures ∙ ap (λ fs. is_lent fs c.loop-sheet.sweep.file) c.files.ensures) _ c.step-sweep.ensures c.loop-sheet-test.true

pub loop-sheet-preserved : goal.loop-sheet-preserved
loop-sheet-preserved c =
    let t = c.args.tables.now in
    driven.same_end t.files (driven.few_lent _ _ c.files.ensures) _ _ c.is_lent.result (c.is_lent.ensures ∙ ap (λ fs. is_lent fs c.loop-sheet.sweep.file) c.files.ensures) _ c.step-sweep.ensures c.loop-sheet-test.true ∙ c.loop-sheet.invariant

pub returns : goal.returns
returns c =
    let t = c.args.tables.now in
    driven.all_told t.files (driven.few_lent _ _ c.files.ensures) _ _ c.is_lent.result (c.is_lent.ensures ∙ ap (λ fs. is_lent fs c.loop-sheet.sweep.file) c.files.ensures) _ c.loop-sheet-test.false c.loop-sheet.invariant
