use lib.ListN.{length}
use mathlib.Core.Path.{ap, sym, ◌∙◌}
use Rattle.universal.specs.Parts.{in_file}
use Rattle.std.proofs.lemmas.Result.{err_from_is_err_and}
use Rattle.universal.proofs.Tables.{part_missed}
use Rattle.universal.proofs.part.fat_wanted.Goals as goal

pub returns-in_err-p : goal.returns-in_err-p
returns-in_err-p c =
    let a = c.args in
    let p = err_from_is_err_and c.from_residual.result c.from_residual.ensures.1 in
    let here = ap (in_file (length a.table.file.now)) (sym c.arch_at.ensures) ∙ sym c.in_file.ensures ∙ c.in_err-p.was in
    rw (p.1, p.2) (part_missed a.table.file.now a.table.kind a.wanted _ _ _ a.table.counted a.table.inside (sym c.chosen.ensures ∙ c.in-Some.is) here)
