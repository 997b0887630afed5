use mathlib.Core.Path.{sym, ap, ◌∙◌}
use native.Mathlib.Omega.{arith}
use Rattle.std.proofs.lemmas.Result.{err_from_is_err_and}
use Rattle.ancestry.proofs.Climbs.{passed}
use Rattle.ancestry.proofs.UnfollowedRows.{index_room, told_tally}
use Rattle.ancestry.proofs.Answers.{left_missed, left_short, left_written}
use Rattle.ancestry.proofs.class_list.write_asked.Goals as goal
use Rattle.reads.specs.Answer.{answered}

pub chains_fall-together-requires : goal.chains_fall-together-requires
chains_fall-together-requires c =
    let a = c.args in
    index_room c.args.asked.now.tables.now (passed _ c.args.asked.now.passes)

pub returns-in_err-count : goal.returns-in_err-count
returns-in_err-count c =
    let a = c.args in
    let p = err_from_is_err_and c.from_residual.result c.from_residual.ensures.1 in
    rw (p.1, p.2) (left_missed _ a.classes.now a.res.now (passed _ c.args.asked.now.passes) _
    (c.in_err-count.ensures ∙ told_tally _ c.chains_fall-together.result a.classes.now c.chains_fall-together.ensures))

pub returns-then-res-count : goal.returns-then-res-count
returns-then-res-count c =
    let a = c.args in
    left_short _ a.classes.now a.res.now (passed _ c.args.asked.now.passes) c.in_ok-count.count
    (sym (ap answered c.in_ok-count.was) ∙ c.count_all.ensures ∙ told_tally _ c.chains_fall-together.result a.classes.now c.chains_fall-together.ensures) (omega arith)

pub returns : goal.returns
returns c =
    let a = c.args in
    left_written _ a.classes.now a.res.now (passed _ c.args.asked.now.passes) c.in_ok-count.count
    (sym (ap answered c.in_ok-count.was) ∙ c.count_all.ensures ∙ told_tally _ c.chains_fall-together.result a.classes.now c.chains_fall-together.ensures) (omega arith) _ c.fill.ensures
