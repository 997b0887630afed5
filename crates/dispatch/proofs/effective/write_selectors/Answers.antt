use mathlib.Core.Path.{refl}
use Rattle.std.proofs.Common.{rules, ap, ◌∙◌}
use Rattle.dispatch.specs.RowsLeft.{reached_left}
use Rattle.dispatch.proofs.Places.{rows_ordered}
use Rattle.dispatch.proofs.Scans.{noting_start, noting_room, noting_row, noting_all, noting_end, wrote_all}
use Rattle.dispatch.proofs.effective.write_selectors.Goals as goal

pub loop-b-init : goal.loop-b-init
loop-b-init c = (noting_start _ _ _ (rows_ordered c.args.rows.now) (ap reached_left c.into_iter-b-iterator.ensures.into_iter_gives ∙ c.reachable-b-items.ensures), refl)

pub note-requires : goal.note-requires
note-requires c = noting_room _ _ _ c.requires.1 c.loop-b.invariant.0

pub loop-b-preserved : goal.loop-b-preserved
loop-b-preserved c = (
  noting_row _ _ _ c.loop-b.invariant.0 c.in-Some.ensures.steps c.requires.1 (rw c.files-files.ensures at c.note.ensures.noted),
  c.note.ensures.kept.words ∙ c.loop-b.invariant.1,
)

pub name-requires : goal.name-requires
name-requires c = noting_room _ _ _ c.requires.1 c.loop-b.invariant.0

pub returns : goal.returns
returns c =
    let same = c.name.ensures.kept.words ∙ c.loop-b.invariant.1 in
    let tabled = noting_end _ _ _ c.requires.1 (noting_all _ _ _ c.loop-b.invariant.0 c.in-None.ensures.steps.0) in
    let wrote = wrote_all _ _ _ (rows_ordered c.args.rows.now) c.requires.0 tabled c.name.ensures.named in
    rw c.name.ensures.count (search rules)
