use mathlib.Core.Path.{sym, ap, ◌∙◌}
use Rattle.reads.specs.Answer.{answered}
use Rattle.printing.specs.Pieces.{begun}
use Rattle.filelist.proofs.FileAnswers.{begins_framed, begins_refused}
use Rattle.filelist.proofs.file.list_by.Goals as goal

pub returns-in-Ok : goal.returns-in-Ok
returns-in-Ok c =
    let a = c.args in
    let l = a.lent.now in
    let said = c.begin.ensures in
    let taken = sym c.new.ensures ∙ ap answered c.in-Ok.is in
    let b = begins_framed a.ranges a.file.now l.segments.now l.sections.now l.rebases.now l.binds.now l.index.now _ c.index_words-words.ensures _ taken
    _ said.answer in
    record { kept = said.kept; answer = b.answer; progress = said.progress ∙ ap (begun a.setting) b.framed; left = said.left ∙ b.left }

pub returns-in-Err : goal.returns-in-Err
returns-in-Err c =
    let a = c.args in
    let l = a.lent.now in
    let said = c.begin-in-Err.ensures in
    let refused = sym c.new.ensures ∙ ap answered c.in-Err.is in
    let b = begins_refused a.ranges a.file.now l.segments.now l.sections.now l.rebases.now l.binds.now l.index.now _ c.index_words-words.ensures _ refused
    _ said.answer in
    record { kept = said.kept; answer = b.answer; progress = said.progress ∙ ap (begun a.setting) b.framed; left = said.left ∙ b.left }
