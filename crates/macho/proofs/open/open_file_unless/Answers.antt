use Rattle.std.proofs.Common.{refl}
use Rattle.std.proofs.lemmas.Result.{err_from_is_err_and}
use mathlib.Core.Path.{sym, ◌∙◌, ap}
use Rattle.macho.proofs.Opening as laws
use Rattle.macho.proofs.open.open_file_unless.Goals as goal
use Rattle.reads.specs.Answer.{answered}

pub fill_file-requires : goal.fill_file-requires
fill_file-requires c = sym c.ask_file.ensures ∙ ap answered c.in_ok-ask_file.was

pub returns-in_err-ask_file : goal.returns-in_err-ask_file
returns-in_err-ask_file c =
    let a = c.args in
    let p = err_from_is_err_and c.from_residual.result c.from_residual.ensures.1 in
    let r =
    laws.unasked (answered a.last) a.file.now a.lent.now.segments.now a.lent.now.sections.now a.lent.now.rebases.now a.lent.now.binds.now a.lent.now.index.now _
    (sym (ap answered c.in_err-ask_file.was) ∙ c.ask_file.ensures) in
    record {
      kept = record { segments = refl; sections = refl; index = refl; rebases = refl; binds = refl };
      outcome = rw (p.1, p.2) r.0;
      left = laws.buffers_by r.1;
    }
