use mathlib.Core.Path.{ap}
use Rattle.std.proofs.lemmas.Result.{err_from_is_err_and}
use Rattle.encodings.proofs.Answers.{answers_missing, answers_number, answers_value}
use Rattle.encodings.proofs.words.type_words.Goals as goal
use Rattle.reads.specs.Answer.{outcome}

pub returns-in_err-count : goal.returns-in_err-count
returns-in_err-count c =
    let a = c.args in
    let p = err_from_is_err_and c.from_residual.result c.from_residual.ensures.1 in
    let h = answers_missing a.text.now a.buffer.now c.read_types.ensures _ (ap outcome c.in_err-count.was) in
    rw (p.1, p.2) (record { outcome = h.0; contents = h.1 })

pub returns-then-count-buffer : goal.returns-then-count-buffer
returns-then-count-buffer c =
    let a = c.args in
    let h =
    answers_number a.text.now a.buffer.now c.read_types.ensures _ (ap outcome c.in_ok-count.was)
    c.if-count-buffer.true
    in
    record { outcome = h.0; contents = h.1 }

pub returns : goal.returns
returns c =
    let a = c.args in
    let h =
    answers_value a.text.now a.buffer.now c.read_types.ensures _ (ap outcome c.in_ok-count.was)
    c.if-count-buffer.false c.read_types-2.ensures
    in
    record { outcome = h.0; contents = h.1 }
