use mathlib.Core.Path.{◌≡◌, refl, sym, ap, ◌∙◌}
use mathlib.Core.Bool.{false}
use Rattle.std.proofs.lemmas.Result.{err_from_is_err_and}
use Rattle.reads.proofs.Outcomes.{on_value}
use Rattle.reads.specs.Outcome.{value}
use Rattle.pointers.specs.Tables.{Tables}
use Rattle.records.specs.Class.{class_at}
use Rattle.ancestry.specs.Ancestry.{ancestry_of}
use Rattle.ancestry.proofs.Known.{class_of}
use Rattle.ancestry.proofs.Loops.{at_address}
use Rattle.ancestry.proofs.class_chain.ancestry_at.Goals as goal
use Rattle.reads.specs.Answer.{outcome}

pub climb_from-requires : goal.climb_from-requires
climb_from-requires c =
    let a = c.args in
    let t : Tables = c.args.asked.now.tables.now in
    let s : class_at t a.va false ≡ value c.in_ok-class.class = sym c.class_at.ensures ∙ ap outcome c.in_ok-class.was in
    at_address t a.va false c.in_ok-class.class refl s

pub returns-in_err-climb_from : goal.returns-in_err-climb_from
unfolding ancestry_of
returns-in_err-climb_from c =
    let a = c.args in
    let t : Tables = c.args.asked.now.tables.now in
    let s : class_at t a.va false ≡ value c.in_ok-class.class = sym c.class_at.ensures ∙ ap outcome c.in_ok-class.was in
    let at = (class_of t a.va false c.in_ok-class.class s).address in
    let p = err_from_is_err_and c.from_residual-in_err-climb_from.result c.from_residual-in_err-climb_from.ensures.1 in
    rw (p.1, p.2) (on_value outcome _ c.class_at.ensures c.in_ok-class.was refl (rw at at c.in_err-climb_from.ensures))

pub returns : goal.returns
unfolding ancestry_of
returns c =
    let a = c.args in
    let t : Tables = c.args.asked.now.tables.now in
    let s : class_at t a.va false ≡ value c.in_ok-class.class = sym c.class_at.ensures ∙ ap outcome c.in_ok-class.was in
    let at = (class_of t a.va false c.in_ok-class.class s).address in
    on_value outcome _ c.class_at.ensures c.in_ok-class.was refl (rw at at c.in_ok-climb_from.ensures)
