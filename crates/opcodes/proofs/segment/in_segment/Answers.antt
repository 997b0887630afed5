use Rattle.std.proofs.Common.{sym, ◌∙◌}
use Rattle.std.proofs.lemmas.Iterator.Consumers.{nth_from_yields_List, YieldsList-from_first}
use Rattle.std.proofs.lemmas.Result.{err_from_is_err_and}
use Rattle.macho.specs.Commands.{offsets}
use Rattle.opcodes.proofs.Bindings as laws
use Rattle.fixups.proofs.Options.{some_of, none_of}
use Rattle.opcodes.proofs.segment.in_segment.Goals as goal

pub returns-in_err-at : goal.returns-in_err-at
returns-in_err-at c =
    let got = nth_from_yields_List c.nth.result c.nth.new.self c.args.index c.nth.ensures.ran (YieldsList-from_first (λ x. x) offsets _ c.of_kind.ensures) in
    let p = err_from_is_err_and c.from_residual.result c.from_residual.ensures.1 in
    let q = none_of _ c.nth.result c.in_err-at.field-0.0 (sym c.ok_or.ensures.value ∙ c.in_err-at.was) in
    rw (p.1, p.2, q.1) (laws.segment_none _ _ _ _ _ (rw q.0 at got))

pub returns : goal.returns
returns c =
    let got = nth_from_yields_List c.nth.result c.nth.new.self c.args.index c.nth.ensures.ran (YieldsList-from_first (λ x. x) offsets _ c.of_kind.ensures) in
    let e = some_of _ c.nth.result c.in_ok-at.at (sym c.ok_or.ensures.value ∙ c.in_ok-at.was) in
    laws.segment_at _ _ _ _ _ _ (rw e at got) _ c.with_segment.ensures
