use Prim.Native.Nat.{◌<◌}
use lib.ListN.{length}
use mathlib.Core.Path.{sym, ap, ◌∙◌}
use native.Mathlib.Omega.{arith}
use Rattle.std.proofs.lemmas.Result.{err_from_is_err_and}
use Rattle.dispatch.specs.SlotSources.{category_slots}
use Rattle.dispatch.proofs.Asking.{each_stop}
use Rattle.dispatch.proofs.asks.ask_each.Goals as goal
use Rattle.reads.specs.Answer.{answered}

pub returns-in_err-ask : goal.returns-in_err-ask
returns-in_err-ask g c = λ s h.
    let below : c.loop-k.k < length (category_slots c.args.sections.now) = omega (arith, c.slot_count-k-end.ensures) in
    let p = err_from_is_err_and c.from_residual.result c.from_residual.ensures.1 in
    rw (p.1, p.2) (each_stop s _ c.loop-k.k below (sym (h _ _ below c.ask.ensures) ∙ ap answered c.in_err-ask.was) ∙ c.loop-k.invariant s h)
