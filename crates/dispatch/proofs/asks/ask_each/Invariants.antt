use mathlib.Core.Path.{◌≡◌}
use lib.ListN.{drop}
use Prim.Native.Nat.{ℕ}
use Rattle.reads.specs.Outcome.{Outcome}
use Rattle.dispatch.specs.SlotSources.{category_slots}
use Rattle.dispatch.specs.Asking.{each_settled, AnswersAt}
use Rattle.dispatch.proofs.asks.ask_each.Given as goal

abbrev pub invariant-loop-k : goal.invariant-loop-k
invariant-loop-k g l =
    (s : ℕ → Outcome (Unit {0})) → AnswersAt (goal.F-post g l.ask) s (category_slots l.sections)
    → each_settled s (drop l.k (category_slots l.sections)) ≡ each_settled s (category_slots l.sections)
