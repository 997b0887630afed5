use Rattle.std.proofs.Common.{ℕ, Bool, true, ◌≡◌, ◌<◌}
use Rattle.pointers.specs.Question.{every}
use Rattle.pointers.proofs.table.every.Given as goal

-- The first i rows pass.
abbrev pub invariant-loop-i : goal.invariant-loop-i
invariant-loop-i g l =
    (test : ℕ → Bool) → ((k : ℕ) (r : Bool) → k < l.n → goal.F-post g l.passes k r → r ≡ test k) → every test l.i ≡ true
