use Prim.Native.Nat.{ℕ}
use native.Mathlib.Omega.{arith}
use Rattle.std.proofs.Common.{rules, tests, leb, ◌∙◌}
use Rattle.std.proofs.lemmas.Iterator.{YieldsList-from_slice}
use Rattle.std.proofs.lemmas.Iterator.Consumers.{YieldsList-at, YieldsList-from_enumerate}
use Rattle.std.proofs.lemmas.Iterator.Search.{all_from_yields_List}
use Rattle.ancestry.proofs.ChainTests.{nexts_tested}
use Rattle.ancestry.proofs.rebases.nexts_fall.Goals as goal

pub returns : goal.returns
returns c =
    all_from_yields_List (λ (p : ℕ × ℕ). leb p.1 p.0) _ _ c.all.result c.all.ensures.ran
    (YieldsList-from_enumerate (YieldsList-at c.enumerate.ensures.source (YieldsList-from_slice _ c.iter.ensures.rest)) c.enumerate.ensures.count)
    (λ x b q k. search (rules, tests))
    ∙ nexts_tested _ _ _ (omega arith) c.requires
