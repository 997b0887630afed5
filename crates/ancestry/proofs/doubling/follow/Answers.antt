use Prim.Native.Nat.{◌/◌}
use mathlib.Core.Path.{ap, sym, ◌∙◌}
use lib.ListN.{length}
use native.Mathlib.Omega.{arith}
use Rattle.ancestry.proofs.Rounds.{round_by}
use Rattle.ancestry.proofs.doubling.follow.Goals as goal

pub loop-reach-preserved : goal.loop-reach-preserved
loop-reach-preserved c =
    let a = c.args in
    let at = c.loop-reach in (
      omega arith,
      c.jump_all.auto.out ∙ at.invariant.1,
      λ g base e f w. round_by g a.limit.classes (length at.out / 3) at.reach base at.out _ at.invariant.0 (omega arith) e (f ∙ ap (λ n. n / 3) (sym at.invariant.1)) c.jump_all.ensures (at.invariant.2 g base e f w),
    )
