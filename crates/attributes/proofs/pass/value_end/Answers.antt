use mathlib.Core.Path.{ap, ◌∙◌}
use native.Mathlib.Omega.{arith}
use Rattle.attributes.proofs.ValueEnds.{passed_start, passed_end, passed_comma, passed_quote, passed_quoted, passed_other, value_cut, length_cut}
use Rattle.std.proofs.Common.{not, ◌+◌}
use Rattle.attributes.proofs.pass.value_end.Goals.{then-b-eq34, else-b-eq34+else-b-eq44, else-b-eq44-via-then-b-eq44+else-not-quoted, else-b-eq44-via-else-b-eq44}
use Rattle.attributes.proofs.pass.value_end.Goals as goal

pub loop-i-init : goal.loop-i-init
loop-i-init c = passed_start _

pub returns-then-not-quoted : goal.returns-then-not-quoted
returns-then-not-quoted c =
    let a = c.args in
    ap (λ n. a.start + n)
    (passed_comma c.loop-i.invariant c.loop-i-test.true c.if-b-eq44.true (ap not c.if-not-quoted.true) ∙ value_cut a.text.now a.start)

pub loop-i-preserved : goal.loop-i-preserved
loop-i-preserved c =
    let at = c.loop-i.invariant in
    let h = c.loop-i-test.true in
    elim c.if-b-eq34.branch [
      | then-b-eq34 w ↦ rw w.quoted-is (passed_quote at h w.if-b-eq34.true)
      | else-b-eq34+else-b-eq44 w ↦ rw w.quoted-is (elim w.else-b-eq44.branch [
        | else-b-eq44-via-then-b-eq44+else-not-quoted v ↦ passed_quoted at h v.if-b-eq44.true (ap not v.if-not-quoted.false)
        | else-b-eq44-via-else-b-eq44 v ↦ passed_other at h w.if-b-eq34.false v.if-b-eq44.false
      ])
    ]

pub returns : goal.returns
returns c =
    let a = c.args in
    omega (arith, c.requires, passed_end c.loop-i.invariant c.loop-i-test.false, value_cut a.text.now a.start, length_cut a.text.now a.start)
