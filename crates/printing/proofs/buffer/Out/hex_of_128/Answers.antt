use native.Mathlib.Omega.{arith}
use Prim.Native.Nat.{◌+◌, ◌*◌, ◌/◌, ◌%◌, ◌^◌}
use mathlib.Core.Path.{◌≡◌, ap, ◌∙◌}
use Rattle.printing.specs.Buffer.{hex_text}
use Rattle.printing.proofs.NumberTexts.{two_words}
use Rattle.printing.proofs.Puts.{puts_same, puts_then}
use Rattle.printing.proofs.buffer.Out.hex_of_128.Goals as goal

pub returns-then-high-eq0 : goal.returns-then-high-eq0
returns-then-high-eq0 c =
    let n = c.args.n in
    let whole : n % 2 ^ 64 ≡ n = omega (arith, c.if-high-eq0.true) in
    puts_same (ap hex_text whole) c.hex.ensures

pub returns : goal.returns
returns c =
    let n = c.args.n in
    let whole : n / 2 ^ 64 * 2 ^ 64 + n % 2 ^ 64 ≡ n = omega arith in
    puts_same (two_words (n / 2 ^ 64) (n % 2 ^ 64) (omega (arith, c.if-high-eq0.false)) (omega (arith, c.ranges.n.fits)) (omega arith) ∙ ap hex_text whole)
    (puts_then c.hex-2.ensures c.hex_word.ensures)
