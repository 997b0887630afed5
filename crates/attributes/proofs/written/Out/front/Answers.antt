use mathlib.Core.Path.{ap}
use lib.ListN.{length}
use native.Mathlib.Omega.{arith}
use Rattle.attributes.proofs.PutParts.{lettered_start, lettered_next, lettered_end}
use Rattle.attributes.proofs.written.Out.front.Goals as goal

pub loop-letter-init : goal.loop-letter-init
loop-letter-init c = lettered_start c.args.text.now c.front-letter-items.result

pub loop-letter-preserved : goal.loop-letter-preserved
loop-letter-preserved c =
    lettered_next c.args.text.now c.front-letter-items.result _ (omega arith) (omega (arith, ap length c.front-letter-items.ensures, c.loop-letter-test.true))
    c.loop-letter.invariant c.attribute.ensures

pub returns : goal.returns
returns c =
    lettered_end c.args.text.now _ c.args.declared c.front-letter-items.ensures
    (omega (arith, ap length c.front-letter-items.ensures, c.loop-letter-test.false)) c.loop-letter.invariant
