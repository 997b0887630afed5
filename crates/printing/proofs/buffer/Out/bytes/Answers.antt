use mathlib.Core.Path.{refl}
use native.Mathlib.Omega.{arith}
use Rattle.printing.proofs.Puts.{put_passed, put_full, put_copied}
use borrow.Author.Rules.{rules}
use Rattle.printing.proofs.buffer.Out.bytes.Goals as goal

pub returns-then-s-self : goal.returns-then-s-self
returns-then-s-self c = record { same = refl; put = put_passed _ c.args.s.now _ _ (omega arith) }

pub returns-then-self : goal.returns-then-self
returns-then-self c = record { same = refl; put = put_full _ c.args.s.now _ _ (omega arith) (omega arith) }

pub returns : goal.returns
returns c =
    record {
      same = refl;
      put =
          put_copied _ c.args.s.now _ _ _ _ (omega arith) (omega arith) (search rules)
          c.copy.ensures;
    }
