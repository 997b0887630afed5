use borrow.Author.Tests.{eq-eqb, ne_eqb}
use mathlib.Core.Path.{◌≡◌, ap}
use mathlib.Core.Bool.{true, false, not}
use Rattle.pointers.specs.ImageInfo.{bit}
use Rattle.pointers.proofs.Flags.{bit_by}
use mathlib.Core.Path.{sym, ◌∙◌}
use Rattle.records.specs.Class.{is_swift}
use Rattle.records.proofs.class.ObjcClass.is_swift.Goals as goal

pub returns-then-self-ne0 : goal.returns-then-self-ne0
unfolding is_swift
returns-then-self-ne0 c = let e : bit 0 c.args.self.bits ≡ true = sym (bit_by 0 c.args.self.bits) ∙ ap not (ne_eqb _ _ c.if-self-ne0.true) in rw e

pub returns : goal.returns
unfolding is_swift
returns c = let e : bit 0 c.args.self.bits ≡ false = sym (bit_by 0 c.args.self.bits) ∙ ap not (eq-eqb _ _ c.if-self-ne0.false) in rw e (bit_by 1 _)
