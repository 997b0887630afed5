use Rattle.macho.proofs.Tables as laws
use Rattle.macho.proofs.Commands.{all_good, first_good}
use native.Mathlib.Omega.{arith}
use mathlib.Core.Path.{ap, sym, ◌∙◌}
use Rattle.macho.specs.Commands.{offsets}
use Rattle.macho.specs.Loader.{segment_kind}
use Rattle.macho.proofs.section.section_named.Goals as goal

pub loop-at-init : goal.loop-at-init
loop-at-init c =
    let a = c.args in let e = ap offsets c.into_iter-at-iterator.ensures.into_iter_gives ∙ c.of_kind-at-items.ensures in
    (rw e, rw e (all_good segment_kind a.cmds.bytes.now a.cmds.count 0))

pub overflow_add-at : goal.overflow_add-at
overflow_add-at c =
    let f = first_good segment_kind c.args.cmds.bytes.now _ _ _ c.loop-at.invariant.1 c.in-Some.ensures.steps in
    let s = f.here.sections f.kinded in let r = f.here.all in omega arith

pub section_in-s-requires : goal.section_in-s-requires
section_in-s-requires c =
    let f = first_good segment_kind c.args.cmds.bytes.now _ _ _ c.loop-at.invariant.1 c.in-Some.ensures.steps in
    let s = f.here.sections f.kinded in let r = f.here.all in omega (arith, c.field32.ensures.0)

pub returns-then-is_some : goal.returns-then-is_some
returns-then-is_some c =
    laws.sections_here c.args.cmds.bytes.now c.args.name.now _ _ _ _ _ c.in-Some.ensures.steps c.field32.ensures.0 c.section_in-s.ensures (sym c.is_some.ensures ∙ c.if-is_some.true) ∙ sym c.loop-at.invariant.0

pub loop-at-preserved : goal.loop-at-preserved
loop-at-preserved c = (
  c.loop-at.invariant.0 ∙ laws.sections_next c.args.cmds.bytes.now c.args.name.now _ _ _ _ _ c.in-Some.ensures.steps c.field32.ensures.0 c.section_in-s.ensures (sym c.is_some.ensures ∙ c.if-is_some.false),
  (first_good segment_kind c.args.cmds.bytes.now _ _ _ c.loop-at.invariant.1 c.in-Some.ensures.steps).later,
)

pub returns : goal.returns
returns c = laws.sections_end c.args.cmds.bytes.now c.args.name.now _ c.in-None.ensures.steps.0 ∙ sym c.loop-at.invariant.0
