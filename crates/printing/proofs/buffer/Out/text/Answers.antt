use Rattle.std.proofs.Common.{not, sym, ap, ◌∙◌}
use borrow.Author.Tests.{not-true, not-false}
use Rattle.printing.proofs.Puts.{puts_same}
use Rattle.printing.proofs.TextFields.{text_outside, text_inside}
use Rattle.printing.proofs.buffer.Out.text.Goals as goal

pub returns-then-not-name_inside : goal.returns-then-not-name_inside
returns-then-not-name_inside c =
    puts_same (text_outside _ _ (sym c.name_inside.ensures ∙ not-true _ (ap not c.if-not-name_inside.true))) c.none.ensures

pub returns : goal.returns
returns c =
    puts_same (text_inside _ _ (sym c.name_inside.ensures ∙ not-false _ (ap not c.if-not-name_inside.false)) _ c.name_bytes.ensures.bytes) c.string.ensures
