use Rattle.std.proofs.Common.{ap, sym, ◌∙◌}
use Rattle.reads.specs.Text.{text_of_scan}
use Rattle.reads.specs.Begun.{text_begun, read_begun}
use Rattle.reads.specs.declared.text.Scan.{Scan}
use Rattle.reads.proofs.PlainBytes.{scan_ends}
use Rattle.reads.proofs.text.Begun.finish.Goals as goal

-- The pass came to the end of the text, and all of it is well-formed.
pub returns-then-b-eq0 : goal.returns-then-b-eq0
returns-then-b-eq0 c =
    let whole = c.good_scan.ensures ∙ scan_ends c.past_plain-b.ensures c.if-b-eq0.true in (
      c.read_of_scan.ensures.0 ∙ ap (text_of_scan c.args.reading c.in-Ok.t.place) whole ∙ sym (ap (text_begun c.args.reading) c.in-Ok.is),
      c.read_of_scan.ensures.1 ∙ ap (λ (x : Scan). x.read) whole ∙ sym (ap read_begun c.in-Ok.is),
    )
