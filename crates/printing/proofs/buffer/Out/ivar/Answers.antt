use mathlib.Core.Path.{◌≡◌}
use Rattle.std.specs.Int.{from_bool}
use Rattle.std.specs.Option.{option_map}
use borrow.Author.Rules.{rules}
use Rattle.printing.specs.LineText.{ivar_text}
use Rattle.printing.proofs.Puts.{puts_then}
use Rattle.printing.proofs.TextFields.{aligned_number}
use Rattle.printing.proofs.buffer.Out.ivar.Goals as goal

pub returns : goal.returns
unfolding ivar_text
returns c =
    let offset : c.map.result ≡ c.args.v.offset = search rules in
    let alignment : c.map-2.result ≡ c.args.v.log2_alignment = search rules in
    let aligned : c.map-3.result ≡ option_map from_bool c.args.v.aligned = search rules in
    rw (← offset, ← alignment, ← aligned_number c.args.v.aligned, ← aligned)
    (puts_then c.start.ensures (puts_then c.texts.ensures (puts_then c.optional.ensures (puts_then c.number.ensures (puts_then c.optional-2.ensures c.optional-3.ensures)))))
