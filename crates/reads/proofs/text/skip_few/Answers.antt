use Rattle.std.proofs.Common.{sym, ◌∙◌}
use Rattle.reads.proofs.PlainBytes.{few_skipped, run_behind, skipped_on}
use Rattle.reads.proofs.text.skip_few.Goals as goal

pub skip_plain-requires : goal.skip_plain-requires
skip_plain-requires c =
    let few = few_skipped c.requires c.read_byte.ensures c.onward.ensures c.onward-2.ensures c.onward-b.ensures in
    (run_behind few (sym c.plain.ensures ∙ c.if-plain.true)).within

pub returns-then-plain : goal.returns-then-plain
returns-then-plain c =
    let few = few_skipped c.requires c.read_byte.ensures c.onward.ensures c.onward-2.ensures c.onward-b.ensures in
    skipped_on (run_behind few (sym c.plain.ensures ∙ c.if-plain.true)) c.skip_plain.ensures

pub returns : goal.returns
returns c = few_skipped c.requires c.read_byte.ensures c.onward.ensures c.onward-2.ensures c.onward-b.ensures
