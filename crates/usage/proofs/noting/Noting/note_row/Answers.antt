use mathlib.Core.Path.{◌∙◌}
use Rattle.records.specs.Row.{decode_row, decode_small_method}
use Rattle.records.specs.declared.method.Selectors.TheVariants.{Indirect, Direct}
use Rattle.records.specs.declared.row.Row.TheVariants as row
use Rattle.usage.proofs.Passes.{reads_same}
use Rattle.usage.proofs.noting.Noting.note_row.Goals as goal

pub returns-in-SmallIndirect : goal.returns-in-SmallIndirect
unfolding decode_row
returns-in-SmallIndirect c =
    rw c.in-SmallIndirect.is (c.note_small_method.ensures ∙ reads_same (decode_small_method c.args.va Indirect) row.Method c.args.self.now)

pub returns-in-SmallDirect : goal.returns-in-SmallDirect
unfolding decode_row
returns-in-SmallDirect c =
    rw c.in-SmallDirect.is (c.note_small_method-in-SmallDirect.ensures ∙ reads_same (decode_small_method c.args.va Direct) row.Method c.args.self.now)
