use Rattle.std.proofs.Common.{arith}
use Rattle.records.specs.Row.{decode_small_method}
use Rattle.usage.proofs.NotedBy.{notes}
use Rattle.usage.proofs.noting.Noting.note_small_method.Goals as goal

pub returns-in_err-note_small_texts : goal.returns-in_err-note_small_texts
unfolding decode_small_method
returns-in_err-note_small_texts c = grind (arith, notes)
