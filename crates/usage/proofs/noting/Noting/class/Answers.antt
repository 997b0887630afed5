use Rattle.std.proofs.Common.{arith}
use Rattle.pointers.specs.Tables.{Tables}
use Rattle.records.specs.Class.{decode_class}
use Rattle.records.specs.Decode.{run, u64_at}
use Rattle.usage.proofs.NotedBy.{notes, data_last}
use Rattle.usage.proofs.noting.Noting.class.Goals as goal

-- After the bits word nothing is noted.
pub returns : goal.returns
unfolding decode_class
returns c =
    let t : Tables = c.args.self.now.tables.now in
    let bits = c.in_ok-bits_slot.bits_slot in
    grind (arith, notes, data_last t bits (run t (u64_at bits)) c.note_word.new.self.sheet.now)
