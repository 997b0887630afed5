use mathlib.Core.Path.{◌≡◌}
use Prim.Native.Nat.{◌+◌, ◌*◌}
use lib.ListN.{length}
use lib.Seq.{sets}
use Rattle.reads.specs.Segment.{segment_words}
use Rattle.macho.specs.Commands.{segments_of, offsets}
use Rattle.macho.specs.Segments.{segment_rows, segment_table_of}
use Rattle.macho.proofs.segment.write_segments.Given as goal

abbrev pub invariant-loop-k : goal.invariant-loop-k
invariant-loop-k l =
    (sets l.table (segment_words * l.k-iterator.count) (segment_rows l.cmds.bytes.now (offsets l.k-iterator.iter)) ≡ sets l.initial.table 0 (segment_table_of l.cmds.bytes.now l.cmds.count))
    × (l.k-iterator.count + length (offsets l.k-iterator.iter) ≡ length (segments_of l.cmds.bytes.now l.cmds.count))
