use Rattle.std.proofs.Common.{◌≡◌}
use Rattle.reads.specs.Segment.{rows, rows_left, lookup}
use Rattle.reads.proofs.segment.vm_to_file_offset_in.Given as goal

abbrev pub invariant-loop-s : goal.invariant-loop-s
invariant-loop-s l = lookup (rows_left l.s-iterator) l.va ≡ lookup (rows l.segments) l.va
