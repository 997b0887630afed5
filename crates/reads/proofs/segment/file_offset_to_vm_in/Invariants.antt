use Rattle.std.proofs.Common.{◌≡◌}
use Rattle.reads.specs.Segment.{rows, rows_left, address_of}
use Rattle.reads.proofs.segment.file_offset_to_vm_in.Given as goal

abbrev pub invariant-loop-s : goal.invariant-loop-s
invariant-loop-s l = address_of (rows_left l.s-iterator) l.file l.offset ≡ address_of (rows l.segments) l.file l.offset
