use Rattle.std.proofs.Common.{◌≡◌}
use Rattle.reads.specs.Segment.{rows, rows_left}
use Rattle.reads.specs.Spot.{spot_from}
use Rattle.reads.proofs.spot.spot_in.Given as goal

abbrev pub invariant-loop-s : goal.invariant-loop-s
invariant-loop-s l = spot_from l.far (rows_left l.s-iterator) l.va ≡ spot_from 0 (rows l.segments) l.va
