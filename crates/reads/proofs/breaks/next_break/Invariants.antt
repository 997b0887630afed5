-- The invariant: the best so far and the rows that are left give what all rows give.
use Rattle.reads.proofs.BreakSteps.{lowest}
use Rattle.std.proofs.Common.{◌≡◌}
use Rattle.reads.specs.Files.{files_lent}
use Rattle.reads.specs.Segment.{rows, rows_left}
use Rattle.reads.specs.Breaks.{next_break, breaks}
use Rattle.reads.proofs.breaks.next_break.Given as goal

abbrev pub invariant-loop-s : goal.invariant-loop-s
invariant-loop-s l = lowest l.va l.best (breaks (files_lent l.image-inside.files.now) l.least (rows_left l.s-iterator)) ≡ next_break (breaks (files_lent l.image-inside.files.now) l.least (rows l.image-inside.segments.now)) l.va
