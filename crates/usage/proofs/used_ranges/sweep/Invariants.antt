use mathlib.Core.Path.{◌≡◌}
use Rattle.ranges.specs.Range.{covers}
use Rattle.ranges.specs.Runs.{merged}
use Rattle.ranges.specs.Sweep.{output, tell, reached, finished}
use Rattle.ranges.proofs.StepLaws.{remaining}
use Rattle.used.specs.Used.{file_lengths}
use Rattle.usage.specs.UsedRanges.{pass_uses}
use Rattle.usage.proofs.used_ranges.sweep.Given as goal

-- All that is put out in the end is the merged ranges.
abbrev pub invariant-loop-sheet : goal.invariant-loop-sheet
invariant-loop-sheet l =
    finished (file_lengths l.tables.files) (covers (pass_uses l.tables)) (reached l.sweep l.out)
    ≡ tell (merged (file_lengths l.tables.files) (pass_uses l.tables)) (output 0 l.initial.out)

abbrev pub decreases-loop-sheet : goal.decreases-loop-sheet
decreases-loop-sheet l = remaining (file_lengths l.tables.files) (reached l.sweep l.out)
