-- The invariant: the longest so far and the longest of the files from f on are the longest of all.
use Rattle.std.proofs.Common.{◌≡◌, max, drop}
use Rattle.reads.specs.Files.{files_lent, longest}
use Rattle.reads.proofs.files.longest.Given as goal

abbrev pub invariant-loop-f : goal.invariant-loop-f
invariant-loop-f l = max l.n (longest (drop l.f (files_lent l.files))) ≡ longest (files_lent l.files)
