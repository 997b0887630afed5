use Rattle.std.proofs.Common.{◌≡◌, take}
use Rattle.listing.specs.Bundle.{words_from}
use Rattle.listing.proofs.bundle.words_at.Given as goal

-- The first i words are written.
abbrev pub invariant-loop-i : goal.invariant-loop-i
invariant-loop-i l = take l.i l.to ≡ words_from l.bundle l.offset l.i
