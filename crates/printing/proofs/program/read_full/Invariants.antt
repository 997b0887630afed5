-- The bytes that the buffer has are those that the reader gave.
use Prim.Native.Nat.{◌-◌, ◌≤◌}
use lib.ListN.{length, take}
use Rattle.std.specs.Io.KnownBytes.{Consumes}
use Rattle.printing.proofs.program.read_full.Given as goal

abbrev pub invariant-loop-len : goal.invariant-loop-len
invariant-loop-len g l = (l.len ≤ length l.to) × Consumes (g.R.Read.remaining l.initial.from) (g.R.Read.remaining l.from) (take l.len l.to)

abbrev pub decreases-loop-len : goal.decreases-loop-len
decreases-loop-len g l = length l.to - l.len
