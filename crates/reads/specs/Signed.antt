-- Two's complement.
use Rattle.std.specs.Prelude.{ℕ, Bool, ℤ, pos, ◌-ℤ◌}
use Rattle.reads.specs.Outcome.{choose}

-- The signed number of bits that say n: n, less 2 to the number of bits where the sign bit is set.
unfoldable pub twos : Bool → ℕ → ℕ → ℤ
twos sign n size = choose sign (pos n -ℤ pos size) (pos n)
