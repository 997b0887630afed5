-- Numbers in bytes, in big-endian order.
use Rattle.std.specs.Prelude.{ℕ, ◌+◌, List, leb, length}
use Rattle.reads.specs.Outcome.{choose}
use Rattle.reads.specs.Place.{be, part}

-- The number of k bytes at an offset; 0 where they do not lie in the bytes.
unfoldable pub be_in : List ℕ → ℕ → ℕ → ℕ
be_in bytes k at = choose (leb (at + k) (length bytes)) (be (part bytes at k)) 0
