-- Numbers as bytes in little-endian order, for worked examples.
use Rattle.std.proofs.Common.{ℕ, zero, suc, ◌/◌, ◌%◌, List, [], ◌∷◌, ◌++◌}

-- A number as k bytes.
abbrev pub bytes_of : ℕ → ℕ → List ℕ
bytes_of zero n = []
bytes_of (suc k) n = n % 256 ∷ bytes_of k (n / 256)

-- Numbers of four bytes each, and of eight.
abbrev pub fours : List ℕ → List ℕ
fours [] = []
fours (w ∷ ws) = bytes_of 4 w ++ fours ws

abbrev pub eights : List ℕ → List ℕ
eights [] = []
eights (w ∷ ws) = bytes_of 8 w ++ eights ws
