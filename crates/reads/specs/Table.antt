-- A table that is lent as words: records of `width` words each, counted from 0. A last partial record is none.
use Rattle.std.specs.Prelude.{ℕ, zero, suc, ◌+◌, ◌*◌, ◌/◌, List, [], ◌∷◌, length, slice_index}

-- How many records a table has.
abbrev pub records : ℕ → List ℕ → ℕ
records width table = length table / width

-- Word k of record i.
abbrev pub word_of : ℕ → List ℕ → ℕ → ℕ → ℕ
word_of width table i k = slice_index table (i * width + k)

-- f i, f (i + 1), .. : n of them.
unfoldable pub tabulate : {A : Type 0} → (ℕ → A) → ℕ → ℕ → List A
tabulate f i zero = []
tabulate f i (suc n) = f i ∷ tabulate f (suc i) n
