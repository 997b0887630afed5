-- A sheet (src/sheet.rt): the bytes of a window of a file that are used, as bits, and the least used byte past it.
use Rattle.std.specs.Prelude.{ℕ, zero, suc, ◌+◌, ◌-◌, ◌/◌, ◌%◌, ◌^◌, min, max, Bool, List, [], ◌∷◌, ltb, eqb, get_or, set, replicate}
use Rattle.std.specs.Int.Bits.{bit_or}
use Rattle.reads.specs.Outcome.{choose}
use Rattle.ranges.specs.Range.{Range}

abbrev pub window : ℕ
window = 2097152

-- The words of a sheet: three, and a bit for each byte of the window.
abbrev pub sheet_words : ℕ
sheet_words = 32771

-- The first three words: the file, the window's first byte, and from there to the least byte past the window that is known to be used.
abbrev pub sheet_file : List ℕ → ℕ
sheet_file m = get_or m 0 0

abbrev pub sheet_from : List ℕ → ℕ
sheet_from m = get_or m 1 0

abbrev pub sheet_next : List ℕ → ℕ
sheet_next m = get_or m 2 0

-- Bit i of a word.
unfoldable pub bit_of : ℕ → ℕ → Bool
bit_of w i = eqb (w / 2 ^ i % 2) 1

-- Byte k of the window is marked; and byte b of the file, in a window from `from` on.
unfoldable pub marked_at : List ℕ → ℕ → Bool
marked_at m k = bit_of (get_or m (k / 64 + 3) 0) (k % 64)

unfoldable pub shown : ℕ → List ℕ → ℕ → Bool
shown from m b = marked_at m (b - from)

-- A sheet with other first words.
unfoldable pub headed : ℕ → ℕ → ℕ → List ℕ → List ℕ
headed file from next m = set (set (set m 0 file) 1 from) 2 next

-- A sheet on which nothing is noted.
unfoldable pub blank : ℕ → ℕ → ℕ → List ℕ
blank file from next = headed file from next (replicate sheet_words 0)

unfoldable pub with_bit : List ℕ → ℕ → List ℕ
with_bit m k = set m (k / 64 + 3) (bit_or (get_or m (k / 64 + 3) 0) (2 ^ (k % 64)))

unfoldable pub with_bits : List ℕ → ℕ → ℕ → List ℕ
with_bits m k zero = m
with_bits m k (suc n) = with_bit (with_bits m k n) (k + n)

unfoldable pub lowered_to : List ℕ → ℕ → List ℕ
lowered_to m x = set m 2 (min x (sheet_next m))

-- `left` bytes noted, `first` bytes from the window's first on: those in the window as bits, the least of the rest in word 2.
unfoldable pub noted_from : ℕ → ℕ → List ℕ → List ℕ
noted_from first left m =
    choose (ltb (window - first) left)
    (lowered_to (with_bits m first (window - first)) (max first window))
    (with_bits m first left)

-- A range noted: its bytes from the window's first on, if it lies in the sheet's file.
unfoldable pub noted : Range → List ℕ → List ℕ
noted r m =
    choose (eqb r.file (sheet_file m))
    (noted_from (r.offset - sheet_from m) (r.len - (sheet_from m - r.offset)) m)
    m

unfoldable pub noted_all : List Range → List ℕ → List ℕ
noted_all [] m = m
noted_all (r ∷ rs) m = noted_all rs (noted r m)
