-- Where the words of a record stand in its table.
use Prim.Native.Nat.{ℕ, ◌+◌, ◌*◌, ◌/◌, ◌≤◌, ◌<◌}
use native.Mathlib.Omega.{arith}
use native.Mathlib.Nat.{le-div_iff_mul-le, suc-mul}

-- Every word of record i of a table of n words is in the table.
pub word_within : (width n i k : ℕ) → k < width → i < n / width → i * width + k < n
word_within width n i k inside h =
    let some : 0 < width = omega arith in
    let whole : i * width + width ≤ n = rw suc-mul at ((le-div_iff_mul-le some).0 h) in
    omega arith

pub slot_within : (width n i : ℕ) → 0 < width → i < n / width → i * width < n
slot_within width n i some h = omega (arith, word_within width n i 0 some h)
