-- Laws of a sheet: the branches of the code that notes a range, and the marks of a sheet with bits set.
use Prim.Native.Nat.{ℕ, zero, suc, ◌+◌, ◌-◌, ◌/◌, ◌%◌, ◌^◌, ◌≤◌, ◌<◌, max}
use mathlib.Core.Path.{◌≡◌, refl, ap, ◌∙◌}
use mathlib.Core.Bool.{Bool, true, false, ◌||◌}
use mathlib.Core.List.{List, [], ◌∷◌, ◌++◌}
use mathlib.Core.Logic.{⊎_elim}
use native.Mathlib.Omega.{arith}
use lib.Bits.{bit_or}
use lib.Dec.{eqb}
use lib.ListN.{length, get_or, length-set}
use lib.Seq.{get_or-set_same, get_or-set_other}
use borrow.Author.Tests.{lt-ltb, le-ltb, eq-eqb, ne_eqb, eqb-true, eqb-false}
use Rattle.reads.specs.Outcome.{choose}
use Rattle.ranges.specs.Range.{Range, range, lies}
use Rattle.ranges.specs.Sheet.{window, sheet_words, sheet_file, sheet_from, marked_at, with_bit, with_bits, lowered_to, noted_from, noted, noted_all}
use Rattle.ranges.proofs.BitLaws.{bit_set}
use Rattle.ranges.proofs.Covers.{tests_same, not_true, or_true, or_assoc, lies_in, lies_true}

pub from_inside : (m m' : List ℕ) (first left room : ℕ) → room ≡ window - first → left ≤ room → m' ≡ with_bits m first left → m' ≡ noted_from first left m
unfolding noted_from choose
from_inside m m' first left room r l e = rw (← r, le-ltb room left l) e

pub from_beyond : (m m' m'' : List ℕ) (first left room past : ℕ) → room ≡ window - first → room < left → m' ≡ with_bits m first room → past ≡ max first window
    → m'' ≡ lowered_to m' past → m'' ≡ noted_from first left m
unfolding noted_from choose
from_beyond m m' m'' first left room past r l e p d = rw (← r, lt-ltb room left l, ← e, ← p) d

pub note_other : (m : List ℕ) (file offset len : ℕ) → (file ≡ sheet_file m → ⊥) → m ≡ noted (range file offset len) m
unfolding noted choose
note_other m file offset len n = rw (ne_eqb file (sheet_file m) n) refl

pub note_here : (m m' : List ℕ) (file offset len first lost left : ℕ) → file ≡ sheet_file m → first ≡ offset - sheet_from m → lost ≡ sheet_from m - offset → left ≡ len - lost
    → m' ≡ noted_from first left m → m' ≡ noted (range file offset len) m
unfolding noted choose
note_here m m' file offset len first lost left e f g h d = rw (eq-eqb file (sheet_file m) e, ← g, ← h, ← f) d

-- Ranges one after another.
pub noted_append : (rs ss : List Range) (m : List ℕ) → noted_all (rs ++ ss) m ≡ noted_all ss (noted_all rs m)
unfolding noted_all
noted_append [] ss m = refl
noted_append (r ∷ rs) ss m = noted_append rs ss (noted r m)

-- The bits of a sheet with one bit more, and with n more.
marked_bit : (m : List ℕ) (k j : ℕ) → length m ≡ sheet_words → k < window → marked_at (with_bit m k) j ≡ (eqb j k || marked_at m j)
unfolding marked_at with_bit
marked_bit m k j l h = go (eqb (j / 64) (k / 64)) refl
  where
    go : (t : Bool) → eqb (j / 64) (k / 64) ≡ t → marked_at (with_bit m k) j ≡ (eqb j k || marked_at m j)
    go true e =
        let f : j / 64 ≡ k / 64 = eqb-true (j / 64) (k / 64) e in
        let same : eqb (j % 64) (k % 64) ≡ eqb j k = tests_same (eqb (j % 64) (k % 64)) (eqb j k)
        (λ d. let g = eqb-true (j % 64) (k % 64) d in eq-eqb j k (omega arith))
        (λ d. let g = eqb-true j k d in eq-eqb (j % 64) (k % 64) (ap (λ n. n % 64) g)) in
        rw (f, get_or-set_same m (k / 64 + 3) (bit_or (get_or m (k / 64 + 3) 0) (2 ^ (k % 64))) 0 (omega arith), bit_set, same) refl
    go false e =
        let f = eqb-false (j / 64) (k / 64) e in
        let d : eqb j k ≡ false = ne_eqb j k (λ g. f (ap (λ n. n / 64) g)) in
        rw (d, get_or-set_other m (k / 64 + 3) (j / 64 + 3) (bit_or (get_or m (k / 64 + 3) 0) (2 ^ (k % 64))) 0 (λ g. f (omega arith))) refl

pub long_bits : (m : List ℕ) (k n : ℕ) → length (with_bits m k n) ≡ length m
unfolding with_bits with_bit
long_bits m k zero = refl
long_bits m k (suc n) = simp length-set (long_bits m k n)

-- The first three words stay.
pub word_kept : (m : List ℕ) (k n i : ℕ) → i < 3 → get_or (with_bits m k n) i 0 ≡ get_or m i 0
unfolding with_bits with_bit
word_kept m k zero i h = refl
word_kept m k (suc n) i h =
    get_or-set_other (with_bits m k n) ((k + n) / 64 + 3) i (bit_or (get_or (with_bits m k n) ((k + n) / 64 + 3) 0) (2 ^ ((k + n) % 64))) 0 (λ e. omega arith)
    ∙ word_kept m k n i h

-- Bytes k to k + n of the window, as a range.
one_more : (k n j : ℕ) → (eqb j (k + n) || lies (range 0 k n) 0 j) ≡ lies (range 0 k (suc n)) 0 j
one_more k n j = tests_same (eqb j (k + n) || lies (range 0 k n) 0 j) (lies (range 0 k (suc n)) 0 j)
    (λ e. ⊎_elim (λ d. let f = eqb-true j (k + n) d in lies_in (range 0 k (suc n)) 0 j refl (omega arith) (omega arith))
    (λ d. let f = lies_true (range 0 k n) 0 j d in lies_in (range 0 k (suc n)) 0 j refl f.1 (let l = f.2 in omega arith))
    (or_true (eqb j (k + n)) (lies (range 0 k n) 0 j) e))
    (λ e. let f = lies_true (range 0 k (suc n)) 0 j e in go f.1 f.2 (eqb j (k + n)) refl)
  where
    go : k ≤ j → j < k + suc n → (t : Bool) → eqb j (k + n) ≡ t → (t || lies (range 0 k n) 0 j) ≡ true
    go a b true e = refl
    go a b false e = let d = eqb-false j (k + n) e in lies_in (range 0 k n) 0 j refl a (omega arith)

pub marked_bits : (m : List ℕ) (k n j : ℕ) → length m ≡ sheet_words → n ≤ window - k → marked_at (with_bits m k n) j ≡ (lies (range 0 k n) 0 j || marked_at m j)
unfolding with_bits
marked_bits m k zero j l h =
    rw (not_true (lies (range 0 k 0) 0 j) (λ e. let f = lies_true (range 0 k 0) 0 j e in let a = f.1 in let b = f.2 in omega arith)) refl
marked_bits m k (suc n) j l h =
    marked_bit (with_bits m k n) (k + n) j (long_bits m k n ∙ l) (omega arith)
    ∙ rw (marked_bits m k n j l (omega arith)) (or_assoc (eqb j (k + n)) (lies (range 0 k n) 0 j) (marked_at m j) ∙ rw (one_more k n j) refl)
