-- The bytes of a part that are there, as the code cuts them; and parts written one behind the other.
use Prim.Native.Nat.{ℕ, suc, ◌+◌, ◌-◌, ◌≤◌, min}
use mathlib.Core.Path.{◌≡◌, sym, ap, ◌∙◌}
use mathlib.Core.List.{List, [], ◌∷◌, ◌++◌}
use native.Mathlib.Omega.{arith}
use native.Mathlib.Decide.{dec_le}
use lib.ListN.{length, set, take, drop, drop_of_length-le, length-take, length-drop}
use lib.Seq.{sets, take_all, take-take, drop-drop, length-take-le}
use Rattle.std.proofs.lemmas.List.{drop-take}
use Rattle.reads.specs.Place.{part}

pub take_there : (k n : ℕ) (l : List ℕ) → k ≡ min n (length l) → take k l ≡ take n l
take_there k n l e = sym (take-take k n l (omega arith)) ∙ take_all k (take n l) (simp length-take (omega arith))

drop_there : (k n : ℕ) (l : List ℕ) → k ≡ min n (length l) → drop k l ≡ drop n l
drop_there k n l e =
    elim (dec_le n (length l)) [
      | yes h ↦ ap (λ j. drop j l) (omega arith)
      | no h ↦ drop_of_length-le l (omega arith) ∙ sym (drop_of_length-le l (omega arith))
    ]

-- As the code cuts them, from `from` on.
pub part_by : (bytes : List ℕ) (offset len from k : ℕ) → from ≡ min offset (length bytes) → k ≡ min len (length bytes - from)
    → part bytes offset len ≡ take k (drop from bytes)
part_by bytes offset len from k e h =
    sym (take_there k len (drop from bytes) (simp length-drop h) ∙ ap (take len) (drop_there from offset bytes e))

-- A part that lies in the bytes is as long as it says.
pub part_length : (bytes : List ℕ) (offset len : ℕ) → offset + len ≤ length bytes → length (part bytes offset len) ≡ len
part_length bytes offset len h = length-take-le len (drop offset bytes) (omega (arith, length-drop offset bytes))

-- A part within a part.
pub part_of_part : (bytes : List ℕ) (offset len i k : ℕ) → i + k ≤ len → part (part bytes offset len) i k ≡ part bytes (offset + i) k
part_of_part bytes offset len i k h =
    let whole : len ≡ i + (len - i) = omega arith in
    ap (λ (n : ℕ). part (part bytes offset n) i k) whole
    ∙ ap (take k) (drop-take i (len - i) (drop offset bytes))
    ∙ take-take k (len - i) (drop i (drop offset bytes)) (omega arith)
    ∙ ap (take k) (drop-drop i offset bytes)

pub sets_append : (l a b : List ℕ) (i : ℕ) → sets l i (a ++ b) ≡ sets (sets l i a) (i + length a) b
sets_append l [] b i = let same : i + 0 ≡ i = omega arith in rw same
sets_append l (x ∷ a) b i =
    let same : i + suc (length a) ≡ suc i + length a = omega arith in
    rw same (sets_append (set l i x) a b (suc i))
