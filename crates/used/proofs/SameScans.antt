-- A pass over a text depends on the bytes that it reads, and on how many are there, alone.
use Prim.Native.Nat.{ℕ, zero, suc, min}
use mathlib.Core.Path.{◌≡◌, refl, ap}
use mathlib.Core.Bool.{Bool, true, false}
use mathlib.Core.List.{List, [], ◌∷◌}
use native.Mathlib.Omega.{arith}
use lib.Dec.{eqb}
use lib.ListN.{length, get_or, take, drop}
use Rattle.reads.specs.Outcome.{choose}
use Rattle.reads.specs.Text.{text, scan_of}

-- The first byte and the rest, where the text goes on and where it does not.
text_step : (x y : ℕ) (s z : List ℕ) (n : ℕ) (ends : Bool) → eqb x 0 ≡ ends → length s ≡ length z
    → n ≡ min (suc (length (choose ends [] (x ∷ text s)))) (suc (length s)) → take n (x ∷ s) ≡ take n (y ∷ z)
    → ((k : ℕ) → k ≡ min (suc (length (text s))) (length s) → take k s ≡ take k z → text s ≡ text z)
    → choose ends [] (x ∷ text s) ≡ text (y ∷ z)
unfolding choose text
text_step x y s z zero true e l r h ih = absurd (omega arith)
text_step x y s z zero false e l r h ih = absurd (omega arith)
text_step x y s z (suc n) true e l r h ih =
    let same : x ≡ y = ap (λ l. get_or l 0 0) h in
    rw (← same, e) refl
text_step x y s z (suc n) false e l r h ih =
    let same : x ≡ y = ap (λ l. get_or l 0 0) h in
    rw (← same, e) (ap (λ l. x ∷ l) (ih n (omega arith) (ap (drop 1) h)))

text_same : (s z : List ℕ) (n : ℕ) → length s ≡ length z → n ≡ min (suc (length (text s))) (length s) → take n s ≡ take n z → text s ≡ text z
unfolding text
text_same [] [] n l r h = refl
text_same [] (y ∷ z) n l r h = absurd (omega arith)
text_same (x ∷ s) [] n l r h = absurd (omega arith)
text_same (x ∷ s) (y ∷ z) n l r h =
    let rest : length s ≡ length z = omega arith in
    text_step x y s z n (eqb x 0) refl rest r h (λ k q g. text_same s z k rest q g)

pub scan_same : (s z : List ℕ) → length s ≡ length z → take (scan_of s).read s ≡ take (scan_of s).read z → scan_of s ≡ scan_of z
scan_same s z l h = rw (text_same s z (scan_of s).read l refl h, l) refl
