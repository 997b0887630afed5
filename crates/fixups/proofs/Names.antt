-- The name of an import, by the branches of the code.
use Rattle.std.proofs.Common.{◌≡◌, ℕ, ◌+◌, ◌-◌, ◌<◌, Bool, true, false, cond, Option, Some, None, List, [], ◌∷◌, length, take, drop, refl, sym, ap, ◌∙◌, arith, drop_of_length-le, length-drop, ◌==◌}
use Rattle.std.specs.List.{position, position_from}
use Rattle.std.proofs.lemmas.Iterator.Adapters.{position_from-zero}
use lib.Seq.{take_all}
use Rattle.reads.specs.Outcome.{Outcome, value, refused, choose}
use Rattle.fixups.specs.Imports.{zero_from, text_at, name_of}
use Rattle.reads.specs.declared.answer.Question.TheVariants.{FixupData}

-- The first zero of bytes that stand i bytes after those whose first stands at j.
pub zero_by : ℕ → Option ℕ → Outcome ℕ
zero_by i (Some k) = value (i + k)
zero_by i None = refused FixupData

zero_found : (i j : ℕ) (xs : List ℕ) → zero_from (i + j) xs ≡ zero_by i (position_from (λ x. x == 0) j xs)
unfolding zero_from zero_by choose
zero_found i j [] = refl
zero_found i j (x ∷ xs) = go (x == 0) (let e : i + j + 1 ≡ i + (j + 1) = omega arith in rw e (zero_found i (j + 1) xs))
  where
    go : (t : Bool) → zero_from (i + j + 1) xs ≡ zero_by i (position_from (λ y. y == 0) (j + 1) xs)
        → choose t (value (i + j)) (zero_from (i + j + 1) xs) ≡ zero_by i (cond t (Some j) (position_from (λ y. y == 0) (j + 1) xs))
    go true later = refl
    go false later = later

pub first : (i : ℕ) (xs : List ℕ) → zero_from i xs ≡ zero_by i (position (λ x. x == 0) xs)
first i xs = let e : i + 0 ≡ i = omega arith in rw e at (zero_found i 0 xs) ∙ ap (zero_by i) (sym (position_from-zero (λ x. x == 0) xs))

pub zero_at : (i k : ℕ) (xs : List ℕ) (r : Option ℕ) → r ≡ position (λ x. x == 0) xs → r ≡ Some k → zero_from i xs ≡ value (i + k)
unfolding zero_by
zero_at i k xs r e g = first i xs ∙ rw (← e, g)

pub zero_nowhere : (i : ℕ) (xs : List ℕ) (r : Option ℕ) → r ≡ position (λ x. x == 0) xs → r ≡ None → zero_from i xs ≡ refused FixupData
unfolding zero_by
zero_nowhere i xs r e g = first i xs ∙ rw (← e, g)

-- r is where the first zero of the bytes from `start` on was found.
module _ (bs : List ℕ) (at start : ℕ) where
  pub past : length bs < start → refused FixupData ≡ text_at bs at start
  unfolding text_at zero_from
  past h = rw (drop_of_length-le bs {i = start} (omega arith))

  module _ (r : Option ℕ) (e : r ≡ position (λ x. x == 0) (take (length bs - start) (drop start bs))) where
    from_start : r ≡ position (λ x. x == 0) (drop start bs)
    from_start = rw (take_all (length bs - start) (drop start bs) (omega (arith, length-drop start bs))) at e

    pub ends : (k : ℕ) → r ≡ Some k → value (name_of (at + start) k) ≡ text_at bs at start
    unfolding text_at
    ends k g = let n : start + k - start ≡ k = omega arith in rw (zero_at start k (drop start bs) r from_start g, n)

    pub runs_out : r ≡ None → refused FixupData ≡ text_at bs at start
    unfolding text_at
    runs_out g = rw (zero_nowhere start (drop start bs) r from_start g)
