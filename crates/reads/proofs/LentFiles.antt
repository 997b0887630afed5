-- Laws of the files that are lent, and of the longest of them.
use Rattle.std.proofs.Common.{◌≡◌, ℕ, zero, suc, ◌+◌, ◌<◌, ◌≤◌, min, max, Bool, true, false, not, List, [], ◌∷◌, map, length, get_or, drop, sym, refl, ap, ◌∙◌, subst, arith, length-drop, length-take, get_or-take, Bor, ltb-false, ltb-true}
use native.Mathlib.Decide.{dec_le}
use borrow.Author.Tests.{not-true, not-false}
use lib.ListN.{length-map, get_or-map, get_or-eq_default}
use Rattle.reads.specs.Files.{files_lent, is_lent, file_of, longest}

get_d_same : {A : Type 0} (l : List A) (i : ℕ) (d e : A) → i < length l → get_or l i d ≡ get_or l i e
get_d_same [] i d e h = absurd (omega arith)
get_d_same (x ∷ xs) zero d e h = refl
get_d_same (x ∷ xs) (suc i) d e h = get_d_same xs i d e (omega arith)

module _ (fs : List (Bor (List ℕ))) where
  length_lent : length (files_lent fs) ≡ min 4 (length fs)
  unfolding files_lent
  length_lent = length-take 4 (map (λ x. x.now) fs) ∙ ap (min 4) (length-map fs (λ x. x.now))

  module _ (f : ℕ) where
    pub lent_below : f < length (files_lent fs) → f < length fs
    lent_below h = omega (arith, length_lent)

    -- The slice that the code takes is the file's.
    pub file_lent : (d : Bor (List ℕ)) → f < length (files_lent fs) → (get_or fs f d).now ≡ file_of (files_lent fs) f
    unfolding file_of files_lent
    file_lent d h =
        sym (get_or-map (λ x. x.now) fs f d) ∙ sym (get_or-take 4 (map (λ x. x.now) fs) f d.now (omega (arith, length_lent)))
        ∙ get_d_same (files_lent fs) f d.now [] h

    pub file_not_lent : length (files_lent fs) ≤ f → [] ≡ file_of (files_lent fs) f
    unfolding file_of
    file_not_lent h = sym (get_or-eq_default (files_lent fs) [] h)

    -- A file that has bytes is lent.
    pub lent_by_bytes : 0 < length (file_of (files_lent fs) f) → f < length (files_lent fs)
    lent_by_bytes h =
        elim (dec_le (suc f) (length (files_lent fs))) [ yes u ↦ u | no g ↦ (let e = file_not_lent (omega arith) in omega (arith, ap length e)) ]

    -- What the code's test says, negated as it stands there.
    module _ (b : Bool) (e : b ≡ is_lent (files_lent fs) f) where
      pub said_lent : not b ≡ false → f < length (files_lent fs)
      said_lent y = ltb-true f (length (files_lent fs)) (sym e ∙ not-false b y)

      pub said_not : not b ≡ true → length (files_lent fs) ≤ f
      said_not y = ltb-false f (length (files_lent fs)) (sym e ∙ not-true b y)

  -- No file stands behind the fourth.
  pub longest_past : longest (drop 4 (files_lent fs)) ≡ 0
  unfolding longest
  longest_past = go (drop 4 (files_lent fs)) (omega (arith, length_lent, length-drop 4 (files_lent fs)))
    where
      go : (l : List (List ℕ)) → length l ≡ 0 → longest l ≡ 0
      go [] e = refl
      go (x ∷ l) e = absurd (omega arith)

-- The longest of the files from f on is file f or the longest after it.
longest_from : (fs : List (List ℕ)) (f : ℕ) → longest (drop f fs) ≡ max (length (file_of fs f)) (longest (drop (suc f) fs))
unfolding longest file_of
longest_from [] zero = refl
longest_from [] (suc f) = refl
longest_from (x ∷ fs) zero = refl
longest_from (x ∷ fs) (suc f) = longest_from fs f

pub longest_step : (fs : List (List ℕ)) (f n l g w : ℕ) → max n (longest (drop f fs)) ≡ w → l ≡ length (file_of fs f) → g ≡ max n l
    → max g (longest (drop (f + 1) fs)) ≡ w
longest_step fs f n l g w e d h =
    let p : suc f ≡ f + 1 = omega arith in
    subst (λ (x : ℕ). max g (longest (drop x fs)) ≡ w) p (go (longest (drop f fs)) (longest (drop (suc f) fs)) e (longest_from fs f))
  where
    go : (a b : ℕ) → max n a ≡ w → a ≡ max (length (file_of fs f)) b → max g b ≡ w
    go a b p q = omega arith

-- None is longer.
pub longest_most : (fs : List (List ℕ)) (f : ℕ) → length (file_of fs f) ≤ longest fs
unfolding longest file_of
longest_most [] f = omega arith
longest_most (x ∷ fs) zero = omega arith
longest_most (x ∷ fs) (suc f) = omega (arith, longest_most fs f)
