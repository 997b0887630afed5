-- The words of a bundle from an offset on: one more word, and how many they are.
use Rattle.std.proofs.Common.{◌≡◌, ℕ, zero, suc, ◌+◌, ◌*◌, ◌<◌, List, [], ◌∷◌, ◌++◌, length, take, set, refl, ap, add-one, arith, take-suc-set}
use Rattle.listing.specs.Bundle.{word_from, words_from}

pub words_snoc : (bytes : List ℕ) (offset k : ℕ) → words_from bytes offset (suc k) ≡ words_from bytes offset k ++ (word_from bytes (offset + 8 * k) ∷ [])
unfolding words_from
words_snoc bytes offset zero = let e : offset + 8 * 0 ≡ offset = omega arith in rw e refl
words_snoc bytes offset (suc k) =
    let e : offset + 8 * suc k ≡ offset + 8 + 8 * k = omega arith in
    rw e (ap (λ (l : List ℕ). word_from bytes offset ∷ l) (words_snoc bytes (offset + 8) k))

pub words_more : (bytes : List ℕ) (offset i : ℕ) (to : List ℕ) (w : ℕ) → i < length to → take i to ≡ words_from bytes offset i
    → w ≡ word_from bytes (offset + 8 * i) → take (i + 1) (set to i w) ≡ words_from bytes offset (i + 1)
words_more bytes offset i to w h e f = rw (add-one, take-suc-set to i w h, words_snoc, e, f) refl

pub length_words : (bytes : List ℕ) (offset k : ℕ) → length (words_from bytes offset k) ≡ k
unfolding words_from
length_words bytes offset zero = refl
length_words bytes offset (suc k) = ap suc (length_words bytes (offset + 8) k)
