-- Merged ranges are the ranges of the bytes: a byte lies in one exactly if it lies in a given one and its file has it; they ascend and do not
-- touch; and no other list of ranges does so.
use Prim.Native.Nat.{ℕ, zero, suc, ◌+◌, ◌<◌}
use mathlib.Core.Path.{◌≡◌, refl, sym, ap, ◌∙◌}
use mathlib.Core.Bool.{Bool, true, false, ◌&&◌}
use mathlib.Core.List.{List, [], ◌∷◌}
use native.Mathlib.Omega.{arith}
use lib.Dec.{ltb}
use lib.ListN.{get_or}
use borrow.Author.Tests.{ltb-true, ltb-false, lt-ltb, le-ltb}
use Rattle.ranges.specs.Range.{Range, covers}
use Rattle.ranges.specs.Runs.{runs, runs_from, merged, Apart}
use Rattle.ranges.proofs.Covers.{or_false, and_false, covers_append}
use Rattle.ranges.proofs.RunLaws.{runs_inside, runs_after, runs_elsewhere, runs_apart, apart_later}
use Rattle.ranges.proofs.ApartLaws.{apart_unique}

-- The runs in the n bytes of a file.
runs_whole : (f : ℕ) (u : ℕ → Bool) (n x : ℕ) → covers (runs f u n 0 0) f x ≡ (ltb x n && u x)
runs_whole f u n x = go (ltb x n) refl
  where
    go : (t : Bool) → ltb x n ≡ t → covers (runs f u n 0 0) f x ≡ (t && u x)
    go true e = runs_inside f u n 0 0 x (omega arith) (let d = ltb-true x n e in omega arith) (omega arith)
    go false e = runs_after f u n 0 0 x (let d = ltb-false x n e in omega arith) (omega arith)

module _ (u : ℕ → ℕ → Bool) where
  from_before : (f : ℕ) (lengths : List ℕ) (g x : ℕ) → g < f → covers (runs_from f lengths u) g x ≡ false
  unfolding runs_from covers
  from_before f [] g x h = refl
  from_before f (n ∷ ns) g x h =
      covers_append (runs f (u f) n 0 0) (runs_from (suc f) ns u) g x
      ∙ rw (runs_elsewhere f (u f) n 0 0 g x (λ e. omega arith)) (from_before (suc f) ns g x (omega arith))

  from_covers : (f : ℕ) (lengths : List ℕ) (i x : ℕ) → covers (runs_from f lengths u) (f + i) x ≡ (ltb x (get_or lengths i 0) && u (f + i) x)
  unfolding runs_from covers
  from_covers f [] i x = rw (le-ltb x 0 (omega arith)) refl
  from_covers f (n ∷ ns) zero x =
      let here : f + 0 ≡ f = omega arith in
      rw here
      (covers_append (runs f (u f) n 0 0) (runs_from (suc f) ns u) f x
      ∙ rw (from_before (suc f) ns f x (omega arith)) (or_false (covers (runs f (u f) n 0 0) f x) ∙ runs_whole f (u f) n x))
  from_covers f (n ∷ ns) (suc i) x =
      let there : f + suc i ≡ suc f + i = omega arith in
      rw there
      (covers_append (runs f (u f) n 0 0) (runs_from (suc f) ns u) (suc f + i) x
      ∙ rw (runs_elsewhere f (u f) n 0 0 (suc f + i) x (λ e. omega arith)) (from_covers (suc f) ns i x))

  from_apart : (f : ℕ) (lengths : List ℕ) → Apart f 0 (runs_from f lengths u)
  unfolding runs_from
  from_apart f [] = tt
  from_apart f (n ∷ ns) =
      runs_apart f (u f) (runs_from (suc f) ns u) n 0 0 (omega arith) (λ lo. apart_later f lo (runs_from (suc f) ns u) (from_apart (suc f) ns))

-- A byte lies in a merged range exactly if it lies in a given one, and below the length of its file.
pub ranges_exact : (lengths : List ℕ) (rs : List Range) (f b : ℕ) → covers (merged lengths rs) f b ≡ (ltb b (get_or lengths f 0) && covers rs f b)
unfolding merged
ranges_exact lengths rs f b =
    let all : 0 + f ≡ f = omega arith in
    rw all at (from_covers (covers rs) 0 lengths f b)

-- They ascend, by file and then by offset; no two touch within a file; and each has a byte.
pub merged_apart : (lengths : List ℕ) (rs : List Range) → Apart 0 0 (merged lengths rs)
unfolding merged
merged_apart lengths rs = from_apart (covers rs) 0 lengths

-- Ranges that cover the same bytes merge to the same, in whatever order they stand and however often.
pub merged_same : (lengths : List ℕ) (rs ss : List Range) → ((f b : ℕ) → covers rs f b ≡ covers ss f b) → merged lengths rs ≡ merged lengths ss
merged_same lengths rs ss e =
    apart_unique 0 0 0 0 (merged lengths rs) (merged lengths ss) (merged_apart lengths rs) (merged_apart lengths ss)
    (λ f b. ranges_exact lengths rs f b ∙ ap (λ t. ltb b (get_or lengths f 0) && t) (e f b) ∙ sym (ranges_exact lengths ss f b))

-- Ranges that are merged already, and lie in their files, stay.
pub merged_itself : (lengths : List ℕ) (rs : List Range) → Apart 0 0 rs → ((f b : ℕ) → covers rs f b ≡ true → b < get_or lengths f 0) → merged lengths rs ≡ rs
merged_itself lengths rs h inside =
    apart_unique 0 0 0 0 (merged lengths rs) rs (merged_apart lengths rs) h (λ f b. ranges_exact lengths rs f b ∙ go f b (covers rs f b) refl)
  where
    go : (f b : ℕ) (t : Bool) → covers rs f b ≡ t → (ltb b (get_or lengths f 0) && t) ≡ t
    go f b true e = rw (lt-ltb b (get_or lengths f 0) (inside f b e)) refl
    go f b false e = and_false (ltb b (get_or lengths f 0))
