-- What `==` says of bytes, and the tests on two rows.
use Prim.Native.Nat.{ℕ}
use mathlib.Core.Path.{◌≡◌, refl, ap, ◌∙◌}
use mathlib.Core.Bool.{Bool, true, false, ◌&&◌, ◌||◌}
use mathlib.Core.List.{List, [], ◌∷◌}
use lib.Dec.{eqb, ltb}
use Rattle.std.specs.Prelude.{Some, cond}
use Rattle.std.proofs.Common.{Less, Equal, Greater}
use Rattle.std.specs.Ordering.{nat_cmp, is_lt, is_some_and, partial_lt, partial_ordering_then}
use Rattle.std.specs.Cmp.Lexicographic.{pointwise}
use Rattle.dispatch.specs.declared.rows.Appearance.{Appearance}
use Rattle.reads.specs.Files.{file_of}
use Rattle.reads.specs.Place.{part}
use Rattle.reads.specs.declared.text.Text.{Text}
use Rattle.dispatch.specs.Dispatch.{selector_bytes, same_bytes, same_selector, comes_before}

-- What `==` says of two slices of bytes.
pub pointwise_same : (a b : List ℕ) → pointwise eqb a b ≡ same_bytes a b
unfolding same_bytes
pointwise_same [] [] = refl
pointwise_same [] (y ∷ b) = refl
pointwise_same (x ∷ a) [] = refl
pointwise_same (x ∷ a) (y ∷ b) = ap (λ t. eqb x y && t) (pointwise_same a b)

-- What `<` says of the places of two rows.
pub places_ordered : (b a : Appearance)
    → partial_lt {X = ℕ × ℕ} (λ x y. partial_ordering_then (Some (nat_cmp x.0 y.0)) (Some (nat_cmp x.1 y.1))) (b.source, b.entry) (a.source, a.entry) ≡ comes_before b a
unfolding comes_before
places_ordered b a = go (ltb b.source a.source) (eqb b.source a.source) (ltb b.entry a.entry) (eqb b.entry a.entry)
  where
    go : (p q r s : Bool) → is_some_and is_lt (partial_ordering_then (Some (cond p Less (cond q Equal Greater))) (Some (cond r Less (cond s Equal Greater)))) ≡ (p || (q && r))
    go true q r s = refl
    go false false r s = refl
    go false true true s = refl
    go false true false true = refl
    go false true false false = refl

-- The selectors of two texts, the bytes of the first at hand.
pub same_selector_by : (files : List (List ℕ)) (a : List ℕ) (s u : Text) {r : Bool} → a ≡ file_of files s.file
    → r ≡ same_bytes (part a s.offset s.len) (selector_bytes files u) → r ≡ same_selector files s u
unfolding same_selector
same_selector_by files a s u e w = w ∙ ap (λ (x : List ℕ). same_bytes (part x s.offset s.len) (selector_bytes files u)) e
