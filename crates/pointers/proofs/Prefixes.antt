-- A prefix and a list, a byte at a time, and the first of the prefixes that fits.
use Prim.Native.Nat.{ℕ, zero, suc, ◌+◌, ◌-◌, ◌<◌, ◌≤◌}
use mathlib.Core.Path.{◌≡◌, refl, sym, ap, ◌∙◌}
use mathlib.Core.Bool.{Bool, true, false, ◌&&◌}
use mathlib.Core.List.{List, [], ◌∷◌}
use native.Mathlib.Omega.{arith}
use lib.Dec.{eqb}
use lib.ListN.{length, drop, length-take}
use Rattle.std.specs.List.{starts_with, find}
use Rattle.std.specs.Option.{MatchOption, option_map}
use Rattle.std.specs.Borrow.{Bor}
use Rattle.std.specs.Prelude.{map, Option, Some, None, cond}
use Rattle.reads.specs.Outcome.{text_of, choose}
use Rattle.reads.specs.Place.{part}
use Rattle.reads.specs.declared.text.Text.{Text}
use Rattle.reads.proofs.Tests.{by_choose}
use Rattle.pointers.specs.Symbol.{starts, fitting, prefixes, stripped_in}

-- The slice's own test.
pub starts_is : (p s : List ℕ) → starts_with eqb s p ≡ starts p s
unfolding starts
starts_is [] s = refl
starts_is (a ∷ p) [] = refl
starts_is (a ∷ p) (b ∷ s) = ap (λ t. eqb a b && t) (starts_is p s)

-- What starts with p is as long.
pub starts_length : (p s : List ℕ) → starts p s ≡ true → length p ≤ length s
unfolding starts
starts_length [] s e = omega arith
starts_length (a ∷ p) [] e = let z : ◌≡◌ {A = ℕ} 0 1 = cc in omega arith
starts_length (a ∷ p) (b ∷ s) e = go (eqb a b) (λ t. starts_length p s t) e
  where
    go : (x : Bool) → (starts p s ≡ true → length p ≤ length s) → (x && starts p s) ≡ true → suc (length p) ≤ suc (length s)
    go true f e' = omega (arith, f e')
    go false f e' = let z : ◌≡◌ {A = ℕ} 0 1 = cc in omega arith

-- The texts of the code's table.
abbrev texts : List (Bor (List ℕ)) → List (List ℕ)
texts rows = map (λ x. x.now) rows

-- The length of a prefix that is found, 0 where none is.
length_or : Option (Bor (List ℕ)) → ℕ
length_or None = 0
length_or (Some p) = length p.now

fitting_found : (rows : List (Bor (List ℕ))) (s : List ℕ) → fitting (texts rows) s ≡ length_or (find (λ p. starts p.now s) rows)
unfolding fitting length_or choose
fitting_found [] s = refl
fitting_found (p ∷ rows) s = go (starts p.now s) (fitting_found rows s)
  where
    go : (t : Bool) → fitting (texts rows) s ≡ length_or (find (λ x. starts x.now s) rows)
        → choose t (length p.now) (fitting (texts rows) s) ≡ length_or (cond t (Some p) (find (λ x. starts x.now s) rows))
    go true e = refl
    go false e = e

pub fitting_by : (rows : List (Bor (List ℕ))) (s : List ℕ) (o : Option (Bor (Bor (List ℕ)))) (n : ℕ) → option_map (λ p. p.now) o ≡ find (λ p. starts p.now s) rows
    → (Gives : Bor (Bor (List ℕ)) → Type 0) → MatchOption o (n ≡ 0) Gives → ((p : Bor (Bor (List ℕ))) → Gives p → n ≡ length p.now.now) → n ≡ fitting (texts rows) s
unfolding length_or
fitting_by rows s None n e Gives h says = h ∙ ap length_or e ∙ sym (fitting_found rows s)
fitting_by rows s (Some p) n e Gives h says = says p h ∙ ap length_or e ∙ sym (fitting_found rows s)

-- What fits is no longer than the bytes.
pub fitting_length : (ps : List (List ℕ)) (s : List ℕ) → fitting ps s ≤ length s
unfolding fitting
fitting_length [] s = omega arith
fitting_length (p ∷ ps) s = by_choose (λ n. n ≤ length s) (starts_length p s) (λ e. fitting_length ps s)

-- The number of a prefix is one of five: each is compared with its row by computing.
pub below_five : {X : Type 0} (k : ℕ) → k < 5 → (k ≡ 0 → X) → (k ≡ 1 → X) → (k ≡ 2 → X) → (k ≡ 3 → X) → (k ≡ 4 → X) → X
below_five zero h f₀ f₁ f₂ f₃ f₄ = f₀ refl
below_five (suc zero) h f₀ f₁ f₂ f₃ f₄ = f₁ refl
below_five (suc (suc zero)) h f₀ f₁ f₂ f₃ f₄ = f₂ refl
below_five (suc (suc (suc zero))) h f₀ f₁ f₂ f₃ f₄ = f₃ refl
below_five (suc (suc (suc (suc zero)))) h f₀ f₁ f₂ f₃ f₄ = f₄ refl
below_five (suc (suc (suc (suc (suc k))))) h f₀ f₁ f₂ f₃ f₄ = absurd (omega arith)

pub fitting_part : (ps : List (List ℕ)) (bytes : List ℕ) (offset k : ℕ) (there : List ℕ) → there ≡ part bytes offset k → fitting ps there ≤ k
fitting_part ps bytes offset k there e = omega (arith, fitting_length ps there, ap length e, length-take k (drop offset bytes))

-- A name by its bytes that are there.
pub stripped_by : (bytes : List ℕ) (name : Text) (there : List ℕ) (n : ℕ) → there ≡ part bytes name.offset name.len
    → n ≡ fitting prefixes there → text_of name.file (name.offset + n) (name.len - n) ≡ stripped_in bytes name
unfolding stripped_in
stripped_by bytes name there n e h = rw (h, e)
