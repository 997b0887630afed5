-- Laws of the open levels.
use Prim.Native.Nat.{ℕ, zero, suc, ◌+◌, ◌-◌, ◌≤◌, ◌<◌}
use Prim.Native.Char.{code}
use mathlib.Core.Path.{◌≡◌, refl, ap, sym, ◌∙◌}
use mathlib.Core.Bool.{true, false, false≢true}
use mathlib.Core.List.{List, [], ◌∷◌}
use native.Mathlib.Omega.{arith}
use native.Mathlib.Numerals.{add-one}
use lib.Dec.{eqb}
use lib.ListN.{length, get_or, set}
use lib.Seq.{get_or-set_same, get_or-set_other}
use Rattle.std.specs.Prelude.{Option, Some, None}
use Rattle.reads.proofs.Tests.{choose_true, choose_false}
use Rattle.encodings.specs.declared.kept.Level.{Level}
use Rattle.encodings.specs.declared.kept.Level.TheVariants as level
use Rattle.encodings.specs.Parser.{closer_of, levels_in, innermost_in, below_pointers, closes, below}

pub levels_length : (n : ℕ) (ks : List Level) → length (levels_in n ks) ≡ n
unfolding levels_in
levels_length zero ks = refl
levels_length (suc n) ks = ap suc (levels_length n ks)

-- A kind behind the first n does not count for them.
levels_set : (n m : ℕ) (ks : List Level) (k : Level) → n ≤ m → levels_in n (set ks m k) ≡ levels_in n ks
unfolding levels_in
levels_set zero m ks k h = refl
levels_set (suc n) m ks k h = rw (get_or-set_other ks m n k level.Pointer (λ e. omega arith), levels_set n m ks k (omega arith))

pub levels_pushed : (n : ℕ) (ks : List Level) (k : Level) → n < length ks → levels_in (n + 1) (set ks n k) ≡ closer_of k ∷ levels_in n ks
unfolding levels_in
levels_pushed n ks k h = rw (add-one n, get_or-set_same ks n k level.Pointer h, levels_set n n ks k (omega arith))

pub levels_none : (n : ℕ) (ks : List Level) → n ≡ 0 → levels_in n ks ≡ []
unfolding levels_in
levels_none n ks e = rw e

pub levels_top : (n : ℕ) (ks : List Level) → 0 < n → levels_in n ks ≡ closer_of (get_or ks (n - 1) level.Pointer) ∷ levels_in (n - 1) ks
unfolding levels_in
levels_top n ks h = let e : n ≡ suc (n - 1) = omega arith in ap (λ (k : ℕ). levels_in k ks) e

pub levels_below : (n : ℕ) (ks : List Level) → 0 < n → levels_in (n - 1) ks ≡ below (levels_in n ks)
levels_below n ks h = ap below (sym (levels_top n ks h))

-- By the innermost.
innermost_none : (n : ℕ) (ks : List Level) → innermost_in n ks ≡ None → levels_in n ks ≡ []
unfolding innermost_in levels_in
innermost_none zero ks e = refl
innermost_none (suc n) ks e = let z : ◌≡◌ {A = ℕ} 0 1 = cc in absurd (omega arith)

innermost_some : (n : ℕ) (ks : List Level) {k : Level} → innermost_in n ks ≡ Some k → levels_in n ks ≡ closer_of k ∷ levels_in (n - 1) ks
unfolding innermost_in levels_in
innermost_some zero ks e = let z : ◌≡◌ {A = ℕ} 0 1 = cc in absurd (omega arith)
innermost_some (suc n) ks {k} e =
    let same : get_or ks n level.Pointer ≡ k = cc in
    let one : suc n - 1 ≡ n = omega arith in
    rw (same, one)

pub innermost_open : (n : ℕ) (ks : List Level) {k : Level} → innermost_in n ks ≡ Some k → 0 < n
unfolding innermost_in
innermost_open zero ks e = let z : ◌≡◌ {A = ℕ} 0 1 = cc in absurd (omega arith)
innermost_open (suc n) ks e = omega arith

pub closes_none : (n : ℕ) (ks : List Level) (b : ℕ) → innermost_in n ks ≡ None → false ≡ closes (levels_in n ks) b
closes_none n ks b e = ap (λ (ls : List ℕ). closes ls b) (sym (innermost_none n ks e))

pub closes_top : (n : ℕ) (ks : List Level) (b : ℕ) {k : Level} → innermost_in n ks ≡ Some k → eqb b (closer_of k) ≡ closes (levels_in n ks) b
closes_top n ks b e = ap (λ (ls : List ℕ). closes ls b) (sym (innermost_some n ks e))

pub pointer_top : (n : ℕ) (ks : List Level) → innermost_in n ks ≡ Some level.Pointer → below_pointers (levels_in (n - 1) ks) ≡ below_pointers (levels_in n ks)
pointer_top n ks e = sym (ap below_pointers (innermost_some n ks e) ∙ choose_true _ _ refl)

-- Where the innermost is no pointer, or there is none.
pub other_top : (n : ℕ) (ks : List Level) → (innermost_in n ks ≡ Some level.Pointer → ⊥) → levels_in n ks ≡ below_pointers (levels_in n ks)
other_top n ks no_pointer = go (innermost_in n ks) refl
  where
    some : (k : Level) → innermost_in n ks ≡ Some k → eqb (closer_of k) (code "^") ≡ false → levels_in n ks ≡ below_pointers (levels_in n ks)
    some k e other = innermost_some n ks e ∙ sym (choose_false _ _ other) ∙ ap below_pointers (sym (innermost_some n ks e))

    go : (o : Option Level) → innermost_in n ks ≡ o → levels_in n ks ≡ below_pointers (levels_in n ks)
    go None e = innermost_none n ks e ∙ ap below_pointers (sym (innermost_none n ks e))
    go (Some level.Pointer) e = absurd (no_pointer e)
    go (Some level.Array) e = some level.Array e refl
    go (Some level.Structure) e = some level.Structure e refl
    go (Some level.Union) e = some level.Union e refl

pub closes_open : (n : ℕ) (ks : List Level) (b : ℕ) → closes (levels_in n ks) b ≡ true → 0 < n
unfolding levels_in
closes_open zero ks b e = absurd (false≢true e)
closes_open (suc n) ks b e = omega arith
