-- Where a value ends, in a pass over it: p bytes are passed, and `quoted` says that an odd number of them are double quotes.
use Prim.Native.Nat.{ℕ, zero, suc, ◌+◌, ◌-◌, ◌%◌, ◌≤◌, ◌<◌}
use mathlib.Core.Path.{◌≡◌, refl, ap, sym, ◌∙◌}
use mathlib.Core.Bool.{Bool, true, false, not}
use mathlib.Core.List.{List, [], ◌∷◌}
use native.Mathlib.Omega.{arith}
use native.Mathlib.Numerals.{add-one}
use lib.Dec.{eqb}
use lib.ListN.{length, get_or, take, drop, length-drop}
use lib.Seq.{take-length}
use borrow.Author.Tests.{eq-eqb, ne_eqb, eqb-true, eqb-false}
use Rattle.reads.specs.Outcome.{choose}
use Rattle.reads.proofs.Tests.{choose_true, choose_false, by_choose}
use Rattle.attributes.specs.Attributes.{quotes, splits, first, value_length}

pub first_hit : (test : ℕ → Bool) (n i : ℕ) → test i ≡ true → first test (suc n) i ≡ i
unfolding first
first_hit test n i e = choose_true _ _ e

pub first_miss : (test : ℕ → Bool) (n i : ℕ) → test i ≡ false → first test (suc n) i ≡ first test n (suc i)
unfolding first
first_miss test n i e = choose_false _ _ e

pub first_within : (test : ℕ → Bool) (n i : ℕ) → first test n i ≤ i + n
unfolding first
first_within test zero i = omega arith
first_within test (suc n) i =
    by_choose (λ (k : ℕ). k ≤ i + suc n) (λ e. omega arith) (λ e. omega (arith, first_within test n (suc i)))

-- A value is no longer than what it stands in front of.
pub value_within : (s : List ℕ) → value_length s ≤ length s
unfolding value_length
value_within s = omega (arith, first_within (splits s) (length s) 0)

pub value_inside : (text : List ℕ) (start : ℕ) → start ≤ length text → start + value_length (drop start text) ≤ length text
value_inside text start h = omega (arith, value_within (drop start text), length-drop start text)

-- The part of a text from `start` on, as a slice.
cut_all : (text : List ℕ) (start : ℕ) → take (length text - start) (drop start text) ≡ drop start text
cut_all text start = ap (λ n. take n (drop start text)) (sym (length-drop start text)) ∙ take-length (drop start text)

pub value_cut : (text : List ℕ) (start : ℕ) → value_length (take (length text - start) (drop start text)) ≡ value_length (drop start text)
value_cut text start = ap value_length (cut_all text start)

pub length_cut : (text : List ℕ) (start : ℕ) → length (take (length text - start) (drop start text)) ≡ length text - start
length_cut text start = ap length (cut_all text start) ∙ length-drop start text

-- One byte more in front has one double quote more, if it is one.
quotes_more : (s : List ℕ) (p : ℕ) → p < length s → quotes (take (suc p) s) ≡ quotes (take p s) + choose (eqb (get_or s p 0) 0x22) 1 0
unfolding quotes
quotes_more [] p h = absurd (omega arith)
quotes_more (b ∷ s) zero h = omega arith
quotes_more (b ∷ s) (suc p) h = omega (arith, quotes_more s p (omega arith))

abbrev even : ℕ → Bool
even n = eqb (n % 2) 0

even_more : (n : ℕ) → even (n + 1) ≡ not (even n)
even_more n = go (even n) refl
  where
    go : (t : Bool) → even n ≡ t → even (n + 1) ≡ not t
    go true e = let h = eqb-true (n % 2) 0 e in ne_eqb ((n + 1) % 2) 0 (λ z. omega arith)
    go false e = let h = eqb-false (n % 2) 0 e in eq-eqb ((n + 1) % 2) 0 (omega arith)

pub record Passed (s : List ℕ) (p : ℕ) (quoted : Bool) : Type 0 where
  ends : value_length s ≡ first (splits s) (length s - p) p
  outside : eqb (quotes (take p s) % 2) 0 ≡ not quoted

pub passed_start : (s : List ℕ) → Passed s 0 false
unfolding value_length quotes
passed_start s = record { ends = ap (λ (n : ℕ). first (splits s) n 0) (omega arith); outside = refl }

module _ {s : List ℕ} {p : ℕ} {quoted : Bool} (at : Passed s p quoted) where
  pub passed_end : length s ≤ p → length s ≡ value_length s
  unfolding first
  passed_end h =
      let z : length s - p ≡ 0 = omega arith in
      let end = at.ends ∙ ap (λ (n : ℕ). first (splits s) n p) z in
      omega (arith, end, value_within s)

  module _ (h : p < length s) where
    left : length s - p ≡ suc (length s - suc p)
    left = omega arith

    splits_here : get_or s p 0 ≡ 0x2C → splits s p ≡ not quoted
    unfolding splits
    splits_here e = rw (eq-eqb (get_or s p 0) 0x2C e, at.outside)

    splits_not : (get_or s p 0 ≡ 0x2C → ⊥) → splits s p ≡ false
    unfolding splits
    splits_not e = rw (ne_eqb (get_or s p 0) 0x2C e)

    pub passed_comma : get_or s p 0 ≡ 0x2C → not quoted ≡ true → p ≡ value_length s
    passed_comma e q =
        sym (at.ends ∙ ap (λ (n : ℕ). first (splits s) n p) left ∙ first_hit (splits s) _ p (splits_here e ∙ q))

    missed : splits s p ≡ false → value_length s ≡ first (splits s) (length s - suc p) (suc p)
    missed e = at.ends ∙ ap (λ (n : ℕ). first (splits s) n p) left ∙ first_miss (splits s) _ p e

    -- A double quote turns inside into outside.
    pub passed_quote : get_or s p 0 ≡ 0x22 → Passed s (p + 1) (not quoted)
    passed_quote e = record {
      ends = rw add-one (missed (splits_not (λ z. omega arith)));
      outside =
          let more : quotes (take (suc p) s) ≡ quotes (take p s) + 1 =
          omega (arith, quotes_more s p h, choose_true {A = ℕ} 1 0 (eq-eqb (get_or s p 0) 0x22 e)) in
          rw (add-one, more) (even_more (quotes (take p s)) ∙ ap not at.outside);
    }

    still : (get_or s p 0 ≡ 0x22 → ⊥) → even (quotes (take (p + 1) s)) ≡ not quoted
    still e =
        let same : quotes (take (suc p) s) ≡ quotes (take p s) =
        omega (arith, quotes_more s p h, choose_false {A = ℕ} 1 0 (ne_eqb (get_or s p 0) 0x22 e)) in
        rw (add-one, same) at.outside

    -- A comma inside double quotes, and a byte that is neither.
    pub passed_quoted : get_or s p 0 ≡ 0x2C → not quoted ≡ false → Passed s (p + 1) quoted
    passed_quoted e q = record {
      ends = rw add-one (missed (splits_here e ∙ q));
      outside = still (λ z. omega arith);
    }

    pub passed_other : (get_or s p 0 ≡ 0x22 → ⊥) → (get_or s p 0 ≡ 0x2C → ⊥) → Passed s (p + 1) quoted
    passed_other e f = record { ends = rw add-one (missed (splits_not f)); outside = still e }
