-- The first index that passes a test, and all that pass it: what each finds, and how the one finds the others one by one.
use Prim.Native.Nat.{ℕ, zero, suc, ◌+◌, ◌-◌, ◌≤◌, ◌<◌}
use mathlib.Core.Path.{◌≡◌, refl, ap, ◌∙◌}
use mathlib.Core.Bool.{Bool, true, false}
use mathlib.Core.List.{List, [], ◌∷◌, ◌++◌, append-nil}
use mathlib.Core.Logic.{⊎_elim}
use native.Mathlib.Nat.{zero-add, add-zero, suc-add, add-suc, eq-or-lt_of_le}
use native.Mathlib.Omega.{arith}
use Rattle.reads.proofs.Tests.{by_choose, choose_true, choose_false}
use Rattle.records.specs.Search.{first, all_from}
use Rattle.std.specs.Prelude.{None, Some}

-- What is known of the index found among the k from i on.
pub record FirstOf (test : ℕ → Bool) (k i j : ℕ) : Type 0 where
  pub from : i ≤ j
  pub below : j < i + k
  pub passes : test j ≡ true
  pub before : (x : ℕ) → i ≤ x → x < j → test x ≡ false

module _ (test : ℕ → Bool) where
  first_pass : (k i : ℕ) → test i ≡ true → first test (suc k) i ≡ Some i
  unfolding first
  first_pass k i t = choose_true (Some i) (first test k (suc i)) t

  first_fail : (k i : ℕ) → test i ≡ false → first test (suc k) i ≡ first test k (suc i)
  unfolding first
  first_fail k i t = choose_false (Some i) (first test k (suc i)) t

  all_pass : (k i : ℕ) → test i ≡ true → all_from test (suc k) i ≡ i ∷ all_from test k (suc i)
  unfolding all_from
  all_pass k i t = choose_true (i ∷ all_from test k (suc i)) (all_from test k (suc i)) t

  all_fail : (k i : ℕ) → test i ≡ false → all_from test (suc k) i ≡ all_from test k (suc i)
  unfolding all_from
  all_fail k i t = choose_false (i ∷ all_from test k (suc i)) (all_from test k (suc i)) t

  -- An index from i on that fails at i lies above i.
  fails_from : (i : ℕ) (P : ℕ → Type 0) → P i → ((x : ℕ) → suc i ≤ x → P x) → (x : ℕ) → i ≤ x → P x
  fails_from i P here later x l =
      ⊎_elim (λ (e : i ≡ x). rw (← e) here) (λ u. later x u) (eq-or-lt_of_le l)

  pub first_some : (k i j : ℕ) → first test k i ≡ Some j → FirstOf test k i j
  unfolding first
  first_some zero i j = λ e. let z : ◌≡◌ {A = ℕ} 0 1 = cc in absurd (omega arith)
  first_some (suc k) i j =
      by_choose (λ o. o ≡ Some j → FirstOf test (suc k) i j) (λ t e. here t (cc)) (λ t e. later t (first_some k (suc i) j e))
    where
      here : test i ≡ true → i ≡ j → FirstOf test (suc k) i j
      here t e = record { from = omega arith; below = omega arith; passes = rw (← e) t; before = λ x l u. absurd (omega arith) }

      later : test i ≡ false → FirstOf test k (suc i) j → FirstOf test (suc k) i j
      later t f =
          record {
            from = omega (arith, f.from);
            below = omega (arith, f.below);
            passes = f.passes;
            before = λ x l. fails_from i (λ y. y < j → test y ≡ false) (λ u. t) (λ y p. f.before y p) x l;
          }

  pub first_is_none : (k i : ℕ) → first test k i ≡ None → (x : ℕ) → i ≤ x → x < i + k → test x ≡ false
  unfolding first
  first_is_none zero i = λ e x l u. absurd (omega arith)
  first_is_none (suc k) i =
      by_choose (λ o. o ≡ None → (x : ℕ) → i ≤ x → x < i + suc k → test x ≡ false)
      (λ t e. let z : ◌≡◌ {A = ℕ} 0 1 = cc in absurd (omega arith))
      (λ t e. fails_from i (λ y. y < i + suc k → test y ≡ false) (λ u. t) (λ y p u. first_is_none k (suc i) e y p (omega arith)))

  -- The first of all is the one found, and the others come after it.
  pub all_of_some : (k i j : ℕ) → first test k i ≡ Some j → all_from test k i ≡ j ∷ all_from test (k - (suc j - i)) (suc j)
  unfolding first all_from
  all_of_some zero i j = λ e. cc
  all_of_some (suc k) i j =
      by_choose (λ o. o ≡ Some j → all_from test (suc k) i ≡ j ∷ all_from test (suc k - (suc j - i)) (suc j)) (λ t e. here t (cc))
      (λ t e. later t (first_some k (suc i) j e).from (all_of_some k (suc i) j e))
    where
      here : test i ≡ true → i ≡ j → all_from test (suc k) i ≡ j ∷ all_from test (suc k - (suc j - i)) (suc j)
      here t e =
          let n : suc k - (suc i - i) ≡ k = omega arith in
          rw (← e) (all_pass k i t ∙ rw n)

      later : test i ≡ false → suc i ≤ j → all_from test k (suc i) ≡ j ∷ all_from test (k - (suc j - suc i)) (suc j)
          → all_from test (suc k) i ≡ j ∷ all_from test (suc k - (suc j - i)) (suc j)
      later t l ih =
          let n : suc k - (suc j - i) ≡ k - (suc j - suc i) = omega arith in
          all_fail k i t ∙ ih ∙ rw n

  pub all_of_first_none : (k i : ℕ) → first test k i ≡ None → all_from test k i ≡ []
  unfolding first all_from
  all_of_first_none zero i = λ e. refl
  all_of_first_none (suc k) i =
      by_choose (λ o. o ≡ None → all_from test (suc k) i ≡ []) (λ t e. cc) (λ t e. all_fail k i t ∙ all_of_first_none k (suc i) e)

  -- What is found among k indices is found among more.
  pub first_of_more : (k d i j : ℕ) → first test k i ≡ Some j → first test (k + d) i ≡ Some j
  unfolding first
  first_of_more zero d i j = λ e. let z : ◌≡◌ {A = ℕ} 0 1 = cc in absurd (omega arith)
  first_of_more (suc k) d i j =
      by_choose (λ o. o ≡ Some j → first test (suc k + d) i ≡ Some j) (λ t e. rw suc-add (first_pass (k + d) i t ∙ e))
      (λ t e. rw suc-add (first_fail (k + d) i t ∙ first_of_more k d (suc i) j e))

  -- d indices that fail are passed over.
  first_run : (d k i : ℕ) → ((x : ℕ) → i ≤ x → x < i + d → test x ≡ false) → first test (d + k) i ≡ first test k (i + d)
  first_run zero k i f = simp (zero-add, add-zero)
  first_run (suc d) k i f =
      let ih = first_run d k (suc i) (λ x l u. f x (omega arith) (omega arith)) in
      rw suc-add (first_fail (d + k) i (f i (omega arith) (omega arith)) ∙ ih ∙ simp (suc-add, add-suc))

  -- With none among them, nothing is found.
  pub all_of_none : (k i : ℕ) → ((x : ℕ) → i ≤ x → x < i + k → test x ≡ false) → all_from test k i ≡ []
  unfolding all_from
  all_of_none zero i f = refl
  all_of_none (suc k) i f =
      all_fail k i (f i (omega arith) (omega arith)) ∙ all_of_none k (suc i) (λ x l u. f x (omega arith) (omega arith))

  pub all_split : (d k i : ℕ) → all_from test (d + k) i ≡ all_from test d i ++ all_from test k (i + d)
  unfolding all_from
  all_split zero k i = simp (zero-add, add-zero)
  all_split (suc d) k i = go (test i) refl (all_split d k (suc i))
    where
      go : (b : Bool) → test i ≡ b → all_from test (d + k) (suc i) ≡ all_from test d (suc i) ++ all_from test k (suc i + d)
          → all_from test (suc d + k) i ≡ all_from test (suc d) i ++ all_from test k (i + suc d)
      go true t ih = simp (suc-add, add-suc, all_pass (d + k) i t, all_pass d i t) (ap (λ (xs : List ℕ). i ∷ xs) (simp suc-add at ih))
      go false t ih = simp (suc-add, add-suc, all_fail (d + k) i t, all_fail d i t) (simp suc-add at ih)

  -- Where every index from d on fails, the first d are computed alone.
  pub all_of_less : (count d : ℕ) → d ≤ count → ((x : ℕ) → d ≤ x → x < count → test x ≡ false) → all_from test count 0 ≡ all_from test d 0
  all_of_less count d l f =
      let e : count ≡ d + (count - d) = omega arith in
      ap (λ (n : ℕ). all_from test n 0) e
      ∙ all_split d (count - d) 0
      ∙ ap (λ (xs : List ℕ). all_from test d 0 ++ xs) (rw (zero-add d) (all_of_none (count - d) d (λ x p q. f x p (omega arith))))
      ∙ append-nil (all_from test d 0)

-- The indices from i to the count.
module _ (test : ℕ → Bool) (count i : ℕ) where
  pub first_skip : (j : ℕ) → i ≤ j → j ≤ count → ((x : ℕ) → i ≤ x → x < j → test x ≡ false) → first test (count - i) i ≡ first test (count - j) j
  first_skip j l u f =
      let a : count - i ≡ (j - i) + (count - j) = omega arith in
      let b : i + (j - i) ≡ j = omega arith in
      rw a (first_run test (j - i) (count - j) i (λ x p q. f x p (omega arith)) ∙ ap (first test (count - j)) b)

  pub first_past : count ≤ i → first test (count - i) i ≡ None
  unfolding first
  first_past h = let a : count - i ≡ 0 = omega arith in rw a

  pub first_here : i < count → test i ≡ true → first test (count - i) i ≡ Some i
  first_here h e =
      let a : count - i ≡ suc (count - suc i) = omega arith in
      rw a (first_pass test (count - suc i) i e)

pub first_none : (test : ℕ → Bool) (count i : ℕ) → ((x : ℕ) → i ≤ x → x < count → test x ≡ false) → i ≤ count → first test (count - i) i ≡ None
first_none test count i f l = first_skip test count i count l (omega arith) f ∙ first_past test count count (omega arith)
