-- The entry that is looked for, by the tests that the code makes.
use Prim.Native.Nat.{ℕ, zero, suc, ◌+◌, ◌-◌, ◌≤◌, ◌<◌}
use mathlib.Core.Path.{◌≡◌, sym, refl, ◌∙◌, ap}
use mathlib.Core.Bool.{Bool, true, false}
use mathlib.Core.List.{List}
use native.Mathlib.Omega.{arith}
use Rattle.reads.specs.Outcome.{choose}
use Rattle.reads.proofs.Tests.{choose_true, choose_false}
use Rattle.universal.specs.Fat.{arch_at}
use Rattle.std.specs.Prelude.{Option, None, Some}
use Rattle.universal.specs.Architecture.{without, arm64, is_arch, is_abi64, first_arch, chosen}
use Rattle.universal.specs.declared.fat.Part.{Part}
use Rattle.universal.specs.declared.fat.Kind.{Kind}
use Rattle.universal.specs.declared.arch.Arch.{Arch}

module _ (file : List ℕ) (kind : Kind) (test : Part → Bool) (k i : ℕ) where
  pub first_end : k ≤ 0 → None ≡ first_arch file kind test k i
  unfolding first_arch
  first_end h = let e : k ≡ 0 = omega arith in rw e

  module _ (h : 0 < k) where
    first_more : first_arch file kind test k i ≡ choose (test (arch_at file kind i)) (Some i) (first_arch file kind test (k - 1) (i + 1))
    unfolding first_arch
    first_more = let e : k ≡ suc (k - 1) = omega arith in ap (λ n. first_arch file kind test n i) e

    pub first_here : test (arch_at file kind i) ≡ true → Some i ≡ first_arch file kind test k i
    first_here e = sym (first_more ∙ choose_true _ _ e)

    pub first_on : (j : ℕ) → j ≡ k - 1 → test (arch_at file kind i) ≡ false → first_arch file kind test k i ≡ first_arch file kind test j (i + 1)
    first_on j g e = rw g (first_more ∙ choose_false _ _ e)

-- The entry that is found is one of the table's.
module _ (file : List ℕ) (kind : Kind) where
  first_below : (test : Part → Bool) (k i j : ℕ) → first_arch file kind test k i ≡ Some j → j < i + k
  unfolding first_arch choose
  first_below test zero i j e = let z : ◌≡◌ {A = ℕ} 0 1 = cc in absurd (omega arith)
  first_below test (suc k) i j e = go (test (arch_at file kind i)) e (λ f. first_below test k (i + 1) j f)
    where
      go : (t : Bool) → choose t (Some i) (first_arch file kind test k (i + 1)) ≡ Some j
          → (first_arch file kind test k (i + 1) ≡ Some j → j < i + 1 + k) → j < i + suc k
      go true f later = let z : i ≡ j = cc in omega arith
      go false f later = omega (arith, later f)

  without_below : (count j : ℕ) (a b : Option ℕ) → (a ≡ Some j → j < count) → (b ≡ Some j → j < count) → without a b ≡ Some j → j < count
  without_below count j None b f g e = g e
  without_below count j (Some i) b f g e = f e

  pub chosen_below : (count : ℕ) (w : Option Arch) (j : ℕ) → chosen file kind count w ≡ Some j → j < count
  unfolding chosen
  chosen_below count (Some a) j e = omega (arith, first_below (is_arch a) count 0 j e)
  chosen_below count None j e =
      without_below count j _ _ (λ f. omega (arith, first_below (is_arch arm64) count 0 j f)) (λ f. omega (arith, first_below is_abi64 count 0 j f)) e

module _ (file : List ℕ) (kind : Kind) (count : ℕ) (w : Option Arch) where
  pub chosen_arch : (a : Arch) (o : Option ℕ) → w ≡ Some a → o ≡ first_arch file kind (is_arch a) count 0 → o ≡ chosen file kind count w
  unfolding chosen
  chosen_arch a o e f = rw e f

  module _ (e : w ≡ None) (o : Option ℕ) (f : o ≡ first_arch file kind (is_arch arm64) count 0) where
    chosen_default : without o (first_arch file kind is_abi64 count 0) ≡ chosen file kind count w
    unfolding chosen
    chosen_default = rw (e, ← f) refl

    pub chosen_arm64 : (i : ℕ) → o ≡ Some i → o ≡ chosen file kind count w
    chosen_arm64 i h = go o h ∙ chosen_default
      where
        go : (o' : Option ℕ) → o' ≡ Some i → o' ≡ without o' (first_arch file kind is_abi64 count 0)
        go o' h = rw h refl

    pub chosen_64 : o ≡ None → (r : Option ℕ) → r ≡ first_arch file kind is_abi64 count 0 → r ≡ chosen file kind count w
    chosen_64 h r g = g ∙ go o h ∙ chosen_default
      where
        go : (o' : Option ℕ) → o' ≡ None → first_arch file kind is_abi64 count 0 ≡ without o' (first_arch file kind is_abi64 count 0)
        go o' h = rw h refl
