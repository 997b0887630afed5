-- Laws of choices by a test.
use mathlib.Core.Path.{◌≡◌, refl, sym, ◌∙◌}
use mathlib.Core.Bool.{Bool, true, false}
use Rattle.reads.specs.Outcome.{choose}
use Rattle.reads.proofs.Tests.{choose_true, choose_false}

-- What the code returns behind a test is what the definition chooses, in the form in which a search finds it.
module _ {A : Type 0} {r t : Bool} {z : A} (x y : A) where
  pub chosen : r ≡ t → r ≡ true → z ≡ x → z ≡ choose t x y
  chosen e h q = q ∙ sym (choose_true x y (sym e ∙ h))

  pub passed : r ≡ t → r ≡ false → z ≡ y → z ≡ choose t x y
  passed e h q = q ∙ sym (choose_false x y (sym e ∙ h))

pub ruleset choices = (chosen, passed)

-- What relates the choices of two choices by one test relates the chosen ones.
pub by_both : {A B : Type 0} (P : A → B → Type 0) {t : Bool} {a b : A} {c d : B} → (t ≡ true → P a c) → (t ≡ false → P b d)
    → P (choose t a b) (choose t c d)
unfolding choose
by_both P {t = true} f g = f refl
by_both P {t = false} f g = g refl
