-- Laws of tests and of choices by a test.
use Rattle.std.proofs.Common.{◌≡◌, ℕ, ◌<◌, ◌≤◌, Bool, true, false, ◌&&◌, leb, refl, le-leb, leb-false, leb-true}
use borrow.Author.Tests.{lt-leb}
use Rattle.reads.specs.Outcome.{choose}

-- Two tests agree where each outcome of the one gives that of the other.
pub le_same : (a b c d : ℕ) → (a ≤ b → c ≤ d) → (b < a → d < c) → leb a b ≡ leb c d
le_same a b c d f g = go (leb a b) refl
  where
    go : (t : Bool) → leb a b ≡ t → t ≡ leb c d
    go true e = rw (le-leb c d (f (leb-true a b e)))
    go false e = rw (lt-leb c d (g (leb-false a b e)))

-- What holds of either choice holds of the chosen one.
pub by_choose : {A : Type 0} (P : A → Type 0) {t : Bool} {a b : A} → (t ≡ true → P a) → (t ≡ false → P b) → P (choose t a b)
unfolding choose
by_choose P {t = true} f g = f refl
by_choose P {t = false} f g = g refl

pub choose_true : {A : Type 0} {t : Bool} (a b : A) → t ≡ true → choose t a b ≡ a
unfolding choose
choose_true a b e = rw e

pub choose_false : {A : Type 0} {t : Bool} (a b : A) → t ≡ false → choose t a b ≡ b
unfolding choose
choose_false a b e = rw e

-- Two choices by one test agree under f where each way agrees.
pub choose_same : {A B : Type 0} (f : A → B) {t : Bool} {a b c d : A} → (t ≡ true → f a ≡ f c) → (t ≡ false → f b ≡ f d)
    → f (choose t a b) ≡ f (choose t c d)
unfolding choose
choose_same f {t = true} p q = p refl
choose_same f {t = false} p q = q refl

pub both_true : (a b : Bool) → (a && b) ≡ true → (a ≡ true) × (b ≡ true)
both_true true b e = (refl, e)
both_true false b e = (cc, cc)
