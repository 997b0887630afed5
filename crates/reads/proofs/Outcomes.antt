-- Laws of outcomes, in the form in which a proof of code uses them: w is an answer of the code whose outcome is x.
use Rattle.std.proofs.Common.{◌≡◌, ℕ, ◌+◌, ◌^◌, ◌<◌, ◌≤◌, refl, sym, ap, ◌∙◌, arith, le-ltb, lt-ltb, ne_eqb}
use Rattle.reads.specs.Outcome.{Outcome, value, absent, refused, and_then, because, optional, or_first, or_zero, or_empty, choose, sum64, nonzero}
use Rattle.reads.specs.Answer.{answered, missed, outcome}
use Rattle.reads.specs.declared.answer.Reason.{Reason}
use Rattle.reads.specs.declared.answer.Reason.TheVariants.{NullAddress, FieldOverflow}
use Rattle.reads.specs.declared.answer.Missing.{Missing}
use Rattle.reads.specs.declared.answer.Missing.TheVariants.{Absent, Refused}
use Rattle.reads.specs.declared.place.Place.{Place}
use Rattle.reads.specs.declared.text.Text.{Text}
use Rattle.std.specs.Prelude.{Option, Some, None, Result, Ok, Err}
use Rattle.reads.specs.declared.answer.Question.{Question}

pub sum_fits : (a b : ℕ) → a + b < 2 ^ 64 → sum64 a b ≡ value (a + b)
unfolding sum64 choose
sum_fits a b h = simp (lt-ltb _ _ h)

pub sum_over : (a b : ℕ) → 2 ^ 64 ≤ a + b → sum64 a b ≡ absent FieldOverflow
unfolding sum64 choose
sum_over a b h = simp (le-ltb _ _ h)

pub nonzero_zero : nonzero 0 ≡ absent NullAddress
unfolding nonzero choose
nonzero_zero = refl

pub nonzero_else : (x : ℕ) → (x ≡ 0 → ⊥) → nonzero x ≡ value x
unfolding nonzero choose
nonzero_else x h = simp (ne_eqb x 0 h)

-- and_then groups either way, and a value is its unit on both sides.
pub then_then : {A B C : Type 0} (o : Outcome A) (f : A → Outcome B) (g : B → Outcome C)
    → and_then (and_then o f) g ≡ and_then o (λ a. and_then (f a) g)
then_then (value a) f g = refl
then_then (absent r) f g = refl
then_then (refused k) f g = refl

pub then_value : {A : Type 0} (o : Outcome A) → and_then o (λ a. value a) ≡ o
then_value (value a) = refl
then_value (absent r) = refl
then_value (refused k) = refl

-- A chain that gives a value came by one.
pub then_came : {A B : Type 0} (o : Outcome A) (f : A → Outcome B) (b : B) → and_then o f ≡ value b → (a : A) × (o ≡ value a) × (f a ≡ value b)
then_came (value a) f b e = (a, refl, e)
then_came (absent r) f b e = let z : ◌≡◌ {A = ℕ} 0 1 = cc in absurd (omega arith)
then_came (refused k) f b e = let z : ◌≡◌ {A = ℕ} 0 1 = cc in absurd (omega arith)

-- Chains that go on alike are alike.
pub then_alike : {A B : Type 0} (o : Outcome A) {f g : A → Outcome B} → ((a : A) → f a ≡ g a) → and_then o f ≡ and_then o g
then_alike (value a) h = h a
then_alike (absent r) h = refl
then_alike (refused k) h = refl

-- What a lookup gave, by what is there.
module _ {A : Type 0} where
  pub some_value : (o : Outcome A) {a : A} → optional o ≡ value (Some a) → o ≡ value a
  some_value (value b) {a} e = let f : b ≡ a = cc in ap (λ (x : A). value x) f
  some_value (absent why) e = let z : ◌≡◌ {A = ℕ} 0 1 = cc in absurd (omega arith)
  some_value (refused k) e = let z : ◌≡◌ {A = ℕ} 0 1 = cc in absurd (omega arith)

  pub none_absent : (o : Outcome A) → optional o ≡ value None → (why : Reason) × (o ≡ absent why)
  none_absent (value b) e = let z : ◌≡◌ {A = ℕ} 0 1 = cc in absurd (omega arith)
  none_absent (absent why) e = (why, refl)
  none_absent (refused k) e = let z : ◌≡◌ {A = ℕ} 0 1 = cc in absurd (omega arith)

  pub same_refused : (o : Outcome A) {k : Question} → optional o ≡ refused k → o ≡ refused k
  same_refused (value b) e = let z : ◌≡◌ {A = ℕ} 0 1 = cc in absurd (omega arith)
  same_refused (absent why) e = let z : ◌≡◌ {A = ℕ} 0 1 = cc in absurd (omega arith)
  same_refused (refused j) {k} e = let f : j ≡ k = cc in ap (λ (x : Question). refused x) f

  -- As the code asks.
  module _ {o : Outcome A} {r : Result (Option A) Question} (e : answered r ≡ optional o) where
    pub there_is : {f : Option A} {a : A} → r ≡ Ok f → f ≡ Some a → o ≡ value a
    there_is was is = some_value o (sym e ∙ ap answered (was ∙ ap Ok is))

    pub none_is : {f : Option A} → r ≡ Ok f → f ≡ None → (why : Reason) × (o ≡ absent why)
    none_is was is = none_absent o (sym e ∙ ap answered (was ∙ ap Ok is))

    pub refused_is : {k : Question} → r ≡ Err k → o ≡ refused k
    refused_is was = same_refused o (sym e ∙ ap answered was)

-- What is missing stays so.
pub missed_then : {A B : Type 0} (m : Missing) (f : A → Outcome B) → missed m ≡ and_then (missed m) f
missed_then (Absent r) f = refl
missed_then (Refused k) f = refl

-- An answer that was matched takes a chain of lookups one further.
module _ {W A B : Type 0} (out : W → Outcome A) (f : A → Outcome B) where
  pub on_value : {w v : W} {x : Outcome A} {a : A} {y : Outcome B} → out w ≡ x → w ≡ v → out v ≡ value a → y ≡ f a → y ≡ and_then x f
  on_value e g h r = rw (← e, g, h) r

  pub on_missing : {w v : W} {x : Outcome A} (m : Missing) → out w ≡ x → w ≡ v → out v ≡ missed m → missed m ≡ and_then x f
  on_missing m e g h = rw (← e, g, h) (missed_then m f)

  pub on_number : {w v : W} {x : Outcome A} {k : Question} → out w ≡ x → w ≡ v → out v ≡ refused k → refused k ≡ and_then x f
  on_number e g h = rw (← e, g, h)

module _ {B : Type 0} where
  pub word_value : (w : Result ℕ Missing) (x : Outcome ℕ) (f : ℕ → Outcome B) (n : ℕ) (y : Outcome B)
      → outcome w ≡ x → w ≡ Ok n → y ≡ f n → y ≡ and_then x f
  word_value w x f n y e g h = on_value outcome f e g refl h

  pub word_missing : (w : Result ℕ Missing) (x : Outcome ℕ) (f : ℕ → Outcome B) (m : Missing)
      → outcome w ≡ x → w ≡ Err m → missed m ≡ and_then x f
  word_missing w x f m e g = on_missing outcome f m e g refl

  pub place_value : (w : Result Place Missing) (x : Outcome Place) (f : Place → Outcome B) (p : Place) (y : Outcome B)
      → outcome w ≡ x → w ≡ Ok p → y ≡ f p → y ≡ and_then x f
  place_value w x f p y e g h = on_value outcome f e g refl h

  pub place_missing : (w : Result Place Missing) (x : Outcome Place) (f : Place → Outcome B) (m : Missing)
      → outcome w ≡ x → w ≡ Err m → missed m ≡ and_then x f
  place_missing w x f m e g = on_missing outcome f m e g refl

  pub text_value : (w : Result Text Missing) (x : Outcome Text) (f : Text → Outcome B) (t : Text) (y : Outcome B)
      → outcome w ≡ x → w ≡ Ok t → y ≡ f t → y ≡ and_then x f
  text_value w x f t y e g h = on_value outcome f e g refl h

  pub text_missing : (w : Result Text Missing) (x : Outcome Text) (f : Text → Outcome B) (m : Missing)
      → outcome w ≡ x → w ≡ Err m → missed m ≡ and_then x f
  text_missing w x f m e g = on_missing outcome f m e g refl

-- A second lookup where the first is absent, whose reason stands.
module _ {W A : Type 0} (out : W → Outcome A) (y : Outcome A) where
  pub first_value_lem : {w v : W} {x : Outcome A} {a : A} → out w ≡ x → w ≡ v → out v ≡ value a → value a ≡ or_first x y
  first_value_lem e g h = rw (← e, g, h)

  pub first_absent : {w v : W} {x z : Outcome A} {r : Reason} → out w ≡ x → w ≡ v → out v ≡ absent r → z ≡ because r y → z ≡ or_first x y
  first_absent e g h k = rw (← e, g, h) k

  pub first_number : {w v : W} {x : Outcome A} {k : Question} → out w ≡ x → w ≡ v → out v ≡ refused k → refused k ≡ or_first x y
  first_number e g h = rw (← e, g, h)

-- "or 0", "or empty" and another reason, of an answer whose outcome is x.
pub or_zero_of : (r w : Result ℕ Missing) (x : Outcome ℕ) → outcome r ≡ or_zero (outcome w) → outcome w ≡ x → outcome r ≡ or_zero x
or_zero_of r w x e g = e ∙ ap or_zero g

pub or_empty_of : (r w : Result Text Missing) (x : Outcome Text) → outcome r ≡ or_empty (outcome w) → outcome w ≡ x → outcome r ≡ or_empty x
or_empty_of r w x e g = e ∙ ap or_empty g

pub because_of : {A : Type 0} (r w : Result A Missing) (why : Reason) (x : Outcome A) → outcome r ≡ because why (outcome w) → outcome w ≡ x
    → outcome r ≡ because why x
because_of r w why x e g = e ∙ ap (because why) g

pub ruleset outcomes = (or_zero_of, or_empty_of, because_of, word_value, word_missing, place_value, place_missing, text_value, text_missing)
