-- A definition depends on the answers to the questions that it asks, and on nothing else: where two tables answer these alike, its outcome
-- and its questions are the same.
use mathlib.Core.Path.{◌≡◌, refl, ap}
use mathlib.Core.Bool.{Bool, true, false}
use mathlib.Core.List.{List, [], ◌∷◌, ◌++◌}
use Rattle.reads.specs.Outcome.{Outcome, value, absent, refused, and_then, or_else, or_first, because, choose}
use Rattle.reads.specs.declared.answer.Reason.{Reason}
use Rattle.pointers.specs.Tables.{Tables}
use Rattle.records.specs.Ask.{Ask, answer}
use Rattle.records.specs.Asks.{if_value, if_absent, asks, Within, itself, in_first, in_next, in_either, in_other, in_either_first, in_other_first, in_chosen, in_rejected, in_trial, Each}
use Rattle.records.specs.Decode.{Decode, made, asked, after, either, either_first, chosen, trial, tried_of, run}

-- What holds of each of two lists together holds of each of either.
module _ {A : Type 0} (P : A → Type 0) where
  pub each_left : (xs ys : List A) → Each P (xs ++ ys) → Each P xs
  each_left [] ys h = tt
  each_left (x ∷ xs) ys h = (h.0, each_left xs ys h.1)

  pub each_right : (xs ys : List A) → Each P (xs ++ ys) → Each P ys
  each_right [] ys h = h
  each_right (x ∷ xs) ys h = each_right xs ys h.1

-- The same outcome, and the same questions.
pub record Same {A : Type 0} (o p : Outcome A) (qs rs : List Ask) : Type 0 where
  pub outcome : o ≡ p
  pub questions : qs ≡ rs

abbrev same : {A : Type 0} (o : Outcome A) (qs : List Ask) → Same o o qs qs
same o qs = record { outcome = refl; questions = refl }

module _ (P : Ask → Type 0) where
  value_same : {A B : Type 0} (o : Outcome A) (f g : A → Outcome B) (us vs : A → List Ask) → Each P (if_value o us)
      → ((a : A) → Each P (us a) → Same (f a) (g a) (us a) (vs a)) → Same (and_then o f) (and_then o g) (if_value o us) (if_value o vs)
  value_same (value a) f g us vs e h = h a e
  value_same (absent r) f g us vs e h = same (absent r) []
  value_same (refused k) f g us vs e h = same (refused k) []

  else_same : {A : Type 0} (o d e : Outcome A) (us vs : List Ask) → Each P (if_absent o us) → (Each P us → Same d e us vs)
      → Same (or_else o d) (or_else o e) (if_absent o us) (if_absent o vs)
  else_same (value a) d e us vs h k = same (value a) []
  else_same (absent r) d e us vs h k = k h
  else_same (refused n) d e us vs h k = same (refused n) []

  first_same : {A : Type 0} (o d e : Outcome A) (us vs : List Ask) → Each P (if_absent o us) → (Each P us → Same d e us vs)
      → Same (or_first o d) (or_first o e) (if_absent o us) (if_absent o vs)
  first_same (value a) d e us vs h k = same (value a) []
  first_same (absent r) d e us vs h k = record { outcome = ap (because r) (k h).outcome; questions = (k h).questions }
  first_same (refused n) d e us vs h k = same (refused n) []

  choose_same : {A : Type 0} (b : Bool) (d d' e e' : Outcome A) (us us' vs vs' : List Ask) → Each P (choose b us vs)
      → (Each P us → Same d d' us us') → (Each P vs → Same e e' vs vs') → Same (choose b d e) (choose b d' e') (choose b us vs) (choose b us' vs')
  unfolding choose
  choose_same true d d' e e' us us' vs vs' h k l = k h
  choose_same false d d' e e' us us' vs vs' h k l = l h

-- First one definition, then what is made of its outcome.
both_same : {A B : Type 0} {o o' : Outcome A} {qs qs' : List Ask} (F G : Outcome A → Outcome B) (us vs : Outcome A → List Ask)
    → Same o o' qs qs' → Same (F o) (G o) (us o) (vs o) → Same (F o) (G o') (qs ++ us o) (qs' ++ vs o')
both_same {qs = qs} F G us vs e h =
    rw (← e.outcome, ← e.questions) record { outcome = h.outcome; questions = ap (λ rs. qs ++ rs) h.questions }

module _ (t u : Tables) where
  abbrev pub AnswerAlike : Ask → Type 0
  AnswerAlike q = answer t q ≡ answer u q

  pub asks_decide : {A : Type 0} (d : Decode A) → Each AnswerAlike (asks t d) → Same (run t d) (run u d) (asks t d) (asks u d)
  unfolding asks
  asks_decide (made a) h = same (value a) []
  asks_decide (asked q) h = record { outcome = h.0; questions = refl }
  asks_decide (after d f) h =
      both_same
      (λ o. and_then o (λ a. run t (f a))) (λ o. and_then o (λ a. run u (f a)))
      (λ o. if_value o (λ a. asks t (f a))) (λ o. if_value o (λ a. asks u (f a)))
      (asks_decide d (each_left AnswerAlike (asks t d) _ h))
      (value_same AnswerAlike (run t d) (λ a. run t (f a)) (λ a. run u (f a)) (λ a. asks t (f a)) (λ a. asks u (f a))
      (each_right AnswerAlike (asks t d) _ h) (λ a g. asks_decide (f a) g))
  asks_decide (either d e) h =
      both_same
      (λ o. or_else o (run t e)) (λ o. or_else o (run u e))
      (λ o. if_absent o (asks t e)) (λ o. if_absent o (asks u e))
      (asks_decide d (each_left AnswerAlike (asks t d) _ h))
      (else_same AnswerAlike (run t d) (run t e) (run u e) (asks t e) (asks u e)
      (each_right AnswerAlike (asks t d) _ h) (λ g. asks_decide e g))
  asks_decide (either_first d e) h =
      both_same
      (λ o. or_first o (run t e)) (λ o. or_first o (run u e))
      (λ o. if_absent o (asks t e)) (λ o. if_absent o (asks u e))
      (asks_decide d (each_left AnswerAlike (asks t d) _ h))
      (first_same AnswerAlike (run t d) (run t e) (run u e) (asks t e) (asks u e)
      (each_right AnswerAlike (asks t d) _ h) (λ g. asks_decide e g))
  asks_decide (chosen b d e) h =
      choose_same AnswerAlike b (run t d) (run u d) (run t e) (run u e) (asks t d) (asks u d) (asks t e) (asks u e)
      h (λ g. asks_decide d g) (λ g. asks_decide e g)
  asks_decide (trial d) h =
      let s = asks_decide d h in record { outcome = ap tried_of s.outcome; questions = s.questions }

-- What is run within a definition asks no more than that.
module _ (t : Tables) (P : Ask → Type 0) where
  after_value : {B : Type 0} {o : Outcome B} {b : B} (us : B → List Ask) → o ≡ value b → Each P (if_value o us) → Each P (us b)
  after_value us q h = rw q at h

  after_absent : {B : Type 0} {o : Outcome B} {r : Reason} (us : List Ask) → o ≡ absent r → Each P (if_absent o us) → Each P us
  after_absent us q h = rw q at h

  pub within_asks : {A : Type 0} {d : Decode A} {B : Type 0} {e : Decode B} → Within t d B e → Each P (asks t e) → Each P (asks t d)
  unfolding asks choose
  within_asks itself h = h
  within_asks (in_first {e = e} f w) h = within_asks w (each_left P (asks t e) _ h)
  within_asks (in_next {e = e} {f = f} q w) h = within_asks w (after_value (λ b. asks t (f b)) q (each_right P (asks t e) _ h))
  within_asks (in_either {e = e} other w) h = within_asks w (each_left P (asks t e) _ h)
  within_asks (in_other {e = e} {other = other} q w) h = within_asks w (after_absent (asks t other) q (each_right P (asks t e) _ h))
  within_asks (in_either_first {e = e} other w) h = within_asks w (each_left P (asks t e) _ h)
  within_asks (in_other_first {e = e} {other = other} q w) h = within_asks w (after_absent (asks t other) q (each_right P (asks t e) _ h))
  within_asks (in_chosen other q w) h = within_asks w (rw q at h)
  within_asks (in_rejected q w) h = within_asks w (rw q at h)
  within_asks (in_trial w) h = within_asks w h
