-- What holds of everything that a definition gives, given what holds of the ranges that it uses: by the parts of the definition.
use mathlib.Core.Path.{◌≡◌, refl, subst}
use mathlib.Core.Bool.{Bool, true, false}
use mathlib.Core.List.{List, ◌++◌}
use Prim.Native.Nat.{ℕ}
use native.Mathlib.Omega.{arith}
use Rattle.reads.specs.Outcome.{Outcome, value, absent, refused, or_else, or_first, because, choose}
use Rattle.reads.specs.declared.answer.Reason.{Reason}
use Rattle.reads.proofs.Outcomes.{then_came}
use Rattle.pointers.specs.Tables.{Tables}
use Rattle.records.specs.Asks.{if_value, if_absent, Each}
use Rattle.records.specs.Decode.{Decode, Tried, given, lacking, tried_of, run, done, then, else, else_first, when, tried}
use Rattle.records.proofs.Asks.{each_left, each_right}
use Rattle.ranges.specs.Range.{Range}
use Rattle.used.specs.Used.{used}
use Rattle.used.proofs.UsedParts.{used_then, used_else, used_else_first, used_when, used_tried}
use Rattle.reads.specs.declared.answer.Question.{Question}

-- Of what a trial gives, if it is there.
abbrev pub IfGiven : {A : Type 0} → (A → Type 0) → Tried A → Type 0
IfGiven P (given a) = P a
IfGiven P (lacking r) = Unit {0}

-- The value that an outcome has is the one that it is said to have.
value_is : {A : Type 0} (P : A → Type 0) {a b : A} → value a ≡ value b → P a → P b
value_is P {a} {b} e h = let same : a ≡ b = cc in subst P same h

no_value : {A B : Type 0} {r : Reason} {b : A} → absent r ≡ value b → B
no_value e = let z : ◌≡◌ {A = ℕ} 0 1 = cc in absurd (omega arith)

no_number : {A B : Type 0} {k : Question} {b : A} → refused k ≡ value b → B
no_number e = let z : ◌≡◌ {A = ℕ} 0 1 = cc in absurd (omega arith)

module _ (t : Tables) (Q : Range → Type 0) where
  pub record Yields {A : Type 0} (P : A → Type 0) (d : Decode A) : Type 0 where
    pub holds : Each Q (used t d) → (a : A) → run t d ≡ value a → P a

  pub after_value : {A : Type 0} {o : Outcome A} {a : A} (us : A → List Range) → o ≡ value a → Each Q (if_value o us) → Each Q (us a)
  after_value us e h = rw e at h

  pub yields_done : {A : Type 0} {P : A → Type 0} {a : A} → P a → Yields P (done a)
  yields_done {P = P} h = record { holds = λ each b e. value_is P e h }

  pub yields_then : {A B : Type 0} {R : A → Type 0} {P : B → Type 0} {d : Decode A} {f : A → Decode B} → Yields R d → ((a : A) → R a → Yields P (f a))
      → Yields P (then d f)
  yields_then {A} {B} {R} {P} {d} {f} first next = record { holds = given_all }
    where
      given_all : Each Q (used t (then d f)) → (b : B) → run t (then d f) ≡ value b → P b
      given_all each b e =
          let came = then_came (run t d) (λ a. run t (f a)) b e in
          let parts : Each Q (used t d ++ if_value (run t d) (λ a. used t (f a))) = subst (Each Q) (used_then t d f) each in
          let held = first.holds (each_left Q (used t d) _ parts) came.0 came.1 in
          (next came.0 held).holds (after_value (λ a. used t (f a)) came.1 (each_right Q (used t d) _ parts)) b came.2

  -- Whatever the first gives.
  pub yields_next : {A B : Type 0} {P : B → Type 0} {d : Decode A} {f : A → Decode B} → ((a : A) → Yields P (f a)) → Yields P (then d f)
  yields_next h = yields_then {R = λ _. Unit {0}} (record { holds = λ each a e. tt }) (λ a _. h a)

  pub yields_else : {A : Type 0} {P : A → Type 0} {d e : Decode A} → Yields P d → Yields P e → Yields P (else d e)
  yields_else {A} {P} {d} {e} first second = record { holds = given_all }
    where
      go : (b : A) (o : Outcome A) → run t d ≡ o → Each Q (used t d) → Each Q (if_absent o (used t e)) → or_else o (run t e) ≡ value b → P b
      go b (value a) s l r q = value_is P q (first.holds l a s)
      go b (absent why) s l r q = second.holds r b q
      go b (refused k) s l r q = no_number q

      given_all : Each Q (used t (else d e)) → (b : A) → run t (else d e) ≡ value b → P b
      given_all each b q =
          let parts : Each Q (used t d ++ if_absent (run t d) (used t e)) = subst (Each Q) (used_else t d e) each in
          go b (run t d) refl (each_left Q (used t d) _ parts) (each_right Q (used t d) _ parts) q

  pub yields_else_first : {A : Type 0} {P : A → Type 0} {d e : Decode A} → Yields P d → Yields P e → Yields P (else_first d e)
  yields_else_first {A} {P} {d} {e} first second = record { holds = given_all }
    where
      given_anyway : (b : A) (why : Reason) (o : Outcome A) → run t e ≡ o → Each Q (used t e) → because why o ≡ value b → P b
      given_anyway b why (value a) s r q = value_is P q (second.holds r a s)
      given_anyway b why (absent w) s r q = no_value q
      given_anyway b why (refused k) s r q = no_number q

      go : (b : A) (o : Outcome A) → run t d ≡ o → Each Q (used t d) → Each Q (if_absent o (used t e)) → or_first o (run t e) ≡ value b → P b
      go b (value a) s l r q = value_is P q (first.holds l a s)
      go b (absent why) s l r q = given_anyway b why (run t e) refl r q
      go b (refused k) s l r q = no_number q

      given_all : Each Q (used t (else_first d e)) → (b : A) → run t (else_first d e) ≡ value b → P b
      given_all each b q =
          let parts : Each Q (used t d ++ if_absent (run t d) (used t e)) = subst (Each Q) (used_else_first t d e) each in
          go b (run t d) refl (each_left Q (used t d) _ parts) (each_right Q (used t d) _ parts) q

  pub yields_when : {A : Type 0} {P : A → Type 0} {c : Bool} {d e : Decode A} → Yields P d → Yields P e → Yields P (when c d e)
  yields_when {A} {P} {c} {d} {e} first second = record { holds = λ each b q. go b c (subst (Each Q) (used_when t c d e) each) q }
    where
      go : (b : A) (x : Bool) → Each Q (choose x (used t d) (used t e)) → choose x (run t d) (run t e) ≡ value b → P b
      go b true h q = first.holds (unfold choose in h) b (unfold choose in q)
      go b false h q = second.holds (unfold choose in h) b (unfold choose in q)

  pub yields_tried : {A : Type 0} {P : A → Type 0} {d : Decode A} → Yields P d → Yields (IfGiven P) (tried d)
  yields_tried {A} {P} {d} first = record { holds = λ each b q. go b each (run t d) refl q }
    where
      go : (b : Tried A) → Each Q (used t (tried d)) → (o : Outcome A) → run t d ≡ o → tried_of o ≡ value b → IfGiven P b
      go b each (value a) s q = value_is (IfGiven P) q (first.holds (subst (Each Q) (used_tried t d) each) a s)
      go b each (absent r) s q = value_is (IfGiven P) q tt
      go b each (refused k) s q = no_number q
