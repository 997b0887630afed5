-- The chain of a page from any of its slots on.
use Rattle.std.proofs.Common.{◌≡◌, ℕ, zero, suc, ◌+◌, ◌-◌, ◌^◌, ◌<◌, ◌≤◌, Bool, true, false, eqb, ltb, List, [], ◌∷◌, sym, refl, ap, ◌∙◌, arith, le-ltb, lt-ltb, eq-eqb, ne_eqb}
use borrow.Author.Tests.{eqb-false}
use Rattle.reads.specs.Outcome.{Outcome, value, absent, refused, and_then, choose}
use Rattle.fixups.specs.FixupChains.{lies}
use Rattle.fixups.specs.Chain.{Starts, visit_of, entry_of, slot_word, step_of, Met, met, chain, chain_at}
use Rattle.fixups.specs.Tables.{put, puts, told, State, Stepped, stepped, stepped_of}
use Rattle.fixups.specs.declared.chain.Fixups.{Fixups}
use Rattle.fixups.specs.declared.chain.Fixup.{Fixup}
use Rattle.std.specs.Prelude.{Result, Ok, Err}
use Rattle.fixups.proofs.Visits.{after}
use Rattle.reads.specs.declared.answer.Question.{Question}
use Rattle.reads.specs.declared.answer.Question.TheVariants.{FixupSlot}

pub same_then : {A B : Type 0} (v : Outcome A) (g h : A → Outcome B) → ((a : A) → g a ≡ h a) → and_then v g ≡ and_then v h
same_then (value a) g h e = e a
same_then (absent r) g h e = refl
same_then (refused k) g h e = refl

-- One slot, and the rest of the chain if there is a next.
abbrev onward : Met → Outcome (List Fixup) → Outcome (List Fixup)
onward m rest = choose (eqb m.step 0) (value (m.fixup ∷ [])) (and_then rest (λ xs. value (m.fixup ∷ xs)))

same_onward : (m : Met) (x y : Outcome (List Fixup)) → ((m.step ≡ 0 → ⊥) → x ≡ y) → onward m x ≡ onward m y
unfolding choose
same_onward m x y h = go (eqb m.step 0) refl
  where
    go : (t : Bool) → eqb m.step 0 ≡ t
        → choose t (value (m.fixup ∷ [])) (and_then x (λ xs. value (m.fixup ∷ xs))) ≡ choose t (value (m.fixup ∷ [])) (and_then y (λ xs. value (m.fixup ∷ xs)))
    go true e = refl
    go false e = rw (h (eqb-false _ _ e))

module _ (file body : List ℕ) (f : Fixups) (s : Starts) (page : ℕ) where
  -- As many steps as the page has bytes left are enough.
  enough : (k j o : ℕ) → s.size - o ≤ k → s.size - o ≤ j → chain file body f s page k o ≡ chain file body f s page j o
  unfolding chain choose
  enough zero zero o p q = refl
  enough zero (suc j) o p q = simp (le-ltb o s.size (omega arith))
  enough (suc k) zero o p q = simp (le-ltb o s.size (omega arith))
  enough (suc k) (suc j) o p q =
      ap (λ (x : Outcome (List Fixup)). choose (ltb o s.size) x (refused FixupSlot))
      (same_then (visit_of file body f s (page + o)) (λ m. onward m (chain file body f s page k (o + m.step))) (λ m. onward m (chain file body f s page j (o + m.step)))
      (λ m. same_onward m (chain file body f s page k (o + m.step)) (chain file body f s page j (o + m.step))
      (λ n. enough k j (o + m.step) (omega arith) (omega arith))))

  -- A chain that has left its page.
  pub chain_out : (o : ℕ) → s.size ≤ o → chain_at file body f s page o ≡ refused FixupSlot
  unfolding chain choose
  chain_out o h = let e : s.size - o ≡ 0 = omega arith in rw e

  -- The rule of a chain: the slot, and the chain from the next slot on.
  pub chain_rule : (o : ℕ) → o < s.size
      → chain_at file body f s page o ≡ and_then (visit_of file body f s (page + o)) (λ m. onward m (chain_at file body f s page (o + m.step)))
  unfolding chain choose
  chain_rule o h =
      enough (s.size - o) (suc (s.size - suc o)) o (omega arith) (omega arith)
      ∙ simp (lt-ltb o s.size h)
      (same_then (visit_of file body f s (page + o)) (λ m. onward m (chain file body f s page (s.size - suc o) (o + m.step))) (λ m. onward m (chain_at file body f s page (o + m.step)))
      (λ m. same_onward m (chain file body f s page (s.size - suc o) (o + m.step)) (chain_at file body f s page (o + m.step))
      (λ n. enough (s.size - suc o) (s.size - (o + m.step)) (o + m.step) (omega arith) (omega arith))))

told_rest : (x : Outcome (List Fixup)) (y : Fixup) (st : State) → told (and_then x (λ xs. value (y ∷ xs))) st ≡ told x (put y st)
unfolding told puts
told_rest (value xs) y st = refl
told_rest (absent r) y st = refl
told_rest (refused k) y st = refl

-- A slot's step stays below 2 ^ 14.
short : (b : Bool) (e : Outcome Fixup) (w : ℕ) (m : Met) → choose b (and_then e (λ x. value (met x (step_of w)))) (refused FixupSlot) ≡ value m → m.step < 2 ^ 14
unfolding step_of choose
short true (value x) w m q = let p : met x (step_of w) ≡ m = cc in omega (arith, ap (λ (t : Met). t.step) p)
short true (absent r) w m q = let z : ◌≡◌ {A = ℕ} 0 1 = cc in absurd (omega arith)
short true (refused k) w m q = let z : ◌≡◌ {A = ℕ} 0 1 = cc in absurd (omega arith)
short false e w m q = let z : ◌≡◌ {A = ℕ} 0 1 = cc in absurd (omega arith)

visit_short : (file body : List ℕ) (f : Fixups) (s : Starts) (at : ℕ) (m : Met) → visit_of file body f s at ≡ value m → m.step < 2 ^ 14
unfolding visit_of
visit_short file body f s at m q = short (lies file (s.fileoff + at) 8) (entry_of body f s at (slot_word file s at)) (slot_word file s at) m q

module _ (file body : List ℕ) (f : Fixups) (s : Starts) (page o : ℕ) (st : State) where
  pub left : s.size ≤ o → refused FixupSlot ≡ told (chain_at file body f s page o) st
  unfolding told
  left h = rw (chain_out file body f s page o h)

  carried : (m : Met) (n : ℕ) (t : State) → n ≡ m.step → t ≡ put m.fixup st → (n ≡ 0 → ⊥)
      → told (chain_at file body f s page (o + n)) t ≡ told (onward m (chain_at file body f s page (o + m.step))) st
  unfolding choose
  carried m n t en et z =
      rw (en, et) (simp (ne_eqb m.step 0 (λ w. z (en ∙ w))) (sym (told_rest (chain_at file body f s page (o + m.step)) m.fixup st)))

-- What the code sees of a slot: v, with what it leaves in the tables.
module _ (file body : List ℕ) (f : Fixups) (s : Starts) (page o : ℕ) (st : State) (h : o < s.size)
    (v : Result ℕ Question) (t : State) (seen : stepped_of v t ≡ and_then (visit_of file body f s (page + o)) (after st)) where
  pub chain_refused : (k : Question) → v ≡ Err k → refused k ≡ told (chain_at file body f s page o) st
  unfolding told
  chain_refused k e = rw (chain_rule file body f s page o h) (go (visit_of file body f s (page + o)) (rw e at seen))
    where
      go : (W : Outcome Met) → refused k ≡ and_then W (after st)
          → refused k ≡ and_then (and_then W (λ m. onward m (chain_at file body f s page (o + m.step)))) (λ xs. value (puts xs st))
      go (value m) q = let z : ◌≡◌ {A = ℕ} 0 1 = cc in absurd (omega arith)
      go (absent j) q = let z : ◌≡◌ {A = ℕ} 0 1 = cc in absurd (omega arith)
      go (refused j) q = cc

  module _ (n : ℕ) (e : v ≡ Ok n) where
    met_one : (W : Outcome Met) → value (stepped n t) ≡ and_then W (after st)
        → (m : Met) × (W ≡ value m) × (n ≡ m.step) × (t ≡ put m.fixup st)
    met_one (value m) q =
        let p : stepped n t ≡ stepped m.step (put m.fixup st) = cc in
        (m, refl, ap (λ (q : Stepped). q.step) p, ap (λ (q : Stepped). q.after) p)
    met_one (absent j) q = let z : ◌≡◌ {A = ℕ} 0 1 = cc in absurd (omega arith)
    met_one (refused j) q = let z : ◌≡◌ {A = ℕ} 0 1 = cc in absurd (omega arith)

    pub last : n ≡ 0 → value t ≡ told (chain_at file body f s page o) st
    unfolding told puts choose
    last z =
        let q = met_one (visit_of file body f s (page + o)) (rw e at seen) in
        rw (chain_rule file body f s page o h, q.1) (simp (eq-eqb q.0.step 0 (sym q.2 ∙ z), q.3))

    pub onto : (n ≡ 0 → ⊥) → told (chain_at file body f s page (o + n)) t ≡ told (chain_at file body f s page o) st
    onto z =
        let q = met_one (visit_of file body f s (page + o)) (rw e at seen) in
        rw (chain_rule file body f s page o h, q.1) (carried file body f s page o st q.0 n t q.2 q.3 z)

    pub small : n < 2 ^ 14
    small =
        let q = met_one (visit_of file body f s (page + o)) (rw e at seen) in
        omega (arith, visit_short file body f s (page + o) q.0 q.1, q.2)
