-- The laws of the chain above a class, over any step.
use Prim.Native.Nat.{ℕ, zero, suc, ◌+◌, ◌<◌}
use mathlib.Core.Path.{◌≡◌, refl, sym, ◌∙◌}
use native.Mathlib.Omega.{arith}
use native.Mathlib.Nat.{suc-add, add-suc}
use Rattle.reads.specs.Outcome.{Outcome, value, absent, refused}
use Rattle.reads.specs.declared.answer.Reason.{Reason}
use Rattle.reads.proofs.Outcomes.{then_came}
use Rattle.ancestry.specs.Chain.{above, Ends, ended, looping, last_at, climb}
use Rattle.reads.specs.declared.answer.Question.{Question}

pub absent_value : {A B : Type 0} {b : B} {r : Reason} → ◌≡◌ {A = Outcome B} (absent r) (value b) → A
absent_value e = let z : ◌≡◌ {A = ℕ} 0 1 = cc in absurd (omega arith)

pub number_value : {A B : Type 0} {b : B} {k : Question} → ◌≡◌ {A = Outcome B} (refused k) (value b) → A
number_value e = let z : ◌≡◌ {A = ℕ} 0 1 = cc in absurd (omega arith)

-- The last of some classes.
pub last_some : (count top : ℕ) → (count ≡ 0 → ⊥) → last_at count 0 top ≡ top
last_some zero top n = absurd (n refl)
last_some (suc count) top n = refl

module _ (up : ℕ → Outcome ℕ) where
  -- The chain does not go on from `top`, `count` classes up: it ends there, or the step is refused.
  pub record Halts (a count top : ℕ) : Type 0 where
    pub leads : above up count a ≡ value top
    pub halts : (b : ℕ) → up top ≡ value b → ⊥

  pub ends_halts : {a k top : ℕ} → Ends up a k top → Halts a k top
  ends_halts e = record { leads = e.leads; halts = λ b f. absent_value (sym e.stops ∙ f) }

  pub refused_halts : {a k top : ℕ} {j : Question} → above up k a ≡ value top → up top ≡ refused j → Halts a k top
  refused_halts e r = record { leads = e; halts = λ b f. number_value (sym r ∙ f) }

  -- One step first.
  pub above_step : (k a b : ℕ) → up a ≡ value b → above up (suc k) a ≡ above up k b
  unfolding above
  above_step k a b e = rw e

  -- Going up further from where one has come.
  pub above_then : (k l a b : ℕ) → above up k a ≡ value b → above up (k + l) a ≡ above up l b
  unfolding above
  above_then zero l a b e = let same : a ≡ b = cc in let nought : 0 + l ≡ l = omega arith in rw (nought, same)
  above_then (suc k) l a b e =
      let t = then_came (up a) (above up k) b e in
      rw (suc-add, t.1) (above_then k l t.0 b t.2)

  -- A class on the way.
  pub above_before : (k l a c : ℕ) → above up (k + l) a ≡ value c → (b : ℕ) × (above up k a ≡ value b) × (above up l b ≡ value c)
  unfolding above
  above_before zero l a c e = (a, refl, let nought : 0 + l ≡ l = omega arith in rw nought at e)
  above_before (suc k) l a c e =
      let t = then_came (up a) (above up (k + l)) c (rw suc-add at e) in
      let r = above_before k l t.0 c t.2 in
      (r.0, above_step k a t.0 t.1 ∙ r.1, r.2)

  -- Nothing stands above where a chain halts.
  pub above_halt : (k l a top c : ℕ) → Halts a k top → above up (k + suc l) a ≡ value c → ⊥
  unfolding above
  above_halt k l a top c h e =
      let f = sym (above_then k (suc l) a top h.leads) ∙ e in
      let t = then_came (up top) (above up l) c f in
      h.halts t.0 t.1

  -- One class more.
  pub above_more : (k a b c : ℕ) → above up k a ≡ value b → up b ≡ value c → above up (suc k) a ≡ value c
  unfolding above
  above_more k a b c e f =
      let whole : k + 1 ≡ suc k = omega arith in
      let one : above up 1 b ≡ value c = rw f in
      rw whole at (above_then k 1 a b e ∙ one)

  -- A chain ends within n - 1 steps, is refused within them, or goes on for n.
  pub data Way (n a : ℕ) : Type 0 where
    ends : (k top : ℕ) → k < n → Ends up a k top → Way n a
    refusing : (k top : ℕ) (j : Question) → k < n → above up k a ≡ value top → up top ≡ refused j → Way n a
    goes : (b : ℕ) → above up n a ≡ value b → Way n a

  pub way : (n a : ℕ) → Way n a
  unfolding above
  way zero a = goes a refl
  way (suc n) a = go (up a) refl (λ b. way n b)
    where
      later : (b : ℕ) → up a ≡ value b → Way n b → Way (suc n) a
      later b e (ends k top h w) = ends (suc k) top (omega arith) (record { leads = above_step k a b e ∙ w.leads; why = w.why; stops = w.stops })
      later b e (refusing k top j h l r) = refusing (suc k) top j (omega arith) (above_step k a b e ∙ l) r
      later b e (goes top l) = goes top (above_step n a b e ∙ l)

      go : (o : Outcome ℕ) → up a ≡ o → ((b : ℕ) → Way n b) → Way (suc n) a
      go (value b) e more = later b e (more b)
      go (absent r) e more = ends 0 a (omega arith) (record { leads = refl; why = r; stops = e })
      go (refused j) e more = refusing 0 a j (omega arith) refl e

  last_below : (k c b : ℕ) → above up k c ≡ value b → last_at k c b ≡ b
  unfolding above
  last_below zero c b e = cc
  last_below (suc k) c b e = refl

  -- A chain that ends within the steps is told by its count and last address,
  pub climb_ends : (steps k a count last b : ℕ) {r : Reason} → above up k a ≡ value b → up b ≡ absent r → k < steps
      → climb up steps a count last ≡ value (ended (count + k) (last_at k last b))
  unfolding above climb
  climb_ends zero k a count last b e stops h = absurd (omega arith)
  climb_ends (suc steps) zero a count last b e stops h =
      let same : a ≡ b = cc in
      let nought : count + 0 ≡ count = omega arith in
      rw (same, stops, nought)
  climb_ends (suc steps) (suc k) a count last b e stops h =
      let t = then_came (up a) (above up k) b e in
      rw (t.1, add-suc, ← suc-add)
      (climb_ends steps k t.0 (suc count) t.0 b t.2 stops (omega arith)
      ∙ rw (last_below k t.0 b t.2))

  -- one that is refused by the number,
  pub climb_refused : (steps k a count last b : ℕ) (j : Question) → above up k a ≡ value b → up b ≡ refused j → k < steps
      → climb up steps a count last ≡ refused j
  unfolding above climb
  climb_refused zero k a count last b j e r h = absurd (omega arith)
  climb_refused (suc steps) zero a count last b j e r h = let same : a ≡ b = cc in rw (same, r)
  climb_refused (suc steps) (suc k) a count last b j e r h =
      let t = then_came (up a) (above up k) b e in
      rw t.1 (climb_refused steps k t.0 (suc count) t.0 b j t.2 r (omega arith))

  -- and one that goes on for all of them is told to loop.
  pub climb_loops : (steps a count last b : ℕ) → above up steps a ≡ value b → climb up steps a count last ≡ value looping
  unfolding above climb
  climb_loops zero a count last b e = refl
  climb_loops (suc steps) a count last b e =
      let t = then_came (up a) (above up steps) b e in
      rw t.1 (climb_loops steps t.0 (suc count) t.0 b t.2)
