-- As many steps up as there are classes are enough: a chain that has not ended by then loops, and no other chain does.
use Prim.Native.Nat.{ℕ, zero, suc, ◌+◌, ◌-◌, ◌≤◌, ◌<◌}
use mathlib.Core.Path.{◌≡◌, refl, sym, ap, ◌∙◌}
use mathlib.Core.List.Memᴰ
use mathlib.Core.List.{List, [], ◌∷◌, Memᴰ}
use mathlib.Core.Logic.{⊎_elim}
use native.Mathlib.Omega.{arith}
use native.Mathlib.Decide.{ℕ_discrete, dec_le}
use lib.ListN.{length}
use Rattle.reads.specs.Outcome.{Outcome, value, absent, refused}
use Rattle.reads.proofs.Outcomes.{then_came}
use Rattle.ancestry.specs.Chain.{above, Meets, Loops, Ends, ended, looping, last_at, climb}
use Rattle.ancestry.specs.declared.class_chain.Ancestry.{Ancestry}
use Rattle.ancestry.proofs.Chain.{Halts, ends_halts, refused_halts, above_step, above_then, above_before, above_halt, Way, ends, refusing, goes, way, climb_ends, climb_refused, climb_loops}
use Rattle.reads.specs.declared.answer.Question.{Question}

-- Some element of a list comes again.
data Twice : List ℕ → Type 0 where
  first : {x : ℕ} {l : List ℕ} → Memᴰ x l → Twice (x ∷ l)
  later : {x : ℕ} {l : List ℕ} → Twice l → Twice (x ∷ l)

-- A list without the first x.
without : ℕ → List ℕ → List ℕ
without x [] = []
without x (y ∷ l) = elim (ℕ_discrete x y) [ yes e ↦ l | no e ↦ y ∷ without x l ]

length_without : (x : ℕ) (l : List ℕ) → Memᴰ x l → suc (length (without x l)) ≡ length l
unfolding without
length_without x l (Memᴰ.head {x = y} {xs = m} e) = go (ℕ_discrete x y)
  where
    go : (d : Dec (x ≡ y)) → suc (length {A = ℕ} (elim d [ yes e ↦ m | no e ↦ y ∷ without x m ])) ≡ suc (length m)
    go (yes f) = refl
    go (no f) = absurd (f e)
length_without x l (Memᴰ.tail {x = y} {xs = m} h) = go (ℕ_discrete x y) (length_without x m h)
  where
    go : (d : Dec (x ≡ y)) → suc (length (without x m)) ≡ length m
        → suc (length {A = ℕ} (elim d [ yes e ↦ m | no e ↦ y ∷ without x m ])) ≡ suc (length m)
    go (yes f) e = refl
    go (no f) e = ap suc e

kept : (x z : ℕ) (l : List ℕ) → (z ≡ x → ⊥) → Memᴰ z l → Memᴰ z (without x l)
unfolding without
kept x z l other (Memᴰ.head {x = y} {xs = m} e) = go (ℕ_discrete x y)
  where
    go : (d : Dec (x ≡ y)) → Memᴰ z (elim d [ yes e ↦ m | no e ↦ y ∷ without x m ])
    go (yes f) = absurd (other (e ∙ sym f))
    go (no f) = Memᴰ.head e
kept x z l other (Memᴰ.tail {x = y} {xs = m} h) = go (ℕ_discrete x y) (kept x z m other h)
  where
    go : (d : Dec (x ≡ y)) → Memᴰ z (without x m) → Memᴰ z (elim d [ yes e ↦ m | no e ↦ y ∷ without x m ])
    go (yes f) r = h
    go (no f) r = Memᴰ.tail r

member : (x : ℕ) (l : List ℕ) → Dec (Memᴰ x l)
member x [] = no (λ h. Memᴰ.not-nil h)
member x (y ∷ l) = go (ℕ_discrete x y) (member x l)
  where
    go : Dec (x ≡ y) → Dec (Memᴰ x l) → Dec (Memᴰ x (y ∷ l))
    go (yes e) r = yes (Memᴰ.head e)
    go (no e) (yes h) = yes (Memᴰ.tail h)
    go (no e) (no h) = no (λ m. ⊎_elim e h (Memᴰ.cases_cons m))

equal_member : {x y : ℕ} {l : List ℕ} → x ≡ y → Memᴰ x l → Memᴰ y l
equal_member e h = rw e at h

-- More elements than there are to choose from: one comes again.
pigeon : (l known : List ℕ) → ((x : ℕ) → Memᴰ x l → Memᴰ x known) → length known < length l → Twice l
pigeon [] known all h = absurd (omega arith)
pigeon (x ∷ l) known all h = go (member x l) (λ k a b. pigeon l k a b)
  where
    go : Dec (Memᴰ x l)
        → ((k : List ℕ) → ((y : ℕ) → Memᴰ y l → Memᴰ y k) → length k < length l → Twice l) → Twice (x ∷ l)
    go (yes m) more = first m
    go (no m) more =
        later
        (more (without x known)
        (λ y p. kept x y known (λ e. m (equal_member e p)) (all y (Memᴰ.tail p)))
        (omega (arith, length_without x known (all x (Memᴰ.head refl)))))

-- The class of an outcome, and those above it, as far as k steps lead.
abbrev onto : Outcome ℕ → (ℕ → List ℕ) → List ℕ
onto (value b) f = f b
onto (absent r) f = []
onto (refused k) f = []

module _ (up : ℕ → Outcome ℕ) where
  path : ℕ → ℕ → List ℕ
  path zero a = a ∷ []
  path (suc k) a = a ∷ onto (up a) (path k)

  length_path : (k a b : ℕ) → above up k a ≡ value b → length (path k a) ≡ suc k
  unfolding path above
  length_path zero a b e = refl
  length_path (suc k) a b e =
      let t = then_came (up a) (above up k) b e in
      ap suc (rw t.1 (length_path k t.0 b t.2))

  on_path : (k a x : ℕ) → Memᴰ x (path k a) → (j : ℕ) × (above up j a ≡ value x)
  unfolding path above
  on_path zero a x h = ⊎_elim (λ e. (0, ap value (sym e))) (λ m. absurd (Memᴰ.not-nil m)) (Memᴰ.cases_cons h)
  on_path (suc k) a x h =
      ⊎_elim (λ e. (0, ap value (sym e))) (λ m. go (up a) refl m (λ b. on_path k b x)) (Memᴰ.cases_cons h)
    where
      go : (o : Outcome ℕ) → up a ≡ o → Memᴰ x (onto o (path k))
          → ((b : ℕ) → Memᴰ x (path k b) → (j : ℕ) × (above up j b ≡ value x)) → (j : ℕ) × (above up j a ≡ value x)
      go (absent r) e m more = absurd (Memᴰ.not-nil m)
      go (refused i) e m more = absurd (Memᴰ.not-nil m)
      go (value b) e m more = let r = more b m in (suc r.0, above_step up r.0 a b e ∙ r.1)

  -- A class that comes again on a path.
  twice_loops : (k a : ℕ) → Twice (path k a) → Loops up a
  unfolding path
  twice_loops zero a (first m) = absurd (Memᴰ.not-nil m)
  twice_loops zero a (later d) = elim d [ ]
  twice_loops (suc k) a d = go (up a) refl d (λ b. twice_loops k b)
    where
      go : (o : Outcome ℕ) → up a ≡ o → Twice (a ∷ onto o (path k)) → ((b : ℕ) → Twice (path k b) → Loops up b) → Loops up a
      go (absent r) e (first m) more = absurd (Memᴰ.not-nil m)
      go (absent r) e (later m) more = elim m [ ]
      go (refused i) e (first m) more = absurd (Memᴰ.not-nil m)
      go (refused i) e (later m) more = elim m [ ]
      go (value b) e (first m) more =
          let r = on_path k b a m in
          record {
            steps = 0;
            into = a;
            leads = unfold above in refl;
            meets = record { round = r.0; back = above_step up r.0 a b e ∙ r.1 };
          }
      go (value b) e (later m) more =
          let r = more b m in
          record { steps = suc r.steps; into = r.into; leads = above_step up r.steps a b e ∙ r.leads; meets = r.meets }

  -- A class that meets itself never halts.
  meets_goes : (fuel k b top : ℕ) → k < fuel → Meets up b → Halts up b k top → ⊥
  meets_goes zero k b top h m e = omega arith
  meets_goes (suc fuel) k b top h m e = go (dec_le k m.round) (λ l x. meets_goes fuel l b top x m)
    where
      go : Dec (k ≤ m.round) → ((l : ℕ) → l < fuel → Halts up b l top → ⊥) → ⊥
      go (yes less) more =
          let whole : k + suc (m.round - k) ≡ suc m.round = omega arith in
          above_halt up k (m.round - k) b top b e (rw whole m.back)
      go (no less) more =
          let whole : suc m.round + (k - suc m.round) ≡ k = omega arith in
          let rest = above_then up (suc m.round) (k - suc m.round) b b m.back in
          more (k - suc m.round) (omega arith)
          (record { leads = sym (rw whole at rest) ∙ e.leads; halts = e.halts })

  -- A class whose chain halts does not loop.
  pub halts_not_loops : (k a top : ℕ) → Halts up a k top → Loops up a → ⊥
  halts_not_loops k a top e l = go (dec_le l.steps k)
    where
      go : Dec (l.steps ≤ k) → ⊥
      go (yes less) =
          let whole : l.steps + (k - l.steps) ≡ k = omega arith in
          let rest = above_then up l.steps (k - l.steps) a l.into l.leads in
          meets_goes (suc (k - l.steps)) (k - l.steps) l.into top (omega arith) l.meets
          (record { leads = sym (rw whole at rest) ∙ e.leads; halts = e.halts })
      go (no less) =
          let whole : k + suc (l.steps - k - 1) ≡ l.steps = omega arith in
          above_halt up k (l.steps - k - 1) a top l.into e (rw whole l.leads)

  -- A class that was passed on the way and comes back.
  pub comes_back : (a k count passed : ℕ) → k < count → above up k a ≡ value passed → above up count a ≡ value passed → Loops up a
  comes_back a k count passed less e f =
      let whole : k + suc (count - k - 1) ≡ count = omega arith in
      let back = above_then up k (suc (count - k - 1)) a passed e in
      record { steps = k; into = passed; leads = e; meets = record { round = count - k - 1; back = sym back ∙ rw whole f } }

  -- A class that loops is told so, whatever the bound.
  pub loops_told : (n a : ℕ) → Loops up a → climb up n a 0 0 ≡ value looping
  loops_told n a l = go (way up n a)
    where
      go : Way up n a → climb up n a 0 0 ≡ value looping
      go (ends k top h w) = absurd (halts_not_loops k a top (ends_halts up w) l)
      go (refusing k top j h e r) = absurd (halts_not_loops k a top (refused_halts up e r) l)
      go (goes b e) = climb_loops up n a 0 0 b e

  -- Where every class on the way is one of `known`:
  module _ (known : List ℕ) (closed : (x y : ℕ) → up x ≡ value y → Memᴰ y known) where
    path_known : (k a : ℕ) → Memᴰ a known → (x : ℕ) → Memᴰ x (path k a) → Memᴰ x known
    unfolding path
    path_known zero a here x h =
        ⊎_elim (λ e. equal_member (sym e) here) (λ m. absurd (Memᴰ.not-nil m)) (Memᴰ.cases_cons h)
    path_known (suc k) a here x h =
        ⊎_elim (λ e. equal_member (sym e) here) (λ m. go (up a) refl m (λ b i. path_known k b i x)) (Memᴰ.cases_cons h)
      where
        go : (o : Outcome ℕ) → up a ≡ o → Memᴰ x (onto o (path k))
            → ((b : ℕ) → Memᴰ b known → Memᴰ x (path k b) → Memᴰ x known) → Memᴰ x known
        go (absent r) e m more = absurd (Memᴰ.not-nil m)
        go (refused i) e m more = absurd (Memᴰ.not-nil m)
        go (value b) e m more = more b (closed a b e) m

    -- a chain that goes on for as many steps as there are classes loops.
    pub enough : (a b : ℕ) → Memᴰ a known → above up (length known) a ≡ value b → Loops up a
    enough a b here e =
        twice_loops (length known) a
        (pigeon (path (length known) a) known (path_known (length known) a here)
        (omega (arith, length_path (length known) a b e)))

    -- One class alone loops, by the definition, only if it meets itself or leads into one that does,
    pub told_looping : (a : ℕ) → Memᴰ a known → climb up (length known) a 0 0 ≡ value looping → Loops up a
    told_looping a here e = go (way up (length known) a)
      where
        other : {x y : ℕ} → value (ended x y) ≡ value looping → Loops up a
        other {x} {y} f =
            let same : ended x y ≡ looping = cc in
            let z : ◌≡◌ {A = ℕ} 0 1 = cc in
            absurd (omega arith)

        not_number : {j : Question} → ◌≡◌ {A = Outcome Ancestry} (refused j) (value looping) → Loops up a
        not_number f = let z : ◌≡◌ {A = ℕ} 0 1 = cc in absurd (omega arith)

        go : Way up (length known) a → Loops up a
        go (ends k top h w) = other (sym (climb_ends up (length known) k a 0 0 top w.leads w.stops h) ∙ e)
        go (refusing k top j h l r) = not_number (sym (climb_refused up (length known) k a 0 0 top j l r h) ∙ e)
        go (goes b l) = enough a b here l

    near : (a k top : ℕ) → Memᴰ a known → Halts up a k top → k < length known
    near a k top here e = go (dec_le (length known) k)
      where
        go : Dec (length known ≤ k) → k < length known
        go (yes far) =
            let whole : length known + (k - length known) ≡ k = omega arith in
            let r = above_before up (length known) (k - length known) a top (rw whole e.leads) in
            absurd (halts_not_loops k a top e (enough a r.0 here r.1))
        go (no less) = omega arith

    -- otherwise it is told the count of the classes above it and the address of the last,
    pub ends_told : (a k top : ℕ) → Memᴰ a known → Ends up a k top
        → climb up (length known) a 0 0 ≡ value (ended k (last_at k 0 top))
    ends_told a k top here e =
        let nought : 0 + k ≡ k = omega arith in
        rw nought at (climb_ends up (length known) k a 0 0 top e.leads e.stops (near a k top here (ends_halts up e)))

    -- or the number of the lookup that was refused.
    pub refused_told : (a k top : ℕ) (j : Question) → Memᴰ a known → above up k a ≡ value top → up top ≡ refused j
        → climb up (length known) a 0 0 ≡ refused j
    refused_told a k top j here e r =
        climb_refused up (length known) k a 0 0 top j e r (near a k top here (refused_halts up e r))
