-- The runs of a test cover the bytes that it has, and ascend.
use Prim.Native.Nat.{ℕ, zero, suc, ◌+◌, ◌-◌, ◌≤◌, ◌<◌}
use mathlib.Core.Path.{◌≡◌, refl, ◌∙◌}
use mathlib.Core.Bool.{Bool, true, false, ◌||◌}
use mathlib.Core.List.{List, [], ◌∷◌, ◌++◌, append_assoc}
use mathlib.Core.Logic.{◌⊎◌, inl, inr}
use native.Mathlib.Omega.{arith}
use lib.Dec.{ltb}
use borrow.Author.Tests.{ltb-true, ltb-false, lt-ltb, le-ltb}
use Rattle.reads.specs.Outcome.{choose}
use Rattle.ranges.specs.Range.{Range, range, covers}
use Rattle.ranges.specs.Runs.{run, ended, begun, runs, Past, Apart}
use Rattle.ranges.proofs.Covers.{lies_in, lies_elsewhere, lies_before, lies_after, covers_append, covers_one}

module _ (f : ℕ) where
  pub run_some : (s b : ℕ) → s < b → run f s b ≡ range f s (b - s) ∷ []
  unfolding run choose
  run_some s b h = rw (lt-ltb s b h)

  pub run_none : (s b : ℕ) → b ≤ s → run f s b ≡ []
  unfolding run choose
  run_none s b h = rw (le-ltb s b h)

  -- The run from s to b covers these bytes.
  run_in : (s b x : ℕ) → s ≤ x → x < b → covers (run f s b) f x ≡ true
  run_in s b x h k = rw (run_some s b (omega arith)) (covers_one (range f s (b - s)) f x ∙ lies_in (range f s (b - s)) f x refl h (omega arith))

  run_out : (s b x : ℕ) → (x < s) ⊎ (b ≤ x) → covers (run f s b) f x ≡ false
  run_out s b x h = go (ltb s b) refl h
    where
      go : (t : Bool) → ltb s b ≡ t → (x < s) ⊎ (b ≤ x) → covers (run f s b) f x ≡ false
      go true e (inl l) = rw (run_some s b (ltb-true s b e)) (covers_one (range f s (b - s)) f x ∙ lies_before (range f s (b - s)) f x l)
      go true e (inr l) =
          let d = ltb-true s b e in
          rw (run_some s b d) (covers_one (range f s (b - s)) f x ∙ lies_after (range f s (b - s)) f x (omega arith))
      go false e l = rw (run_none s b (ltb-false s b e)) (unfold covers in refl)

  -- And no byte of another file.
  run_elsewhere : (s b g x : ℕ) → (f ≡ g → ⊥) → covers (run f s b) g x ≡ false
  run_elsewhere s b g x n = go (ltb s b) refl
    where
      go : (t : Bool) → ltb s b ≡ t → covers (run f s b) g x ≡ false
      go true e = rw (run_some s b (ltb-true s b e)) (covers_one (range f s (b - s)) g x ∙ lies_elsewhere (range f s (b - s)) g x n)
      go false e = rw (run_none s b (ltb-false s b e)) (unfold covers in refl)

module _ (f : ℕ) (u : ℕ → Bool) where
  step : (k b s g x : ℕ) (t : Bool) → u b ≡ t
      → covers (runs f u (suc k) b s) g x ≡ (covers (ended t f s b) g x || covers (runs f u k (suc b) (begun t s b)) g x)
  unfolding runs
  step k b s g x t e = rw (e, covers_append)

  before_step : (k b s x : ℕ) (t : Bool) → u b ≡ t → x < s → s ≤ b
      → ((s' : ℕ) → x < s' → s' ≤ suc b → covers (runs f u k (suc b) s') f x ≡ false) → covers (runs f u (suc k) b s) f x ≡ false
  unfolding ended begun covers
  before_step k b s x true e l h ih = step k b s f x true e ∙ ih s l (omega arith)
  before_step k b s x false e l h ih = step k b s f x false e ∙ rw (run_out f s b x (inl l)) (ih (suc b) (omega arith) (omega arith))

  runs_before : (k b s x : ℕ) → x < s → s ≤ b → covers (runs f u k b s) f x ≡ false
  unfolding runs
  runs_before zero b s x l h = run_out f s b x (inl l)
  runs_before (suc k) b s x l h = before_step k b s x (u b) refl l h (λ s' m g. runs_before k (suc b) s' x m g)

  open_step : (k b s x : ℕ) (t : Bool) → u b ≡ t → s ≤ x → x < b → covers (runs f u k (suc b) s) f x ≡ true
      → covers (runs f u (suc k) b s) f x ≡ true
  unfolding ended begun covers
  open_step k b s x true e h l ih = step k b s f x true e ∙ ih
  open_step k b s x false e h l ih = step k b s f x false e ∙ rw (run_in f s b x h l) refl

  runs_open : (k b s x : ℕ) → s ≤ x → x < b → covers (runs f u k b s) f x ≡ true
  unfolding runs
  runs_open zero b s x h l = run_in f s b x h l
  runs_open (suc k) b s x h l = open_step k b s x (u b) refl h l (runs_open k (suc b) s x h (omega arith))

  after_step : (k b s x : ℕ) (t : Bool) → u b ≡ t → b + suc k ≤ x → s ≤ b
      → ((s' : ℕ) → s' ≤ suc b → covers (runs f u k (suc b) s') f x ≡ false) → covers (runs f u (suc k) b s) f x ≡ false
  unfolding ended begun covers
  after_step k b s x true e l h ih = step k b s f x true e ∙ ih s (omega arith)
  after_step k b s x false e l h ih = step k b s f x false e ∙ rw (run_out f s b x (inr (omega arith))) (ih (suc b) (omega arith))

  pub runs_after : (k b s x : ℕ) → b + k ≤ x → s ≤ b → covers (runs f u k b s) f x ≡ false
  unfolding runs
  runs_after zero b s x l h = run_out f s b x (inr (omega arith))
  runs_after (suc k) b s x l h = after_step k b s x (u b) refl l h (λ s' g. runs_after k (suc b) s' x (omega arith) g)

  elsewhere_step : (k b s g x : ℕ) (t : Bool) → u b ≡ t → (f ≡ g → ⊥)
      → ((s' : ℕ) → covers (runs f u k (suc b) s') g x ≡ false) → covers (runs f u (suc k) b s) g x ≡ false
  unfolding ended begun covers
  elsewhere_step k b s g x true e n ih = step k b s g x true e ∙ ih s
  elsewhere_step k b s g x false e n ih = step k b s g x false e ∙ rw (run_elsewhere f s b g x n) (ih (suc b))

  pub runs_elsewhere : (k b s g x : ℕ) → (f ≡ g → ⊥) → covers (runs f u k b s) g x ≡ false
  unfolding runs
  runs_elsewhere zero b s g x n = run_elsewhere f s b g x n
  runs_elsewhere (suc k) b s g x n = elsewhere_step k b s g x (u b) refl n (λ s'. runs_elsewhere k (suc b) s' g x n)

  -- At b itself: the run from s goes on over it, or the next begins after it.
  here_step : (k b s : ℕ) (t : Bool) → u b ≡ t → s ≤ b → covers (runs f u (suc k) b s) f b ≡ t
  unfolding ended begun covers
  here_step k b s true e h = step k b s f b true e ∙ runs_open k (suc b) s b h (omega arith)
  here_step k b s false e h = step k b s f b false e ∙ rw (run_out f s b b (inr (omega arith))) (runs_before k (suc b) (suc b) b (omega arith) (omega arith))

  inside_step : (k b s x : ℕ) (t : Bool) → u b ≡ t → b < x → s ≤ b
      → ((s' : ℕ) → s' ≤ suc b → covers (runs f u k (suc b) s') f x ≡ u x) → covers (runs f u (suc k) b s) f x ≡ u x
  unfolding ended begun covers
  inside_step k b s x true e l h ih = step k b s f x true e ∙ ih s (omega arith)
  inside_step k b s x false e l h ih = step k b s f x false e ∙ rw (run_out f s b x (inr (omega arith))) (ih (suc b) (omega arith))

  pub runs_inside : (k b s x : ℕ) → b ≤ x → x < b + k → s ≤ b → covers (runs f u k b s) f x ≡ u x
  runs_inside zero b s x l m h = absurd (omega arith)
  runs_inside (suc k) b s x l m h = by_case (ltb b x) refl (λ g s' j. runs_inside k (suc b) s' x g (omega arith) j)
    where
      by_case : (t : Bool) → ltb b x ≡ t → (suc b ≤ x → (s' : ℕ) → s' ≤ suc b → covers (runs f u k (suc b) s') f x ≡ u x)
          → covers (runs f u (suc k) b s) f x ≡ u x
      by_case true e ih = inside_step k b s x (u b) refl (ltb-true b x e) h (ih (let d = ltb-true b x e in omega arith))
      by_case false e ih =
          let d = ltb-false b x e in
          let same : b ≡ x = omega arith in
          rw (← same) (here_step k b s (u b) refl h)

-- They ascend, do not touch, and have a byte each: before whatever comes later.
apart_lower : (f lo hi : ℕ) (rs : List Range) → lo ≤ hi → Apart f hi rs → Apart f lo rs
apart_lower f lo hi [] g h = tt
apart_lower f lo hi (r ∷ rs) g h = (lower h.0, h.1, h.2)
  where
    lower : Past f hi r → Past f lo r
    lower (inl l) = inl l
    lower (inr l) = let o = l.1 in inr (l.0, omega arith)

run_apart : (f s b : ℕ) (rs : List Range) → s ≤ b → Apart f (suc b) rs → Apart f s (run f s b ++ rs)
run_apart f s b rs l h = go (ltb s b) refl
  where
    go : (t : Bool) → ltb s b ≡ t → Apart f s (run f s b ++ rs)
    go true e =
        let d = ltb-true s b e in
        let end : s + (b - s) ≡ b = omega arith in
        rw (run_some f s b d) (inr (refl, omega arith), omega arith, rw end h)
    go false e = rw (run_none f s b (ltb-false s b e)) (apart_lower f s (suc b) rs (omega arith) h)

module _ (f : ℕ) (u : ℕ → Bool) (rest : List Range) where
  apart_step : (k b s : ℕ) (t : Bool) → u b ≡ t → s ≤ b → ((s' : ℕ) → s' ≤ suc b → Apart f s' (runs f u k (suc b) s' ++ rest))
      → Apart f s (runs f u (suc k) b s ++ rest)
  unfolding runs ended begun
  apart_step k b s true e l ih = rw e (ih s (omega arith))
  apart_step k b s false e l ih =
      rw (e, append_assoc (run f s b) (runs f u k (suc b) (suc b)) rest)
      (run_apart f s b (runs f u k (suc b) (suc b) ++ rest) l (ih (suc b) (omega arith)))

  pub runs_apart : (k b s : ℕ) → s ≤ b → ((lo : ℕ) → Apart f lo rest) → Apart f s (runs f u k b s ++ rest)
  unfolding runs
  runs_apart zero b s l h = run_apart f s b rest l (h (suc b))
  runs_apart (suc k) b s l h = apart_step k b s (u b) refl l (λ s' g. runs_apart k (suc b) s' g h)

-- Ranges of later files.
pub apart_later : (f lo : ℕ) (rs : List Range) → Apart (suc f) 0 rs → Apart f lo rs
apart_later f lo [] h = tt
apart_later f lo (r ∷ rs) h = (later h.0, h.1, h.2)
  where
    later : Past (suc f) 0 r → Past f lo r
    later (inl l) = inl (omega arith)
    later (inr l) = let e = l.0 in inl (omega arith)
