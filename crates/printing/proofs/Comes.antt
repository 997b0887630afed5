-- The text still to come, step by step: what waits, and then what comes after the next step; and where the printing stands k bytes on, from
-- where the rest of that text comes.
use Prim.Native.Nat.{ℕ, zero, suc, ◌+◌, ◌-◌, ◌*◌, ◌≤◌, ◌<◌}
use mathlib.Core.Path.{◌≡◌, refl, sym, ap, ◌∙◌}
use mathlib.Core.Bool.{Bool, true, false}
use mathlib.Core.List.{List, [], ◌++◌, append-nil}
use native.Mathlib.Nat.{le_of_lt, zero-mul, suc-mul, add_comm}
use native.Mathlib.Omega.{arith}
use lib.Dec.{leb}
use lib.ListN.{length, take, drop, drop_of_length-le}
use lib.Seq.{drop-append-le, drop-drop, drop-length, take-add}
use borrow.Author.Tests.{leb-true, leb-false}
use Rattle.reads.specs.Outcome.{Outcome, value, absent, refused, choose}
use Rattle.reads.proofs.Tests.{by_choose}
use Rattle.pointers.specs.Tables.{Tables, under}
use Rattle.pointers.specs.declared.setting.Setting.{Setting}
use Rattle.listing.specs.Listing.{Answer, says, lacks, nothing, ended}
use Rattle.listing.proofs.Remaining.{goes_on, InWords}
use Rattle.marking.specs.MarkedListing.{MarkedLeft}
use Rattle.marking.proofs.StepsLeft.{steps_left, marked_words_kept, marked_falls, marked_loan}
use Rattle.printing.specs.Pieces.{if_on, Standing, standing, stepped, moved, waiting, comes_by, past_by, enough, to_come, past, pieces}
use Rattle.printing.proofs.Puts.{drop_append}

-- What was said goes on or is over.
pub on_yes : {A : Type 0} (o : Outcome Answer) (x y : A) → goes_on o ≡ true → if_on o x y ≡ x
on_yes (value (says l)) x y e = refl
on_yes (value (lacks l)) x y e = refl
on_yes (value nothing) x y e = refl
on_yes (value ended) x y e = let z : ◌≡◌ {A = ℕ} 0 1 = cc in absurd (omega arith)
on_yes (absent r) x y e = let z : ◌≡◌ {A = ℕ} 0 1 = cc in absurd (omega arith)
on_yes (refused k) x y e = let z : ◌≡◌ {A = ℕ} 0 1 = cc in absurd (omega arith)

pub on_no : {A : Type 0} (o : Outcome Answer) (x y : A) → goes_on o ≡ false → if_on o x y ≡ y
on_no (value (says l)) x y e = let z : ◌≡◌ {A = ℕ} 0 1 = cc in absurd (omega arith)
on_no (value (lacks l)) x y e = let z : ◌≡◌ {A = ℕ} 0 1 = cc in absurd (omega arith)
on_no (value nothing) x y e = let z : ◌≡◌ {A = ℕ} 0 1 = cc in absurd (omega arith)
on_no (value ended) x y e = refl
on_no (absent r) x y e = refl
on_no (refused k) x y e = refl

-- Two ways on that agree where the listing goes on.
on_same : {A : Type 0} (o : Outcome Answer) {x y : A} (z : A) → (goes_on o ≡ true → x ≡ y) → if_on o x z ≡ if_on o y z
on_same o {x} {y} z f = go (goes_on o) refl
  where
    go : (b : Bool) → goes_on o ≡ b → if_on o x z ≡ if_on o y z
    go true e = rw (on_yes o x z e, on_yes o y z e) (f e)
    go false e = rw (on_no o x z e, on_no o y z e)

-- What is to come does not depend on the setting of what is lent.
module _ (u : Setting) (t : Tables) where
  stepped_under : (p : Standing) → stepped (under u t) p ≡ stepped t p
  stepped_under p = ap (λ (x : MarkedLeft). standing x.answer 0 x.state x.ledger) (marked_loan u t p.state p.ledger)

  comes_under : (n : ℕ) (p : Standing) → comes_by (under u t) n p ≡ comes_by t n p
  unfolding comes_by
  comes_under zero p = refl
  comes_under (suc n) p =
      ap (λ (q : Standing). waiting t p ++ if_on p.said (comes_by (under u t) n q) []) (stepped_under p)
      ∙ ap (λ (text : List ℕ). waiting t p ++ if_on p.said text []) (comes_under n (stepped t p))

  pub come_under : (p : Standing) → to_come (under u t) p ≡ to_come t p
  unfolding to_come
  come_under p = comes_under (enough p) p

-- Where the listing goes on, the numbers of its state fit their words.
pub record Sound (p : Standing) : Type 0 where
  pub words : goes_on p.said ≡ true → InWords p.state.state

-- What is left.
abbrev pub left_in : Standing → ℕ
left_in p = if_on p.said (suc (steps_left p.state)) 0

module _ (t : Tables) where
  pub sound_step : (p : Standing) → Sound p → goes_on p.said ≡ true → Sound (stepped t p)
  sound_step p h e = record { words = marked_words_kept t p.state p.ledger (h.words e) }

  pub step_less : (p : Standing) → Sound p → goes_on p.said ≡ true → left_in (stepped t p) < left_in p
  step_less p h e = rw (on_yes p.said (suc (steps_left p.state)) 0 e) (go (goes_on (stepped t p).said) refl)
    where
      go : (b : Bool) → goes_on (stepped t p).said ≡ b → left_in (stepped t p) < suc (steps_left p.state)
      go true f =
          rw (on_yes (stepped t p).said (suc (steps_left (stepped t p).state)) 0 f)
          (omega (arith, marked_falls t p.state p.ledger (h.words e) f))
      go false f = rw (on_no (stepped t p).said (suc (steps_left (stepped t p).state)) 0 f) (omega arith)

  -- More steps than are left change nothing.
  comes_same : (n m : ℕ) (p : Standing) → Sound p → left_in p < n → left_in p < m → comes_by t n p ≡ comes_by t m p
  unfolding comes_by
  comes_same zero m p h a b = absurd (omega arith)
  comes_same (suc n) zero p h a b = absurd (omega arith)
  comes_same (suc n) (suc m) p h a b =
      ap (λ (text : List ℕ). waiting t p ++ text)
      (on_same p.said _ (λ e.
      let less = step_less p h e in
      comes_same n m (stepped t p) (sound_step p h e) (omega arith) (omega arith)))

  past_same : (n m : ℕ) (p : Standing) (k : ℕ) → Sound p → left_in p < n → left_in p < m → past_by t n p k ≡ past_by t m p k
  unfolding past_by
  past_same zero m p k h a b = absurd (omega arith)
  past_same (suc n) zero p k h a b = absurd (omega arith)
  past_same (suc n) (suc m) p k h a b =
      ap (choose (leb k (length (waiting t p))) (moved p k))
      (on_same p.said _ (λ e.
      let less = step_less p h e in
      past_same n m (stepped t p) (k - length (waiting t p)) (sound_step p h e) (omega arith) (omega arith)))

  pub come_step : (p : Standing) → Sound p → to_come t p ≡ waiting t p ++ if_on p.said (to_come t (stepped t p)) []
  unfolding to_come comes_by
  come_step p h =
      ap (λ (text : List ℕ). waiting t p ++ text)
      (on_same p.said _ (λ e.
      comes_same (left_in p) (enough (stepped t p)) (stepped t p) (sound_step p h e) (step_less p h e) (omega arith)))

  pub past_step : (p : Standing) (k : ℕ) → Sound p
      → past t p k ≡ choose (leb k (length (waiting t p))) (moved p k)
      (if_on p.said (past t (stepped t p) (k - length (waiting t p))) (moved p (length (waiting t p))))
  unfolding past past_by
  past_step p k h =
      ap (choose (leb k (length (waiting t p))) (moved p k))
      (on_same p.said _ (λ e.
      past_same (left_in p) (enough (stepped t p)) (stepped t p) (k - length (waiting t p)) (sound_step p h e) (step_less p h e) (omega arith)))

  -- With k bytes more out, those are not to come any more.
  come_handed : (p : Standing) (k : ℕ) → Sound p → k ≤ length (waiting t p) → to_come t (moved p k) ≡ drop k (to_come t p)
  come_handed p k h l =
      rw (come_step p h, come_step (moved p k) (record { words = h.words }), drop-append-le k (waiting t p) (if_on p.said (to_come t (stepped t p)) []) l)
      (ap (λ (text : List ℕ). text ++ if_on p.said (to_come t (stepped t p)) []) (sym (drop-drop k p.out _)))

  come_past_by : (n : ℕ) (p : Standing) (k : ℕ) → Sound p → left_in p < n → to_come t (past_by t n p k) ≡ drop k (to_come t p)
  unfolding past_by
  come_past_by zero p k h a = absurd (omega arith)
  come_past_by (suc n) p k h a =
      by_choose (λ (q : Standing). to_come t q ≡ drop k (to_come t p))
      (λ e. come_handed p k h (leb-true k (length (waiting t p)) e))
      (λ e. go (λ f. come_past_by n (stepped t p) (k - length (waiting t p)) (sound_step p h f) (below (step_less p h f) a))
      (leb-false k (length (waiting t p)) e) (goes_on p.said) refl)
    where
      below : left_in (stepped t p) < left_in p → left_in p < suc n → left_in (stepped t p) < n
      below f g = omega arith

      go : (goes_on p.said ≡ true → to_come t (past_by t n (stepped t p) (k - length (waiting t p))) ≡ drop (k - length (waiting t p)) (to_come t (stepped t p)))
          → length (waiting t p) < k → (b : Bool) → goes_on p.said ≡ b
          → to_come t (if_on p.said (past_by t n (stepped t p) (k - length (waiting t p))) (moved p (length (waiting t p)))) ≡ drop k (to_come t p)
      go later l true e =
          rw (
            on_yes p.said (past_by t n (stepped t p) (k - length (waiting t p))) (moved p (length (waiting t p))) e,
            come_step p h,
            on_yes p.said (to_come t (stepped t p)) [] e,
            drop_append k (waiting t p) (to_come t (stepped t p)),
            drop_of_length-le (waiting t p) (le_of_lt l),
          )
          (later e)
      go later l false e =
          rw (
            on_no p.said (past_by t n (stepped t p) (k - length (waiting t p))) (moved p (length (waiting t p))) e,
            come_handed p (length (waiting t p)) h (omega arith),
            come_step p h,
            on_no p.said (to_come t (stepped t p)) [] e,
            append-nil (waiting t p),
            drop-length (waiting t p),
            drop_of_length-le (waiting t p) (le_of_lt l),
          )

  -- What comes from there is the rest.
  pub come_past : (p : Standing) (k : ℕ) → Sound p → to_come t (past t p k) ≡ drop k (to_come t p)
  unfolding past
  come_past p k h = come_past_by (enough p) p k h (omega arith)

  sound_past_by : (n : ℕ) (p : Standing) (k : ℕ) → Sound p → Sound (past_by t n p k)
  unfolding past_by
  sound_past_by zero p k h = h
  sound_past_by (suc n) p k h =
      by_choose Sound (λ e. record { words = h.words })
      (λ e. go (λ f. sound_past_by n (stepped t p) (k - length (waiting t p)) (sound_step p h f)) (goes_on p.said) refl)
    where
      go : (goes_on p.said ≡ true → Sound (past_by t n (stepped t p) (k - length (waiting t p)))) → (b : Bool) → goes_on p.said ≡ b
          → Sound (if_on p.said (past_by t n (stepped t p) (k - length (waiting t p))) (moved p (length (waiting t p))))
      go later true e = rw (on_yes p.said (past_by t n (stepped t p) (k - length (waiting t p))) (moved p (length (waiting t p))) e) (later e)
      go later false e =
          rw (on_no p.said (past_by t n (stepped t p) (k - length (waiting t p))) (moved p (length (waiting t p))) e) (record { words = h.words })

  -- The pieces together are the text, as far as they go.
  pub pieces_text : (n k : ℕ) (p : Standing) → Sound p → pieces t n k p ≡ take (k * n) (to_come t p)
  unfolding pieces past
  pieces_text n zero p h = rw zero-mul
  pieces_text n (suc k) p h =
      let more : suc k * n ≡ n + k * n = suc-mul k n ∙ add_comm (k * n) n in
      rw (more, take-add n (k * n) (to_come t p), ← come_past p n h)
      (ap (λ (text : List ℕ). take n (to_come t p) ++ text) (pieces_text n k (past t p n) (sound_past_by (enough p) p n h)))
