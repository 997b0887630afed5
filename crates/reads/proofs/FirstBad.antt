-- What `Err k` says of a text: k is the offset of the first byte that no text of the grammar continues with, or the length
-- of a text that ends inside a character.
use Rattle.std.proofs.Common.{◌≡◌, ℕ, suc, ◌+◌, ◌-◌, ◌<◌, ◌≤◌, Bool, true, false, leb, ◌↔◌, List, [], ◌∷◌, ◌++◌, length, take, drop, sym, refl, ap, ◌∙◌, subst, true≢false, append_assoc, arith, take-add, leb-true}
use native.Mathlib.Decide.{dec_le}
use Rattle.reads.proofs.Tests.{both_true}
use Rattle.reads.specs.Outcome.{choose}
use Rattle.reads.specs.Utf8.{Verdict, Range, ◌to◌, inside, chars, Octets, FirstBad, due_after, go_on, judge, verdict, is_good, utf8}
use Rattle.reads.proofs.Rows.{inside_between, all, begun_all}
use Rattle.reads.proofs.Grammar.{accepts, utf8_accepts, octets_accepts, utf8_octets}
use Rattle.reads.proofs.Options.{none_not_some, some_same}
use Rattle.std.specs.Prelude.{Option, None, Some, Ok, Err}

-- Each range holds a byte, so what is due can always come
abbrev filled : Range → Bool
filled (lo to hi) = leb lo hi

filled_after : (w : List Range) (b : ℕ) (w' : List Range) → all filled w ≡ true → due_after w b ≡ Some w' → all filled w' ≡ true
filled_after [] b w' a q = begun_all filled chars b w' refl q
filled_after (r ∷ rs) b w' a q = go (inside r b) q
  where
    go : (x : Bool) → choose x (Some rs) None ≡ Some w' → all filled w' ≡ true
    go true q' = ap (all filled) (sym (some_same rs w' (unfold choose in q'))) ∙ (both_true (filled r) (all filled rs) a).1
    go false q' = absurd (none_not_some w' (unfold choose in q'))

lows : List Range → List ℕ
lows [] = []
lows ((lo to hi) ∷ w) = lo ∷ lows w

accepts_lows : (w : List Range) → all filled w ≡ true → accepts w (lows w) ≡ true
unfolding accepts lows choose
accepts_lows [] a = refl
accepts_lows ((lo to hi) ∷ w) a =
    simp (inside_between lo hi lo (omega arith) (leb-true lo hi (both_true (leb lo hi) (all filled w) a).0))
    (accepts_lows w (both_true (leb lo hi) (all filled w) a).1)

-- Where w are due and `at` bytes came before
record BadAt (at : ℕ) (w : List Range) (s : List ℕ) (k : ℕ) : Type 0 where
  j : ℕ
  is : k ≡ at + j
  within : j ≤ length s
  goes : (t : List ℕ) × (accepts w (take j s ++ t) ≡ true)
  stops : j < length s → (t : List ℕ) → accepts w (take (suc j) s ++ t) ≡ false

bad_at : (s : List ℕ) (at : ℕ) (w : List Range) (k : ℕ) → all filled w ≡ true → judge at w s ≡ Err k → BadAt at w s k
unfolding judge accepts
bad_at [] at [] k a e = let z : ◌≡◌ {A = ℕ} 0 1 = cc in absurd (omega arith)
bad_at [] at (r ∷ w) k a e =
    let z : at ≡ k = cc in
    record {
      j = 0;
      is = omega arith;
      within = omega arith;
      goes = (lows (r ∷ w), accepts_lows (r ∷ w) a);
      stops = λ h. absurd (omega arith);
    }
bad_at (b ∷ s) at w k a e = go (due_after w b) refl e (λ w' a' e'. bad_at s (suc at) w' k a' e')
  where
    go : (o : Option (List Range)) → due_after w b ≡ o → go_on o (Err at) (λ w'. judge (suc at) w' s) ≡ Err k
        → ((w' : List Range) → all filled w' ≡ true → judge (suc at) w' s ≡ Err k → BadAt (suc at) w' s k) → BadAt at w (b ∷ s) k
    go None q e' f =
        let z : at ≡ k = cc in
        record {
          j = 0;
          is = omega arith;
          within = omega arith;
          goes = (lows w, accepts_lows w a);
          stops = λ h t. rw q;
        }
    go (Some w') q e' f =
        let m = f w' (filled_after w b w' a q) e' in
        record {
          j = suc m.j;
          is = omega (arith, m.is);
          within = omega (arith, m.within);
          goes = (m.goes.0, rw q m.goes.1);
          stops = λ h t. rw q (m.stops (omega arith) t);
        }

-- More bytes than those that no text begins with begin none either.
longer : (s t : List ℕ) (j k : ℕ) → k < j → ((u : List ℕ) → Octets (take (suc k) s ++ u) → ⊥) → Octets (take j s ++ t) → ⊥
longer s t j k h f o =
    let more : List ℕ = take (j - suc k) (drop (suc k) s) in
    let n : suc k + (j - suc k) ≡ j = omega arith in
    let e : take j s ≡ take (suc k) s ++ more = subst (λ (m : ℕ). take m s ≡ take (suc k) s ++ more) n (take-add (suc k) (j - suc k) s) in
    f (more ++ t) (subst Octets (ap (λ (l : List ℕ). l ++ t) e ∙ append_assoc (take (suc k) s) more t) o)

bad_is_first : (s : List ℕ) (k : ℕ) → verdict s ≡ Err k → FirstBad s k
unfolding utf8
bad_is_first s k e =
    let m = bad_at s 0 [] k refl e in
    let p : m.j ≡ k = omega (arith, m.is) in
    let t = m.goes.0 in
    record {
      not = λ o. true≢false (sym ((utf8_octets s).1 o) ∙ ap is_good e);
      within = omega (arith, m.within);
      beginning =
          record {
            rest = t;
            octets = subst (λ (n : ℕ). Octets (take n s ++ t)) p ((utf8_octets (take m.j s ++ t)).0 (utf8_accepts (take m.j s ++ t) ∙ m.goes.1));
          };
      longest = λ j h l b.
          longer s b.rest j k h
          (λ u o. true≢false (sym (octets_accepts o) ∙ subst (λ (n : ℕ). accepts [] (take (suc n) s ++ u) ≡ false) p (m.stops (omega arith) u)))
          b.octets;
    }

-- There is one such k.
first_is_one : (s : List ℕ) (j k : ℕ) → FirstBad s j → FirstBad s k → j ≡ k
first_is_one s j k a b =
    elim (dec_le (suc j) k) [
      | yes h ↦ absurd (a.longest k h b.within b.beginning)
      | no f ↦ elim (dec_le (suc k) j) [ yes h ↦ absurd (b.longest j h a.within a.beginning) | no g ↦ omega arith ]
    ]

-- `Err k` is said exactly where k is the first bad offset.
pub verdict_first_bad : (s : List ℕ) (k : ℕ) → (verdict s ≡ Err k) ↔ FirstBad s k
verdict_first_bad s k = (bad_is_first s k, λ b. go b (verdict s) refl)
  where
    go : FirstBad s k → (v : Verdict) → verdict s ≡ v → v ≡ Err k
    go b (Ok u) e = absurd (b.not ((utf8_octets s).0 (unfold utf8 in ap is_good e)))
    go b (Err j) e = ap Err (first_is_one s j k (bad_is_first s j e) b)
