-- next_break is the least of a list above a number, and fewer lie above what it gives.
use Rattle.std.proofs.Common.{◌≡◌, ℕ, suc, ◌+◌, ◌<◌, ◌≤◌, min, List, [], ◌∷◌, length, refl, ⊎_elim, arith, ltb-false, ltb-true}
use mathlib.Core.List.Memᴰ
use mathlib.Core.List.{Memᴰ}
use native.Mathlib.Omega.{min_cases}
use Rattle.reads.specs.Breaks.{lesser, lower, next_break, above}
use Rattle.reads.proofs.Tests.{by_choose}
use Rattle.std.specs.Prelude.{Option, Some, None}

record Least (bs : List ℕ) (va b : ℕ) : Type 0 where
  member : Memᴰ b bs
  over : va < b
  least : (x : ℕ) → Memᴰ x bs → va < x → b ≤ x

-- What an answer says of the list.
abbrev Says : List ℕ → ℕ → Option ℕ → Type 0
Says bs va None = (x : ℕ) → Memᴰ x bs → x ≤ va
Says bs va (Some b) = Least bs va b

module _ (b : ℕ) (bs : List ℕ) (va : ℕ) where
  says_without : b ≤ va → (o : Option ℕ) → Says bs va o → Says (b ∷ bs) va o
  says_without h None l = λ x m. ⊎_elim (λ e. omega arith) (λ m'. l x m') (Memᴰ.cases_cons m)
  says_without h (Some a) l =
      record {
        member = Memᴰ.tail l.member;
        over = l.over;
        least = λ x m u. ⊎_elim (λ e. omega arith) (λ m'. l.least x m' u) (Memᴰ.cases_cons m);
      }

  says_with : va < b → (o : Option ℕ) → Says bs va o → Says (b ∷ bs) va (lesser b o)
  says_with h None l =
      record {
        member = Memᴰ.head refl;
        over = h;
        least = λ x m u. ⊎_elim (λ e. omega arith) (λ m'. omega (arith, l x m')) (Memᴰ.cases_cons m);
      }
  says_with h (Some a) l =
      record {
        member = min_cases b a (Memᴰ (min b a) (b ∷ bs)) (λ u e. Memᴰ.head e) (λ u e. Memᴰ.tail (Memᴰ.cast e l.member));
        over = omega (arith, l.over);
        least = λ x m u. ⊎_elim (λ e. omega arith) (λ m'. omega (arith, l.least x m' u)) (Memᴰ.cases_cons m);
      }

next_break_says : (bs : List ℕ) (va : ℕ) → Says bs va (next_break bs va)
unfolding next_break lower
next_break_says [] va = λ x m. absurd (Memᴰ.not-nil m)
next_break_says (b ∷ bs) va = go (next_break bs va) (next_break_says bs va)
  where
    go : (o : Option ℕ) → Says bs va o → Says (b ∷ bs) va (lower va o b)
    go o l =
        by_choose (Says (b ∷ bs) va) (λ e. says_with b bs va (ltb-true va b e) o l) (λ e. says_without b bs va (ltb-false va b e) o l)

module _ (bs : List ℕ) (va b : ℕ) (e : next_break bs va ≡ Some b) where
  found : Least bs va b
  found = rw e at (next_break_says bs va)

  pub next_break_member : Memᴰ b bs
  next_break_member = found.member

  pub next_break_above : va < b
  next_break_above = found.over

  pub next_break_least : (x : ℕ) → Memᴰ x bs → va < x → b ≤ x
  next_break_least = found.least

pub next_break_none : (bs : List ℕ) (va : ℕ) → next_break bs va ≡ None → (x : ℕ) → Memᴰ x bs → x ≤ va
next_break_none bs va e = rw e at (next_break_says bs va)

-- Where none lies above va, there is no next one.
pub none_above : (bs : List ℕ) (va : ℕ) → ((x : ℕ) → Memᴰ x bs → x ≤ va) → next_break bs va ≡ None
none_above bs va f = go (next_break bs va) (next_break_says bs va)
  where
    go : (o : Option ℕ) → Says bs va o → o ≡ None
    go None l = refl
    go (Some b) l = absurd (omega (arith, f b l.member, l.over))

-- How many lie above, by the head of the list.
above_cases : (P : ℕ → Type 0) (b : ℕ) (bs : List ℕ) (va : ℕ) → (va < b → P (1 + above bs va)) → (b ≤ va → P (0 + above bs va)) → P (above (b ∷ bs) va)
unfolding above
above_cases P b bs va up down = by_choose (λ (j : ℕ). P (j + above bs va)) (λ e. up (ltb-true va b e)) (λ e. down (ltb-false va b e))

pub above_length : (bs : List ℕ) (va : ℕ) → above bs va ≤ length bs
unfolding above
above_length [] va = omega arith
above_length (b ∷ bs) va =
    let ih = above_length bs va in
    above_cases (λ k. k ≤ suc (length bs)) b bs va (λ h. omega arith) (λ h. omega arith)

above_of_higher : (bs : List ℕ) (va x : ℕ) → va ≤ x → above bs x ≤ above bs va
unfolding above
above_of_higher [] va x l = omega arith
above_of_higher (b ∷ bs) va x l =
    let ih = above_of_higher bs va x l in
    above_cases (λ k. above (b ∷ bs) x ≤ k) b bs va
    (λ h. above_cases (λ k. k ≤ 1 + above bs va) b bs x (λ g. omega arith) (λ g. omega arith))
    (λ h. above_cases (λ k. k ≤ 0 + above bs va) b bs x (λ g. omega arith) (λ g. omega arith))

-- Past one that lies above va, fewer lie above.
above_passed : (bs : List ℕ) (va b x : ℕ) → Memᴰ b bs → va < b → b ≤ x → above bs x < above bs va
above_passed [] va b x m h l = absurd (Memᴰ.not-nil m)
above_passed (a ∷ bs) va b x m h l =
    ⊎_elim (λ e. passed e (above_of_higher bs va x (omega arith))) (λ m'. kept (above_passed bs va b x m' h l)) (Memᴰ.cases_cons m)
  where
    passed : b ≡ a → above bs x ≤ above bs va → above (a ∷ bs) x < above (a ∷ bs) va
    passed e ih =
        above_cases (λ k. above (a ∷ bs) x < k) a bs va
        (λ u. above_cases (λ k. k < 1 + above bs va) a bs x (λ g. omega arith) (λ g. omega arith))
        (λ u. absurd (omega arith))

    kept : above bs x < above bs va → above (a ∷ bs) x < above (a ∷ bs) va
    kept ih =
        above_cases (λ k. above (a ∷ bs) x < k) a bs va
        (λ u. above_cases (λ k. k < 1 + above bs va) a bs x (λ g. omega arith) (λ g. omega arith))
        (λ u. above_cases (λ k. k < 0 + above bs va) a bs x (λ g. omega arith) (λ g. omega arith))

-- From the next breakpoint on, fewer lie above.
pub above_falls : (bs : List ℕ) (va b x : ℕ) → next_break bs va ≡ Some b → b ≤ x → above bs x < above bs va
above_falls bs va b x e l = above_passed bs va b x (next_break_member bs va b e) (next_break_above bs va b e) l
