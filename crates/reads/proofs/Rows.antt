-- Where a byte lies in a range, and which row of the grammar it begins: at most one, since the rows' first ranges ascend.
use Rattle.std.proofs.Common.{◌≡◌, ℕ, zero, suc, ◌<◌, ◌≤◌, Bool, true, false, ◌&&◌, ltb, leb, List, [], ◌∷◌, get_or, sym, refl, ap, ◌∙◌, subst, ⊎_elim, arith, ltb-true, le-leb, leb-true}
use mathlib.Core.Bool.{and-false}
use mathlib.Core.List.Memᴰ
use mathlib.Core.List.{Memᴰ}
use borrow.Author.Tests.{lt-leb}
use Rattle.reads.proofs.Tests.{both_true}
use Rattle.reads.specs.Outcome.{choose}
use Rattle.reads.specs.Utf8.{Range, ◌to◌, inside, multi, begun}
use Rattle.reads.proofs.Options.{none_not_some}
use Rattle.std.specs.Prelude.{None, Some}

-- A byte and a range
module _ (lo hi b : ℕ) where
  pub inside_between : lo ≤ b → b ≤ hi → inside (lo to hi) b ≡ true
  inside_between h k = simp (le-leb lo b h, le-leb b hi k)

  pub inside_under : b < lo → inside (lo to hi) b ≡ false
  inside_under h = simp (lt-leb lo b h)

  pub inside_over : hi < b → inside (lo to hi) b ≡ false
  inside_over h = simp (lt-leb b hi h, and-false)

-- A byte and the rows
-- Each row's first range lies above n.
abbrev above_all : ℕ → List (List Range) → Bool
above_all n [] = true
above_all n ([] ∷ rows) = above_all n rows
above_all n (((lo to hi) ∷ w) ∷ rows) = ltb n lo && above_all n rows

abbrev pub ascending : List (List Range) → Bool
ascending [] = true
ascending ([] ∷ rows) = ascending rows
ascending (((lo to hi) ∷ w) ∷ rows) = above_all hi rows && ascending rows

all_above : (rows : List (List Range)) (n lo hi : ℕ) (w : List Range) → above_all n rows ≡ true → Memᴰ ((lo to hi) ∷ w) rows → n < lo
all_above [] n lo hi w a m = absurd (Memᴰ.not-nil m)
all_above ([] ∷ rows) n lo hi w a m =
    ⊎_elim (λ e. let z : ◌≡◌ {A = ℕ} 0 1 = cc in omega arith) (λ m'. all_above rows n lo hi w a m') (Memᴰ.cases_cons m)
all_above (((l to h) ∷ v) ∷ rows) n lo hi w a m =
    ⊎_elim
    (λ (e : ◌≡◌ {A = List Range} ((lo to hi) ∷ w) ((l to h) ∷ v)).
    let z : lo ≡ l = cc in
    omega (arith, ltb-true n l (both_true (ltb n l) (above_all n rows) a).0))
    (λ m'. all_above rows n lo hi w (both_true (ltb n l) (above_all n rows) a).1 m')
    (Memᴰ.cases_cons m)

-- The row that holds a byte in its first range is the one begun.
pub begun_unique : (rows : List (List Range)) (r : Range) (w : List Range) (b : ℕ) → ascending rows ≡ true → Memᴰ (r ∷ w) rows
    → inside r b ≡ true → begun rows b ≡ Some w
unfolding choose
begun_unique [] r w b a m t = absurd (Memᴰ.not-nil m)
begun_unique ([] ∷ rows) r w b a m t =
    ⊎_elim (λ (e : ◌≡◌ {A = List Range} (r ∷ w) []). cc) (λ m'. begun_unique rows r w b a m' t) (Memᴰ.cases_cons m)
begun_unique (((l to h) ∷ v) ∷ rows) (lo to hi) w b a m t =
    ⊎_elim
    (λ (e : ◌≡◌ {A = List Range} ((lo to hi) ∷ w) ((l to h) ∷ v)).
    let p : (lo to hi) ≡ (l to h) = cc in
    let q : w ≡ v = cc in
    let i : inside (l to h) b ≡ true = subst (λ (x : Range). inside x b ≡ true) p t in
    simp i (ap Some (sym q)))
    (λ m'.
    let n : h < lo = all_above rows h lo hi w (both_true (above_all h rows) (ascending rows) a).0 m' in
    let k : h < b = omega (arith, leb-true lo b (both_true (leb lo b) (leb b hi) t).0) in
    simp (inside_over l h b k) (begun_unique rows (lo to hi) w b (both_true (above_all h rows) (ascending rows) a).1 m' t))
    (Memᴰ.cases_cons m)

nth : (rows : List (List Range)) (k : ℕ) (r : Range) (w : List Range) → get_or rows k [] ≡ r ∷ w → Memᴰ (r ∷ w) rows
nth [] k r w e = let z : ◌≡◌ {A = ℕ} 0 1 = cc in absurd (omega arith)
nth (v ∷ rows) zero r w e = Memᴰ.head (sym e)
nth (v ∷ rows) (suc k) r w e = Memᴰ.tail (nth rows k r w e)

-- The k-th row of the characters of more than one byte, where a byte lies in its first range.
pub multi_row : (k lo hi b : ℕ) {w : List Range} → get_or multi k [] ≡ (lo to hi) ∷ w → lo ≤ b → b ≤ hi → begun multi b ≡ Some w
multi_row k lo hi b {w} e h l =
    begun_unique multi (lo to hi) w b refl (nth multi k (lo to hi) w e) (inside_between lo hi b h l)

-- Below and above the rows' first ranges.
pub multi_under : (b : ℕ) → b < 0xC2 → begun multi b ≡ None
unfolding choose
multi_under b h =
    simp (
      inside_under 0xC2 0xDF b (omega arith),
      inside_under 0xE0 0xE0 b (omega arith),
      inside_under 0xE1 0xEC b (omega arith),
      inside_under 0xED 0xED b (omega arith),
      inside_under 0xEE 0xEF b (omega arith),
      inside_under 0xF0 0xF0 b (omega arith),
      inside_under 0xF1 0xF3 b (omega arith),
      inside_under 0xF4 0xF4 b (omega arith),
    )

pub multi_over : (b : ℕ) → 0xF4 < b → begun multi b ≡ None
unfolding choose
multi_over b h =
    simp (
      inside_over 0xC2 0xDF b (omega arith),
      inside_over 0xE0 0xE0 b (omega arith),
      inside_over 0xE1 0xEC b (omega arith),
      inside_over 0xED 0xED b (omega arith),
      inside_over 0xEE 0xEF b (omega arith),
      inside_over 0xF0 0xF0 b (omega arith),
      inside_over 0xF1 0xF3 b (omega arith),
      inside_over 0xF4 0xF4 b (omega arith),
    )

-- The row that is begun
pub record Begun (rows : List (List Range)) (b : ℕ) (w : List Range) : Type 0 where
  pub first : Range
  pub row : Memᴰ (first ∷ w) rows
  pub in_first : inside first b ≡ true

pub begun_some : (rows : List (List Range)) (b : ℕ) (w : List Range) → begun rows b ≡ Some w → Begun rows b w
unfolding choose
begun_some [] b w q = absurd (none_not_some w q)
begun_some ([] ∷ rows) b w q =
    let m = begun_some rows b w q in
    record { first = m.first; row = Memᴰ.tail m.row; in_first = m.in_first }
begun_some ((r ∷ rs) ∷ rows) b w q = go (inside r b) refl q (λ q'. begun_some rows b w q')
  where
    go : (x : Bool) → inside r b ≡ x → choose x (Some rs) (begun rows b) ≡ Some w → (begun rows b ≡ Some w → Begun rows b w)
        → Begun ((r ∷ rs) ∷ rows) b w
    go true i q' f = let e : r ∷ w ≡ r ∷ rs = cc in record { first = r; row = Memᴰ.head e; in_first = i }
    go false i q' f =
        let m = f q' in
        record { first = m.first; row = Memᴰ.tail m.row; in_first = m.in_first }

-- What holds of every range of the rows holds of what is due after a byte
abbrev pub all : {A : Type 0} → (A → Bool) → List A → Bool
all p [] = true
all p (a ∷ l) = p a && all p l

all_member : {A : Type 0} (p : A → Bool) (l : List A) (a : A) → all p l ≡ true → Memᴰ a l → p a ≡ true
all_member p [] a h m = absurd (Memᴰ.not-nil m)
all_member p (x ∷ l) a h m =
    ⊎_elim
    (λ (e : a ≡ x). ap p e ∙ (both_true (p x) (all p l) h).0)
    (λ m'. all_member p l a (both_true (p x) (all p l) h).1 m')
    (Memᴰ.cases_cons m)

pub begun_all : (p : Range → Bool) (rows : List (List Range)) (b : ℕ) (w : List Range) → all (all p) rows ≡ true → begun rows b ≡ Some w
    → all p w ≡ true
begun_all p rows b w h q =
    let m = begun_some rows b w q in
    (both_true (p m.first) (all p w) (all_member (all p) rows (m.first ∷ w) h m.row)).1
