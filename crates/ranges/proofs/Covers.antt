-- Laws of tests, and of the bytes that lie in ranges.
use Prim.Native.Nat.{ℕ, ◌+◌, ◌≤◌, ◌<◌}
use mathlib.Core.Path.{◌≡◌, refl, sym, ◌∙◌}
use mathlib.Core.Bool.{Bool, true, false, ◌&&◌, ◌||◌, true≢false}
use mathlib.Core.List.{List, [], ◌∷◌, ◌++◌}
use mathlib.Core.Logic.{◌⊎◌, inl, inr}
use native.Mathlib.Omega.{arith}
use lib.Dec.{leb, ltb, eqb}
use borrow.Author.Tests.{ltb-true, leb-true, le-leb, lt-leb, lt-ltb, le-ltb, eq-eqb, ne_eqb, eqb-true}
use Rattle.reads.proofs.Tests.{both_true}
use Rattle.ranges.specs.Range.{Range, lies, covers}

-- Two tests agree where each that holds gives the other.
pub tests_same : (p q : Bool) → (p ≡ true → q ≡ true) → (q ≡ true → p ≡ true) → p ≡ q
tests_same true q f g = sym (f refl)
tests_same false true f g = g refl
tests_same false false f g = refl

pub not_true : (p : Bool) → (p ≡ true → ⊥) → p ≡ false
not_true true f = absurd (f refl)
not_true false f = refl

-- A test that holds and does not.
pub clash : {A : Type 0} {s t : Bool} → s ≡ t → s ≡ true → t ≡ false → A
clash e f g = absurd (true≢false (sym f ∙ e ∙ g))

pub or_true : (p q : Bool) → (p || q) ≡ true → (p ≡ true) ⊎ (q ≡ true)
or_true true q e = inl refl
or_true false q e = inr e

pub or_right : (p q : Bool) → q ≡ true → (p || q) ≡ true
or_right true q e = refl
or_right false q e = e

pub or_assoc : (a b c : Bool) → (a || (b || c)) ≡ ((a || b) || c)
or_assoc true b c = refl
or_assoc false b c = refl

pub or_comm : (a b : Bool) → (a || b) ≡ (b || a)
or_comm true true = refl
or_comm true false = refl
or_comm false true = refl
or_comm false false = refl

pub or_false : (t : Bool) → (t || false) ≡ t
or_false true = refl
or_false false = refl

pub and_false : (t : Bool) → (t && false) ≡ false
and_false true = refl
and_false false = refl

pub lies_in : (r : Range) (f x : ℕ) → r.file ≡ f → r.offset ≤ x → x < r.offset + r.len → lies r f x ≡ true
unfolding lies
lies_in r f x e h k = rw (eq-eqb r.file f e, le-leb r.offset x h, lt-ltb x (r.offset + r.len) k)

pub lies_true : (r : Range) (f x : ℕ) → lies r f x ≡ true → (r.file ≡ f) × (r.offset ≤ x) × (x < r.offset + r.len)
unfolding lies
lies_true r f x e =
    let a = both_true (eqb r.file f) (leb r.offset x && ltb x (r.offset + r.len)) e in
    let b = both_true (leb r.offset x) (ltb x (r.offset + r.len)) a.1 in
    (eqb-true r.file f a.0, leb-true r.offset x b.0, ltb-true x (r.offset + r.len) b.1)

pub lies_elsewhere : (r : Range) (f x : ℕ) → (r.file ≡ f → ⊥) → lies r f x ≡ false
unfolding lies
lies_elsewhere r f x h = rw (ne_eqb r.file f h)

pub lies_before : (r : Range) (f x : ℕ) → x < r.offset → lies r f x ≡ false
unfolding lies
lies_before r f x h = rw (lt-leb r.offset x h) (and_false (eqb r.file f))

pub lies_after : (r : Range) (f x : ℕ) → r.offset + r.len ≤ x → lies r f x ≡ false
unfolding lies
lies_after r f x h = rw (le-ltb x (r.offset + r.len) h, le-leb r.offset x (omega arith)) (and_false (eqb r.file f))

-- Of ranges one after another each byte lies in the first or in the second.
pub covers_append : (rs ss : List Range) (f x : ℕ) → covers (rs ++ ss) f x ≡ (covers rs f x || covers ss f x)
unfolding covers
covers_append [] ss f x = refl
covers_append (r ∷ rs) ss f x = rw (covers_append rs ss f x) (or_assoc (lies r f x) (covers rs f x) (covers ss f x))

pub covers_one : (r : Range) (f x : ℕ) → covers (r ∷ []) f x ≡ lies r f x
unfolding covers
covers_one r f x = or_false (lies r f x)
