-- Ranges that ascend and do not touch are known by the bytes that they cover: no other list of such ranges covers these.
use Prim.Native.Nat.{ℕ, suc, ◌+◌, ◌≤◌, ◌<◌}
use mathlib.Core.Path.{◌≡◌, refl, sym, ap, ◌∙◌}
use mathlib.Core.Bool.{Bool, true, false}
use mathlib.Core.List.{List, [], ◌∷◌}
use mathlib.Core.Logic.{◌⊎◌, inl, inr}
use native.Mathlib.Omega.{arith}
use lib.Dec.{leb, ltb, eqb}
use borrow.Author.Tests.{ltb-true, ltb-false, leb-true, leb-false, eqb-true, eqb-false}
use Rattle.ranges.specs.Range.{Range, lies, covers}
use Rattle.ranges.specs.Runs.{Past, Apart}
use Rattle.ranges.proofs.Covers.{clash, lies_in, lies_elsewhere, lies_before, lies_after}

-- Byte x of file g stands before byte lo of file f.
abbrev Before : ℕ → ℕ → ℕ → ℕ → Type 0
Before g x f lo = (g < f) ⊎ ((g ≡ f) × (x < lo))

lies_sooner : (f lo g x : ℕ) (r : Range) → Past f lo r → Before g x f lo → lies r g x ≡ false
lies_sooner f lo g x r (inl p) (inl b) = lies_elsewhere r g x (λ e. omega arith)
lies_sooner f lo g x r (inl p) (inr b) = let s = b.0 in lies_elsewhere r g x (λ e. omega arith)
lies_sooner f lo g x r (inr p) (inl b) = let s = p.0 in lies_elsewhere r g x (λ e. omega arith)
lies_sooner f lo g x r (inr p) (inr b) = let s = p.1 in let t = b.1 in lies_before r g x (omega arith)

sooner_still : (f lo g x : ℕ) (r : Range) → Past f lo r → Before g x f lo → Before g x r.file (suc (r.offset + r.len))
sooner_still f lo g x r (inl p) (inl b) = inl (omega arith)
sooner_still f lo g x r (inl p) (inr b) = let s = b.0 in inl (omega arith)
sooner_still f lo g x r (inr p) (inl b) = let s = p.0 in inl (omega arith)
sooner_still f lo g x r (inr p) (inr b) =
    let s = p.1 in let t = b.1 in let d = p.0 in let e = b.0 in inr (omega arith, omega arith)

apart_before : (f lo g x : ℕ) (rs : List Range) → Apart f lo rs → Before g x f lo → covers rs g x ≡ false
unfolding covers
apart_before f lo g x [] h l = refl
apart_before f lo g x (r ∷ rs) h l =
    rw (lies_sooner f lo g x r h.0 l)
    (apart_before r.file (suc (r.offset + r.len)) g x rs h.2 (sooner_still f lo g x r h.0 l))

-- A byte of the first range; one before it; and the one after it.
first_in : (r : Range) (rs : List Range) (x : ℕ) → r.offset ≤ x → x < r.offset + r.len → covers (r ∷ rs) r.file x ≡ true
unfolding covers
first_in r rs x h l = rw (lies_in r r.file x refl h l) refl

first_out : (f lo : ℕ) (r : Range) (rs : List Range) (g x : ℕ) → Apart f lo (r ∷ rs) → Before g x r.file r.offset → covers (r ∷ rs) g x ≡ false
first_out f lo r rs g x h l =
    apart_before r.file r.offset g x (r ∷ rs) (inr (refl, same r.offset), h.1, h.2) l
  where
    same : (n : ℕ) → n ≤ n
    same n = omega arith

first_end : (f lo : ℕ) (r : Range) (rs : List Range) → Apart f lo (r ∷ rs) → covers (r ∷ rs) r.file (r.offset + r.len) ≡ false
unfolding covers
first_end f lo r rs h =
    rw (lies_after r r.file (r.offset + r.len) (omega arith))
    (apart_before r.file (suc (r.offset + r.len)) r.file (r.offset + r.len) rs h.2 (inr (refl, omega arith)))

-- Two such lists that cover the same: their first ranges begin at one byte and end at one byte.
abbrev Same : List Range → List Range → Type 0
Same rs ss = (g x : ℕ) → covers rs g x ≡ covers ss g x

no_sooner : (f lo f' lo' : ℕ) (r s : Range) (rs ss : List Range) → Apart f lo (r ∷ rs) → Apart f' lo' (s ∷ ss) → Same (r ∷ rs) (s ∷ ss)
    → Before r.file r.offset s.file s.offset → ⊥
no_sooner f lo f' lo' r s rs ss h g same l =
    let n = h.1 in
    clash (same r.file r.offset) (first_in r rs r.offset (omega arith) (omega arith)) (first_out f' lo' s ss r.file r.offset g l)

no_shorter : (f lo f' lo' : ℕ) (r s : Range) (rs ss : List Range) → Apart f lo (r ∷ rs) → Apart f' lo' (s ∷ ss) → Same (r ∷ rs) (s ∷ ss)
    → r.file ≡ s.file → r.offset ≡ s.offset → r.len < s.len → ⊥
no_shorter f lo f' lo' r s rs ss h g same d o l =
    clash (sym (same r.file (r.offset + r.len)))
    (ap (λ k. covers (s ∷ ss) k (r.offset + r.len)) d ∙ first_in s ss (r.offset + r.len) (omega arith) (omega arith))
    (first_end f lo r rs h)

equal_by : (a b : ℕ) → (a < b → ⊥) → (b < a → ⊥) → a ≡ b
equal_by a b f g = go (ltb a b) refl (ltb b a) refl
  where
    go : (t : Bool) → ltb a b ≡ t → (t' : Bool) → ltb b a ≡ t' → a ≡ b
    go true e t' d = absurd (f (ltb-true a b e))
    go false e true d = absurd (g (ltb-true b a d))
    go false e false d = let h = ltb-false a b e in let k = ltb-false b a d in omega arith

-- The first ranges are one.
first_same : (f lo f' lo' : ℕ) (r s : Range) (rs ss : List Range) → Apart f lo (r ∷ rs) → Apart f' lo' (s ∷ ss) → Same (r ∷ rs) (s ∷ ss) → r ≡ s
first_same f lo f' lo' r s rs ss h g same =
    let back : Same (s ∷ ss) (r ∷ rs) = λ k x. sym (same k x) in
    let d : r.file ≡ s.file = equal_by r.file s.file
    (λ l. no_sooner f lo f' lo' r s rs ss h g same (inl l)) (λ l. no_sooner f' lo' f lo s r ss rs g h back (inl l)) in
    let o : r.offset ≡ s.offset = equal_by r.offset s.offset
    (λ l. no_sooner f lo f' lo' r s rs ss h g same (inr (d, l))) (λ l. no_sooner f' lo' f lo s r ss rs g h back (inr (sym d, l))) in
    let l : r.len ≡ s.len = equal_by r.len s.len
    (no_shorter f lo f' lo' r s rs ss h g same d o) (no_shorter f' lo' f lo s r ss rs g h back (sym d) (sym o)) in
    rw (d, o, l)

-- Past the first range, and up to its end.
rest_same : (f lo f' lo' : ℕ) (r : Range) (rs ss : List Range) → Apart f lo (r ∷ rs) → Apart f' lo' (r ∷ ss) → Same (r ∷ rs) (r ∷ ss) → Same rs ss
unfolding covers
rest_same f lo f' lo' r rs ss h g same k x = go (eqb k r.file) refl (leb x (r.offset + r.len)) refl
  where
    go : (t : Bool) → eqb k r.file ≡ t → (t' : Bool) → leb x (r.offset + r.len) ≡ t' → covers rs k x ≡ covers ss k x
    go true d true e =
        let j = eqb-true k r.file d in
        let l = leb-true x (r.offset + r.len) e in
        apart_before r.file (suc (r.offset + r.len)) k x rs h.2 (inr (j, omega arith))
        ∙ sym (apart_before r.file (suc (r.offset + r.len)) k x ss g.2 (inr (j, omega arith)))
    go true d false e = let l = leb-false x (r.offset + r.len) e in rw (lies_after r k x (omega arith)) at (same k x)
    go false d t' e = let j = eqb-false k r.file d in rw (lies_elsewhere r k x (λ i. j (sym i))) at (same k x)

pub apart_unique : (f lo f' lo' : ℕ) (rs ss : List Range) → Apart f lo rs → Apart f' lo' ss → ((g x : ℕ) → covers rs g x ≡ covers ss g x) → rs ≡ ss
unfolding covers
apart_unique f lo f' lo' [] [] h g same = refl
apart_unique f lo f' lo' [] (s ∷ ss) h g same =
    let n = g.1 in clash (sym (same s.file s.offset)) (first_in s ss s.offset (omega arith) (omega arith)) refl
apart_unique f lo f' lo' (r ∷ rs) [] h g same =
    let n = h.1 in clash (same r.file r.offset) (first_in r rs r.offset (omega arith) (omega arith)) refl
apart_unique f lo f' lo' (r ∷ rs) (s ∷ ss) h g same =
    let e = first_same f lo f' lo' r s rs ss h g same in
    let g' : Apart f' lo' (r ∷ ss) = rw e g in
    let same' : (k x : ℕ) → covers (r ∷ rs) k x ≡ covers (r ∷ ss) k x = λ k x. rw (← e) at (same k x) in
    rw (← e)
    (ap (λ l. r ∷ l)
    (apart_unique r.file (suc (r.offset + r.len)) r.file (suc (r.offset + r.len)) rs ss h.2 g'.2 (rest_same f lo f' lo' r rs ss h g' same')))
