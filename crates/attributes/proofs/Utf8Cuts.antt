-- UTF-8 text is UTF-8 on both sides of an ASCII byte, and the parts of a text are UTF-8.
use Prim.Native.Nat.{ℕ, zero, suc, ◌+◌, ◌%◌, ◌≤◌, ◌<◌}
use mathlib.Core.Path.{◌≡◌, refl, ap, sym, ◌∙◌}
use mathlib.Core.Bool.{Bool, true, false, ◌&&◌, false≢true}
use mathlib.Core.List.{List, [], ◌∷◌, ◌++◌}
use native.Mathlib.Omega.{arith}
use native.Mathlib.Numerals.{add-one}
use lib.Dec.{leb, ltb, eqb}
use lib.ListN.{length, get_or, take, drop, drop_of_length-le}
use lib.Seq.{split_at, take_all}
use borrow.Author.Tests.{leb-true, leb-false, ltb-true, ltb-false, lt-ltb, eqb-true}
use Rattle.reads.specs.Outcome.{choose}
use Rattle.reads.specs.Utf8.{Range, ◌to◌, inside, multi, begun, due_after}
use Rattle.reads.proofs.Tests.{both_true, choose_true}
use Rattle.reads.proofs.Rows.{inside_between, inside_over, multi_over, all, begun_all}
use Rattle.reads.proofs.Grammar.{onward, accepts}
use Rattle.attributes.specs.Attributes.{quotes, splits, first, value_length}
use Rattle.attributes.specs.RoundTrip.{Each}
use Rattle.attributes.proofs.ValueEnds.{first_hit, first_miss}
use Rattle.attributes.proofs.Parts.{parts_from}
use Rattle.reads.proofs.Options.{none_not_some, some_same}
use Rattle.std.specs.Prelude.{Option, None, Some}

-- Bytes above ASCII.
abbrev upper : Range → Bool
upper (lo to hi) = leb 0x80 lo && ltb hi 0x100

-- What is due inside a character lies above ASCII, and every byte is below 256.
due_first : (b : ℕ) (w : List Range) → due_after [] b ≡ Some w → (all upper w ≡ true) × (b < 0x100)
unfolding choose
due_first b w q = go (leb 0x80 b) refl
  where
    small : begun multi b ≡ Some w → (t : Bool) → leb b 0xF4 ≡ t → b < 0x100
    small m true e = omega (arith, leb-true b 0xF4 e)
    small m false e = absurd (none_not_some w (sym (multi_over b (leb-false b 0xF4 e)) ∙ m))

    go : (t : Bool) → leb 0x80 b ≡ t → (all upper w ≡ true) × (b < 0x100)
    go true e =
        let m : begun multi b ≡ Some w = unfold choose in simp (inside_over 0x00 0x7F b (omega (arith, leb-true 0x80 b e))) at q in
        (begun_all upper multi b w refl m, small m (leb b 0xF4) refl)
    go false e =
        let less = leb-false 0x80 b e in
        let m : Some [] ≡ Some w = unfold choose in simp (inside_between 0x00 0x7F b (omega arith) (omega arith)) at q in
        (ap (all upper) (sym (some_same [] w m)), omega arith)

due_next : (r : Range) (rs w : List Range) (b : ℕ) → all upper (r ∷ rs) ≡ true → due_after (r ∷ rs) b ≡ Some w
    → (all upper w ≡ true) × ((0x80 ≤ b) × (b < 0x100))
due_next (lo to hi) rs w b a q = go (inside (lo to hi) b) refl q
  where
    go : (t : Bool) → inside (lo to hi) b ≡ t → choose t (Some rs) None ≡ Some w → (all upper w ≡ true) × ((0x80 ≤ b) × (b < 0x100))
    go true i m =
        let r = both_true (upper (lo to hi)) (all upper rs) a in
        let ends = both_true (leb 0x80 lo) (ltb hi 0x100) r.0 in
        let b-in = both_true (leb lo b) (leb b hi) i in
        let low = leb-true 0x80 lo ends.0 in
        let high = ltb-true hi 0x100 ends.1 in
        let above = leb-true lo b b-in.0 in
        let below = leb-true b hi b-in.1 in
        (ap (all upper) (sym (some_same rs w (unfold choose in m))) ∙ r.1, (omega arith, omega arith))
    go false i m = absurd (none_not_some w (unfold choose in m))

due_upper : (w : List Range) (b : ℕ) (w' : List Range) → all upper w ≡ true → due_after w b ≡ Some w' → (all upper w' ≡ true) × (b < 0x100)
due_upper [] b w' a q = due_first b w' q
due_upper (r ∷ rs) b w' a q = let n = due_next r rs w' b a q in (n.0, n.1.1)

-- A text goes on past its first byte.
record Onward (w : List Range) (b : ℕ) (s : List ℕ) : Type 0 where
  due : List Range
  is : due_after w b ≡ Some due
  accepted : accepts due s ≡ true

goes_on : (w : List Range) (b : ℕ) (s : List ℕ) → accepts w (b ∷ s) ≡ true → Onward w b s
unfolding accepts
goes_on w b s e = go (due_after w b) refl e
  where
    go : (o : Option (List Range)) → due_after w b ≡ o → onward o (λ w'. accepts w' s) ≡ true → Onward w b s
    go None q f = absurd (false≢true f)
    go (Some w') q f = record { due = w'; is = q; accepted = f }

came_on : (w : List Range) (b : ℕ) (s : List ℕ) (w' : List Range) → due_after w b ≡ Some w' → accepts w' s ≡ true → accepts w (b ∷ s) ≡ true
unfolding accepts
came_on w b s w' q e = rw q e

pub accepts_ascii : (b : ℕ) (s : List ℕ) → b < 0x80 → accepts [] (b ∷ s) ≡ accepts [] s
unfolding accepts choose
accepts_ascii b s h = simp (inside_between 0x00 0x7F b (omega arith) (omega arith))

pub accepts_both : (w : List Range) (s t : List ℕ) → accepts w s ≡ true → accepts [] t ≡ true → accepts w (s ++ t) ≡ true
accepts_both [] [] t a b = b
accepts_both (r ∷ w) [] t a b = absurd (false≢true (unfold accepts in a))
accepts_both w (c ∷ s) t a b =
    let o = goes_on w c s a in
    came_on w c (s ++ t) o.due o.is (accepts_both o.due s t o.accepted b)

-- Both sides of an ASCII byte.
pub accepts_sides : (w : List Range) (s : List ℕ) (b : ℕ) (t : List ℕ) → all upper w ≡ true → b < 0x80 → accepts w (s ++ (b ∷ t)) ≡ true
    → (accepts w s ≡ true) × (accepts [] t ≡ true)
accepts_sides [] [] b t a h e = (unfold accepts in refl, sym (accepts_ascii b t h) ∙ e)
accepts_sides (r ∷ w) [] b t a h e =
    let o = goes_on (r ∷ w) b t e in
    absurd (omega (arith, (due_next r w o.due b a o.is).1.0))
accepts_sides w (c ∷ s) b t a h e =
    let o = goes_on w c (s ++ (b ∷ t)) e in
    let m = accepts_sides o.due s b t (due_upper w c o.due a o.is).0 h o.accepted in
    (came_on w c s o.due o.is m.0, m.1)

-- Every byte of a text is below 256.
pub accepts_bytes : (w : List Range) (s : List ℕ) (k : ℕ) → all upper w ≡ true → accepts w s ≡ true → get_or s k 0 < 0x100
accepts_bytes w [] k a e = omega arith
accepts_bytes w (b ∷ s) zero a e = let o = goes_on w b s e in (due_upper w b o.due a o.is).1
accepts_bytes w (b ∷ s) (suc k) a e =
    let o = goes_on w b s e in
    accepts_bytes o.due s k (due_upper w b o.due a o.is).0 o.accepted

-- A value that does not end with the text ends at a comma.
first_passes : (test : ℕ → Bool) (n i : ℕ) → first test n i < i + n → test (first test n i) ≡ true
first_passes test zero i h = absurd (unfold first in omega arith)
first_passes test (suc n) i h = go (test i) refl (first_passes test n (suc i))
  where
    go : (t : Bool) → test i ≡ t → (first test n (suc i) < suc i + n → test (first test n (suc i)) ≡ true) → test (first test (suc n) i) ≡ true
    go true e more = ap test (first_hit test n i e) ∙ e
    go false e more =
        let same = first_miss test n i e in
        ap test same ∙ more (omega arith)

splits_comma : (s : List ℕ) (p : ℕ) → splits s p ≡ true → get_or s p 0 ≡ 0x2C
unfolding splits
splits_comma s p e = eqb-true (get_or s p 0) 0x2C (both_true (eqb (get_or s p 0) 0x2C) (eqb (quotes (take p s) % 2) 0) e).0

comma_ends : (s : List ℕ) → value_length s < length s → get_or s (value_length s) 0 ≡ 0x2C
unfolding value_length
comma_ends s h = splits_comma s (value_length s) (first_passes (splits s) (length s) 0 (omega arith))

-- A text from a key on: what is in front of the comma is UTF-8, and so is what is behind it.
module _ (key : ℕ) (s : List ℕ) (e : accepts [] (key ∷ s) ≡ true) where
  cut : (accepts [] (key ∷ take (value_length s) s) ≡ true) × (accepts [] (drop (value_length s + 1) s) ≡ true)
  cut = go (ltb (value_length s) (length s)) refl
    where
      go : (t : Bool) → ltb (value_length s) (length s) ≡ t
          → (accepts [] (key ∷ take (value_length s) s) ≡ true) × (accepts [] (drop (value_length s + 1) s) ≡ true)
      go true f =
          let less = ltb-true (value_length s) (length s) f in
          let parted : s ≡ take (value_length s) s ++ (0x2C ∷ drop (value_length s + 1) s) =
          rw (← comma_ends s less, add-one) (split_at s (value_length s) 0 less) in
          let whole : key ∷ s ≡ (key ∷ take (value_length s) s) ++ (0x2C ∷ drop (value_length s + 1) s) = ap (λ (l : List ℕ). key ∷ l) parted in
          accepts_sides [] (key ∷ take (value_length s) s) 0x2C (drop (value_length s + 1) s) refl (omega arith)
          (ap (accepts []) (sym whole) ∙ e)
      go false f =
          let more = ltb-false (value_length s) (length s) f in
          let none : length s ≤ value_length s + 1 = omega arith in
          (rw (take_all (value_length s) s more) e, rw (drop_of_length-le s none) (unfold accepts in refl))

-- The values of a text behind ASCII keys are UTF-8.
pub parts_utf8 : (n : ℕ) (s : List ℕ) → accepts [] s ≡ true → Each (λ p. p.key < 0x80 → accepts [] p.value ≡ true) (parts_from n s)
unfolding parts_from
parts_utf8 zero s e = tt
parts_utf8 (suc n) [] e = tt
parts_utf8 (suc n) (key ∷ s) e =
    let c = cut key s e in (
      λ h. rw (choose_true (take (value_length s) s) [] (lt-ltb key 0x80 h)) (sym (accepts_ascii key (take (value_length s) s) h) ∙ c.0),
      parts_utf8 n (drop (value_length s + 1) s) c.1,
    )
