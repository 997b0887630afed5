-- One pass over bytes: what its steps say of the text, one law for each of their cases.
use Rattle.std.proofs.Common.{◌≡◌, ℕ, suc, ◌+◌, ◌<◌, ◌≤◌, min, Bool, true, false, eqb, ltb, leb, List, [], ◌∷◌, length, get_or, drop, sym, refl, ap, ◌∙◌, subst, arith, drop_of_length-le, drop-cons, ltb-true, le-ltb, lt-ltb, eq-eqb, ne_eqb, leb-true}
use native.Mathlib.Decide.{dec_le}
use lib.ListN.{get_or-eq_default}
use Rattle.reads.specs.Outcome.{choose}
use Rattle.reads.specs.Utf8.{Range, ◌to◌, inside, tail, multi, begun, due_after, go_on, judge, verdict}
use Rattle.reads.specs.Text.{text}
use Rattle.reads.specs.Pass.{byte_after, due, follow, follow_all, follow_row, character}
use Rattle.reads.specs.declared.text.ByteRead.{ByteRead}
use Rattle.reads.proofs.Tests.{both_true}
use Rattle.reads.proofs.Rows.{all, begun_all, inside_between, inside_over, multi_row, multi_under, multi_over}
use Rattle.std.specs.Prelude.{Option, None, Some, Result, Ok, Err}

module _ (b : ℕ) (s : List ℕ) where
  pub text_zero : b ≡ 0 → text (b ∷ s) ≡ []
  unfolding text choose
  text_zero z = simp (eq-eqb b 0 z)

  pub text_next : (b ≡ 0 → ⊥) → text (b ∷ s) ≡ b ∷ text s
  unfolding text choose
  text_next z = simp (ne_eqb b 0 z)

-- The count is raised by a byte, and at the end it stays.
module _ (s : List ℕ) (i : ℕ) where
  pub read_there : i < length s → (byte_after s i).read ≡ suc i
  unfolding choose
  read_there h = simp (lt-ltb i (length s) h)

  pub read_none : length s ≤ i → (byte_after s i).read ≡ i
  unfolding choose
  read_none h = simp (le-ltb i (length s) h)

  pub read_of_all : i ≤ length s → (byte_after s i).read ≡ min (suc i) (length s)
  read_of_all h = elim (dec_le (length s) i) [ yes k ↦ read_none k ∙ omega arith | no f ↦ read_there (omega arith) ∙ omega arith ]

-- What is judged: the text in front of s where a zero byte ends it, else all of s.
abbrev pub up_to : Bool → List ℕ → List ℕ
up_to true s = text s
up_to false s = s

-- A byte of what is judged.
abbrev pub Counts : Bool → ℕ → Type 0
Counts true b = b ≡ 0 → ⊥
Counts false b = Unit {0}

up_to_none : (z : Bool) → up_to z [] ≡ []
unfolding text
up_to_none true = refl
up_to_none false = refl

up_to_next : (z : Bool) (b : ℕ) (s : List ℕ) → Counts z b → up_to z (b ∷ s) ≡ b ∷ up_to z s
up_to_next true b s n = text_next b s n
up_to_next false b s n = refl

-- A pass over s that has read i bytes, w being due: what is left decides the verdict, and is as long less i.
pub record Left (z : Bool) (s : List ℕ) (w : List Range) (i : ℕ) : Type 0 where
  pub within : i ≤ length s
  pub long : i + length (up_to z (drop i s)) ≡ length (up_to z s)
  pub judged : judge i w (up_to z (drop i s)) ≡ verdict (up_to z s)

-- A pass over s whose first bad byte stands at k.
pub record FoundBad (z : Bool) (s : List ℕ) (k : ℕ) : Type 0 where
  pub within : k ≤ length s
  pub long : k + length (up_to z (drop k s)) ≡ length (up_to z s)
  pub judged : Err k ≡ verdict (up_to z s)

-- At offset i, by the byte that stands there.
module _ {z : Bool} {s : List ℕ} {w : List Range} {i : ℕ} (l : Left z s w i) where
  module _ (h : i < length s) (n : Counts z (get_or s i 0)) where
    next_judged : up_to z (drop i s) ≡ get_or s i 0 ∷ up_to z (drop (suc i) s)
    next_judged = ap (up_to z) (drop-cons s i 0 h) ∙ up_to_next z (get_or s i 0) (drop (suc i) s) n

    by_due : (o : Option (List Range)) → due_after w (get_or s i 0) ≡ o
        → go_on o (Err i) (λ v. judge (suc i) v (up_to z (drop (suc i) s))) ≡ verdict (up_to z s)
    unfolding judge
    by_due o e =
        ap (λ (q : Option (List Range)). go_on q (Err i) (λ v. judge (suc i) v (up_to z (drop (suc i) s)))) (sym e)
        ∙ ap (judge i w) (sym next_judged) ∙ l.judged

    pub left_on : (v : List Range) → due_after w (get_or s i 0) ≡ Some v → Left z s v (byte_after s i).read
    left_on v e =
        subst (Left z s v) (sym (read_there s i h))
        record { within = h; long = omega (arith, l.long, ap length next_judged); judged = by_due (Some v) e }

    pub left_bad : due_after w (get_or s i 0) ≡ None → FoundBad z s i
    left_bad e = record { within = l.within; long = l.long; judged = by_due None e }

-- A byte that is not the one due is bad, and so is a zero byte that ends the text, and the end.
judge_misfit_front : (z : Bool) (i : ℕ) (r : Range) (w : List Range) (b : ℕ) (s : List ℕ) → inside r b ≡ false → judge i (r ∷ w) (up_to z (b ∷ s)) ≡ Err i
unfolding judge text choose
judge_misfit_front false i r w b s e = simp e
judge_misfit_front true i r w b s e = go (eqb b 0)
  where
    go : (x : Bool) → judge i (r ∷ w) (choose x [] (b ∷ text s)) ≡ Err i
    go true = refl
    go false = simp e

judge_misfit : (z : Bool) (s : List ℕ) (i : ℕ) (r : Range) (w : List Range) → inside r (get_or s i 0) ≡ false → judge i (r ∷ w) (up_to z (drop i s)) ≡ Err i
unfolding judge
judge_misfit z s i r w e =
    elim (dec_le (length s) i) [
      | yes h ↦ ap (λ (l : List ℕ). judge i (r ∷ w) (up_to z l)) (drop_of_length-le s h) ∙ ap (judge i (r ∷ w)) (up_to_none z)
      | no f ↦ ap (λ (l : List ℕ). judge i (r ∷ w) (up_to z l)) (drop-cons s i 0 (omega arith)) ∙ judge_misfit_front z i r w (get_or s i 0) (drop (suc i) s) e
    ]

-- A range without the zero byte.
abbrev above_zero : Range → Bool
above_zero (lo to hi) = ltb 0 lo

above_zero_inside : (r : Range) (b : ℕ) → above_zero r ≡ true → inside r b ≡ true → b ≡ 0 → ⊥
above_zero_inside (lo to hi) b a i z = omega (arith, ltb-true 0 lo a, leb-true lo b (both_true (leb lo b) (leb b hi) i).0)

-- A byte that is not 0 stands before the end.
pub stands_inside : (s : List ℕ) (i : ℕ) → (get_or s i 0 ≡ 0 → ⊥) → i < length s
stands_inside s i n = elim (dec_le (length s) i) [ yes h ↦ absurd (n (get_or-eq_default s 0 h)) | no f ↦ omega arith ]

pub counts : (z : Bool) (b : ℕ) → (b ≡ 0 → ⊥) → Counts z b
counts true b n = n
counts false b n = tt

-- The character that began at i, of which n is the count so far and w are due: the pass goes on behind it.
pub record Stands (z : Bool) (s : List ℕ) (i : ℕ) (w : List Range) (n : ℕ) : Type 0 where
  pub ahead : i < n
  pub on : Left z s w n

-- b is its first bad byte.
pub record Falls (z : Bool) (s : List ℕ) (b : ByteRead) : Type 0 where
  pub is : b ≡ byte_after s b.at
  pub bad : FoundBad z s b.at

abbrev pub Reads : Bool → List ℕ → ℕ → List Range → Result ℕ ByteRead → Type 0
Reads z s i w (Ok n) = Stands z s i w n
Reads z s i w (Err b) = Falls z s b

module _ (z : Bool) (s : List ℕ) (i : ℕ) where
  reads_due : (r : Range) (w : List Range) (n : ℕ) → above_zero r ≡ true → i ≤ n → Left z s (r ∷ w) n → Reads z s i w (due s n r)
  unfolding choose
  reads_due r w n a f l = go (inside r (get_or s n 0)) refl
    where
      fits : inside r (get_or s n 0) ≡ true → Stands z s i w (byte_after s n).read
      fits e =
          let some = above_zero_inside r (get_or s n 0) a e in
          let h = stands_inside s n some in
          record { ahead = omega (arith, read_there s n h); on = left_on l h (counts z (get_or s n 0) some) w (simp e) }

      go : (x : Bool) → inside r (get_or s n 0) ≡ x
          → Reads z s i w (choose {A = Result ℕ ByteRead} x (Ok (byte_after s n).read) (Err (byte_after s n)))
      go true e = fits e
      go false e = record { is = refl; bad = record { within = l.within; long = l.long; judged = sym (judge_misfit z s n r w e) ∙ l.judged } }

  reads_all : (w : List Range) (p : Result ℕ ByteRead) → all above_zero w ≡ true → Reads z s i w p → Reads z s i [] (follow_all s p w)
  reads_all [] p a t = t
  reads_all (r ∷ w) (Ok n) a t =
      let above = both_true (above_zero r) (all above_zero w) a in
      reads_all w (due s n r) above.1 (reads_due r w n above.0 (omega (arith, t.ahead)) t.on)
  reads_all (r ∷ w) (Err b) a t = reads_all w (Err b) (both_true (above_zero r) (all above_zero w) a).1 t

-- The character whose first byte stands at i and is not ASCII.
module _ {z : Bool} {s : List ℕ} {i : ℕ} (l : Left z s [] i) (h : 0x80 ≤ get_or s i 0) where
  not_zero : get_or s i 0 ≡ 0 → ⊥
  not_zero e = omega arith

  first_there : Counts z (get_or s i 0)
  first_there = counts z (get_or s i 0) not_zero

  first_inside : i < length s
  first_inside = stands_inside s i not_zero

  after_first : due_after [] (get_or s i 0) ≡ begun multi (get_or s i 0)
  unfolding choose
  after_first = simp (inside_over 0x00 0x7F (get_or s i 0) (omega arith))

  pub reads_character : Reads z s i [] (character s (byte_after s i))
  unfolding character
  reads_character = go (begun multi (get_or s i 0)) refl
    where
      go : (o : Option (List Range)) → begun multi (get_or s i 0) ≡ o → Reads z s i [] (follow_row s (byte_after s i) o)
      go None q = record { is = refl; bad = left_bad l first_inside first_there (after_first ∙ q) }
      go (Some w) q =
          reads_all z s i w (Ok (byte_after s i).read) (begun_all above_zero multi (get_or s i 0) w refl q)
          record { ahead = omega (arith, read_there s i first_inside); on = left_on l first_inside first_there w (after_first ∙ q) }

-- At offset i, where the byte b was read
module _ {z : Bool} {s : List ℕ} {i : ℕ} (l : Left z s [] i) {b : ByteRead} (e : b ≡ byte_after s i) where
  byte_is : b.byte ≡ get_or s i 0
  byte_is = ap (λ (x : ByteRead). x.byte) e

  read_is : (byte_after s i).read ≡ b.read
  read_is = ap (λ (x : ByteRead). x.read) (sym e)

  pub byte_inside : 0 < b.byte → i < length s
  byte_inside h = stands_inside s i (λ z. omega (arith, byte_is))

  -- An ASCII byte is a character.
  pub left_ascii : i < length s → Counts z b.byte → b.byte < 0x80 → Left z s [] b.read
  unfolding choose
  left_ascii h n a =
      subst (Left z s []) read_is
      (left_on l h (subst (Counts z) byte_is n) []
      (simp (inside_between 0x00 0x7F (get_or s i 0) (omega arith) (omega (arith, byte_is)))))

  left_character : {p : Result ℕ ByteRead} → 0x80 ≤ b.byte → p ≡ character s b → Reads z s i [] p
  left_character {p} h q = subst (Reads z s i []) (sym (q ∙ ap (character s) e)) (reads_character l (omega (arith, byte_is)))

  pub good_character : {p : Result ℕ ByteRead} {n : ℕ} → 0x80 ≤ b.byte → p ≡ character s b → p ≡ Ok n → Stands z s i [] n
  good_character h q o = subst (Reads z s i []) o (left_character h q)

  pub bad_character : {p : Result ℕ ByteRead} {bad : ByteRead} → 0x80 ≤ b.byte → p ≡ character s b → p ≡ Err bad → Falls z s bad
  bad_character h q o = subst (Reads z s i []) o (left_character h q)

-- By the row that the first byte begins.
module _ (s : List ℕ) (first : ByteRead) where
  by_row : (o : Option (List Range)) → begun multi first.byte ≡ o → follow_row s first o ≡ character s first
  unfolding character
  by_row o e = ap (follow_row s first) (sym e)

  -- The k-th row of the grammar: what is due after the byte between lo and hi, of which q, t and u are the first, second and third.
  module _ (k lo hi : ℕ) (a : lo ≤ first.byte) (b : first.byte ≤ hi) where
    of_row : (w : List Range) → get_or multi k [] ≡ (lo to hi) ∷ w → follow_all s (Ok first.read) w ≡ character s first
    of_row w e = by_row (Some w) (multi_row k lo hi first.byte e a b)

    module _ {r : Range} {q : Result ℕ ByteRead} (d : q ≡ due s first.read r) where
      pub one_due : get_or multi k [] ≡ (lo to hi) ∷ r ∷ [] → q ≡ character s first
      one_due e = d ∙ of_row (r ∷ []) e

      module _ {t : Result ℕ ByteRead} (f : t ≡ follow s q tail) where
        pub two_due : get_or multi k [] ≡ (lo to hi) ∷ r ∷ tail ∷ [] → t ≡ character s first
        two_due e = f ∙ ap (λ (p : Result ℕ ByteRead). follow s p tail) d ∙ of_row (r ∷ tail ∷ []) e

        pub three_due : {u : Result ℕ ByteRead} → u ≡ follow s t tail → get_or multi k [] ≡ (lo to hi) ∷ r ∷ tail ∷ tail ∷ [] → u ≡ character s first
        three_due g e =
            let on = λ (p : Result ℕ ByteRead). follow s p tail in
            g ∙ ap on (f ∙ ap on d) ∙ of_row (r ∷ tail ∷ tail ∷ []) e

  pub character_under : first.byte < 0xC2 → Err first ≡ character s first
  character_under b = by_row None (multi_under first.byte b)

  pub character_over : 0xF4 < first.byte → Err first ≡ character s first
  character_over b = by_row None (multi_over first.byte b)
