-- Both readings give a string alike exactly if a zero byte ends it, or if there is none under either (document 02, note 12).
use Rattle.std.specs.Prelude.{Ok, Err}
use Rattle.std.proofs.Common.{◌≡◌, ℕ, zero, suc, ◌+◌, ◌-◌, ◌<◌, ◌≤◌, min, Bool, true, false, eqb, leb, List, [], ◌∷◌, length, get_or, drop, sym, refl, ap, ◌∙◌, arith, length-drop, get_or-drop, ltb-true, lt-ltb, eqb-true, le-leb}
use native.Mathlib.Decide.{dec_le}
use borrow.Author.Tests.{eqb-false}
use Rattle.reads.specs.Outcome.{Outcome, value, absent, refused, and_then, choose, nonzero, text_of}
use Rattle.reads.specs.Files.{file_of}
use Rattle.reads.specs.Segment.{rows, lookup}
use Rattle.reads.specs.Place.{Image}
use Rattle.reads.specs.Text.{text, scan_of, if_good, good_text, ended, if_ended, text_from, text_at, text_in}
use Rattle.reads.specs.Utf8.{Verdict, verdict}
use Rattle.reads.specs.Endings.{ZeroFrom, StringEnds}
use Rattle.reads.specs.declared.place.Place.{Place}
use Rattle.reads.specs.declared.answer.Reason.TheVariants.{NullAddress, PastEnd, Unterminated}
use Rattle.reads.specs.declared.text.Reading.TheVariants.{Old, New}
use Rattle.reads.proofs.Outcomes.{nonzero_else}
use Rattle.reads.proofs.Passes.{text_zero}
use Rattle.reads.proofs.Texts.{text_beyond}

-- The text in front of s is shorter than s exactly if a byte of s is 0.
zero_shortens : (s : List ℕ) (i : ℕ) → i < length s → get_or s i 0 ≡ 0 → length (text s) < length s
unfolding text
zero_shortens [] i h z = absurd (omega arith)
zero_shortens (b ∷ s) zero h z = rw (text_zero b s z) (omega arith)
zero_shortens (b ∷ s) (suc i) h z = go (eqb b 0) (zero_shortens s i (omega arith) z)
  where
    go : (x : Bool) → length (text s) < length s → length (choose x [] (b ∷ text s)) < suc (length s)
    go true l = unfold choose in omega arith
    go false l = unfold choose in omega arith

shorter_zero : (s : List ℕ) → length (text s) < length s → get_or s (length (text s)) 0 ≡ 0
unfolding text
shorter_zero [] h = refl
shorter_zero (b ∷ s) h = go (eqb b 0) refl (shorter_zero s) h
  where
    go : (x : Bool) → eqb b 0 ≡ x → (length (text s) < length s → get_or s (length (text s)) 0 ≡ 0)
        → length (choose x [] (b ∷ text s)) < suc (length s) → get_or (b ∷ s) (length (choose x [] (b ∷ text s))) 0 ≡ 0
    go true e f l = unfold choose in eqb-true b 0 e
    go false e f l = unfold choose in f (unfold choose in omega arith)

-- So a scan finds the text ended exactly then.
pub zero_ends : (s : List ℕ) (i : ℕ) → i < length s → get_or s i 0 ≡ 0 → ended (scan_of s) ≡ true
zero_ends s i h z = let l = zero_shortens s i h z in lt-ltb (length (text s)) (min (suc (length (text s))) (length s)) (omega arith)

pub ended_zero : (s : List ℕ) → ended (scan_of s) ≡ true → (i : ℕ) × (i < length s) × (get_or s i 0 ≡ 0)
ended_zero s e =
    let l = ltb-true (length (text s)) (min (suc (length (text s))) (length s)) e in
    (length (text s), omega arith, shorter_zero s (omega arith))

-- The text at a place is the same under both readings exactly if a byte of its file from there on is 0.
module _ (bytes : List ℕ) (p : Place) where
  pub text_same : ZeroFrom bytes p.offset → text_from Old bytes p ≡ text_from New bytes p
  unfolding text_from
  text_same x =
      let i = x.0 in
      let low = x.1 in
      let high = x.2 in
      let there : p.offset + (i - p.offset) ≡ i = omega arith in
      let at : get_or (drop p.offset bytes) (i - p.offset) 0 ≡ 0 = get_or-drop p.offset bytes (i - p.offset) 0 ∙ ap (λ (k : ℕ). get_or bytes k 0) there ∙ x.3 in
      let e = zero_ends (drop p.offset bytes) (i - p.offset) (omega (arith, length-drop p.offset bytes)) at in
      ap (λ (b : Bool). choose (leb p.offset (length bytes)) (if_ended New b (good_text p (scan_of (drop p.offset bytes)))) (absent PastEnd)) (sym e)

  -- The old reading never says that a text has no end.
  never_endless : (v : Verdict) (n : ℕ) → and_then (if_good v n) (λ k. value (text_of p.file p.offset k)) ≡ absent Unterminated → ⊥
  never_endless (Ok u) n e = let z : ◌≡◌ {A = ℕ} 0 1 = cc in omega arith
  never_endless (Err k) n e = let z : ◌≡◌ {A = ℕ} 0 1 = cc in omega arith

  pub same_zero : p.offset ≤ length bytes → text_from Old bytes p ≡ text_from New bytes p → ZeroFrom bytes p.offset
  unfolding text_from choose
  same_zero h e = go (ended (scan_of (drop p.offset bytes))) refl (rw (le-leb p.offset (length bytes) h) at e)
    where
      go : (b : Bool) → ended (scan_of (drop p.offset bytes)) ≡ b → good_text p (scan_of (drop p.offset bytes)) ≡ if_ended New (ended (scan_of (drop p.offset bytes))) (good_text p (scan_of (drop p.offset bytes))) → ZeroFrom bytes p.offset
      go true q g =
          let z = ended_zero (drop p.offset bytes) q in
          let below = z.1 in
          (p.offset + z.0, omega arith, omega (arith, length-drop p.offset bytes), sym (get_or-drop p.offset bytes z.0 0) ∙ z.2)
      go false q g = absurd (never_endless (verdict (text (drop p.offset bytes))) (length (text (drop p.offset bytes))) (g ∙ rw q))

-- And so is the string at an address, exactly if it ends.
module _ (m : Image) (va : ℕ) where
  pub string_same : StringEnds m va → text_in Old m va ≡ text_in New m va
  unfolding text_in nonzero choose
  string_same h = go (eqb va 0) refl (lookup (rows m.words) va) refl
    where
      there : (p : Place) → (va ≡ 0 → ⊥) → lookup (rows m.words) va ≡ value p → text_at Old m.files p ≡ text_at New m.files p
      there p n q =
          let bytes = file_of m.files p.file in
          elim (dec_le p.offset (length bytes)) [
            | yes l ↦ text_same bytes p (h p n q l)
            | no f ↦ sym (text_beyond Old bytes p (omega arith)) ∙ text_beyond New bytes p (omega arith)
          ]

      go : (b : Bool) → eqb va 0 ≡ b → (o : Outcome Place) → lookup (rows m.words) va ≡ o
          → and_then (choose b (absent NullAddress) (value va)) (λ a. and_then (lookup (rows m.words) a) (λ p. text_at Old m.files p))
          ≡ and_then (choose b (absent NullAddress) (value va)) (λ a. and_then (lookup (rows m.words) a) (λ p. text_at New m.files p))
      go true e o q = unfold choose in refl
      go false e (value p) q = unfold choose in rw q (there p (eqb-false va 0 e) q)
      go false e (absent r) q = unfold choose in rw q
      go false e (refused k) q = unfold choose in rw q

  pub same_ends : text_in Old m va ≡ text_in New m va → StringEnds m va
  unfolding text_in
  same_ends e p n q l = same_zero (file_of m.files p.file) p l (rw (nonzero_else va n, q) at e)
