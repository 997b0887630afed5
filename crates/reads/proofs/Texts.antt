-- The text in front of a list: where a pass over it ends, and what the answers come to.
use Rattle.std.specs.Prelude.{Ok, Err}
use Rattle.std.proofs.Common.{◌≡◌, ℕ, suc, ◌+◌, ◌-◌, ◌<◌, ◌≤◌, min, Bool, true, false, eqb, leb, List, [], ◌∷◌, length, get_or, take, drop, sym, refl, ap, ◌∙◌, subst, arith, length-drop, drop_of_length-le, drop-cons, leb-true, le-leb}
use native.Mathlib.Decide.{dec_le}
use lib.Seq.{take_all}
use borrow.Author.Tests.{lt-leb}
use Rattle.reads.specs.Outcome.{Outcome, value, absent, refused, and_then, choose, nonzero, text_of}
use Rattle.reads.specs.Files.{file_of}
use Rattle.reads.specs.Segment.{rows, lookup}
use Rattle.reads.specs.Place.{Image}
use Rattle.reads.specs.declared.place.Place.{Place}
use Rattle.reads.specs.Utf8.{Verdict, judge, verdict}
use Rattle.reads.specs.Text.{text, scanned, scan_of, if_good, good_text, ended, if_ended, text_of_scan, text_from, read_from, text_at, text_in, length_plus_one}
use Rattle.reads.specs.Pass.{byte_after, broken_at, PassedOn, to_end, to_bad}
use Rattle.reads.specs.declared.text.ByteRead.{ByteRead}
use Rattle.reads.specs.declared.text.Reading.{Reading}
use Rattle.reads.specs.declared.text.Scan.{Scan}
use Rattle.reads.specs.declared.text.Reading.TheVariants.{Old, New}
use Rattle.reads.specs.declared.text.Text.{Text}
use Rattle.reads.specs.declared.answer.Reason.TheVariants.{PastEnd}
use Rattle.reads.proofs.Passes.{text_zero, text_next, stands_inside, read_there, read_of_all, Left, FoundBad}

-- The end of a pass over s
-- The text ends at i: a zero byte stands there, or nothing.
pub ends_there : (s : List ℕ) (i : ℕ) → get_or s i 0 ≡ 0 → text (drop i s) ≡ []
unfolding text
ends_there s i z =
    elim (dec_le (length s) i) [
      | yes h ↦ ap text (drop_of_length-le s h)
      | no f ↦ ap text (drop-cons s i 0 (omega arith)) ∙ text_zero (get_or s i 0) (drop (suc i) s) z
    ]

-- A pass that met the first bad byte at k, and has come to the byte b: what is left of the text there is as long less what came before.
pub record Ahead (s : List ℕ) (k : ℕ) (b : ByteRead) : Type 0 where
  pub is : b ≡ byte_after s b.at
  pub within : b.at ≤ length s
  pub long : b.at + length (text (drop b.at s)) ≡ k + length (text (drop k s))

module _ {s : List ℕ} {k : ℕ} {b : ByteRead} (l : Ahead s k b) where
  -- Where it is no zero byte, the text goes on behind it.
  module _ (h : 0 < b.byte) where
    not_zero_there : get_or s b.at 0 ≡ 0 → ⊥
    not_zero_there z = omega (arith, ap (λ (x : ByteRead). x.byte) l.is)

    pub read_next : b.read ≡ suc b.at
    read_next = ap (λ (x : ByteRead). x.read) l.is ∙ read_there s b.at (stands_inside s b.at not_zero_there)

    pub ahead_on : {c : ByteRead} → c ≡ byte_after s b.read → Ahead s k c
    ahead_on e =
        let h = stands_inside s b.at not_zero_there in
        let goes : text (drop b.at s) ≡ get_or s b.at 0 ∷ text (drop (suc b.at) s) =
        ap text (drop-cons s b.at 0 h) ∙ text_next (get_or s b.at 0) (drop (suc b.at) s) not_zero_there in
        subst (Ahead s k) (sym (e ∙ ap (byte_after s) read_next))
        record { is = refl; within = h; long = omega (arith, l.long, ap length goes) }

  -- Where it is one, or nothing is left, the text ends before it.
  pub ahead_ends : b.byte ≡ 0 → record { len = b.at; read = b.read; verdict = Err k } ≡ broken_at s k
  ahead_ends z =
      let e = ends_there s b.at (sym (ap (λ (x : ByteRead). x.byte) l.is) ∙ z) in
      let n : b.at ≡ k + length (text (drop k s)) = omega (arith, l.long, ap length e) in
      let r : b.read ≡ min (suc b.at) (length s) = ap (λ (x : ByteRead). x.read) l.is ∙ read_of_all s b.at l.within in
      ap (λ (x : ℕ). record { len = b.at; read = x; verdict = Err k }) r ∙ ap (λ (x : ℕ). scanned s x (Err k)) n

-- A pass that came to the end of the text, and one that did not find it UTF-8.
pub scan_good : {s : List ℕ} {i : ℕ} {b : ByteRead} → Left true s [] i → b ≡ byte_after s i → b.byte ≡ 0
    → record { len = b.at; read = b.read; verdict = Ok tt } ≡ scan_of s
unfolding judge
scan_good {s} {i} {b} l q z =
    let e = ends_there s i (sym (ap (λ (x : ByteRead). x.byte) q) ∙ z) in
    let n : i ≡ length (text s) = omega (arith, l.long, ap length e) in
    let v : Ok tt ≡ verdict (text s) = ap (judge i []) (sym e) ∙ l.judged in
    ap (λ (x : ByteRead). record { len = x.at; read = x.read; verdict = Ok tt }) q ∙ rw (read_of_all s i l.within, n, v)

pub scan_broken : {s : List ℕ} {k : ℕ} → FoundBad true s k → broken_at s k ≡ scan_of s
scan_broken {s} {k} b = rw (b.long, b.judged)

-- The bytes from an offset on, as the code cuts them.
part_from : (bytes : List ℕ) (offset : ℕ) → take (length bytes - offset) (drop offset bytes) ≡ drop offset bytes
part_from bytes offset = take_all (length bytes - offset) (drop offset bytes) (omega (arith, length-drop offset bytes))

pub read_found : (bytes : List ℕ) (offset : ℕ) → (scan_of (take (length bytes - offset) (drop offset bytes))).read ≡ read_from bytes offset
unfolding read_from
read_found bytes offset = ap (λ (s : List ℕ). (scan_of s).read) (part_from bytes offset)

-- The text there, and past its file's end none.
module _ (r : Reading) (bytes : List ℕ) (p : Place) where
  pub text_found : p.offset ≤ length bytes
      → text_of_scan r p (scan_of (take (length bytes - p.offset) (drop p.offset bytes))) ≡ text_from r bytes p
  unfolding text_from choose
  text_found h = ap (λ (s : List ℕ). text_of_scan r p (scan_of s)) (part_from bytes p.offset) ∙ simp (le-leb p.offset (length bytes) h)

  pub text_beyond : length bytes < p.offset → absent PastEnd ≡ text_from r bytes p
  unfolding text_from choose
  text_beyond h = simp (lt-leb p.offset (length bytes) h)

-- A text lies in its file

-- What is there under a reading is there under the old one.
ended_value : (r : Reading) (e x : Bool) (t : Text) (o : Outcome Text) → value t ≡ choose x (if_ended r e o) (absent PastEnd)
    → value t ≡ choose x o (absent PastEnd)
unfolding choose
ended_value Old e x t o q = q
ended_value New true x t o q = q
ended_value New false true t o q = let z : ◌≡◌ {A = ℕ} 0 1 = cc in absurd (omega arith)
ended_value New false false t o q = q

text_short : (s : List ℕ) → length (text s) ≤ length s
unfolding text
text_short [] = omega arith
text_short (b ∷ s) = go (eqb b 0) (text_short s)
  where
    go : (x : Bool) → length (text s) ≤ length s → length (choose x [] (b ∷ text s)) ≤ suc (length s)
    go true e = unfold choose in omega arith
    go false e = unfold choose in omega arith

pub text_inside : (r : Reading) (bytes : List ℕ) (p : Place) (t : Text) → value t ≡ text_from r bytes p
    → (t.file ≡ p.file) × (t.offset + t.len ≤ length bytes)
unfolding text_from
text_inside r bytes p t e =
    go (leb p.offset (length bytes)) refl (verdict (text (drop p.offset bytes)))
    (ended_value r (ended (scan_of (drop p.offset bytes))) (leb p.offset (length bytes)) t (good_text p (scan_of (drop p.offset bytes))) e)
  where
    go : (x : Bool) → leb p.offset (length bytes) ≡ x → (v : Verdict)
        → value t ≡ choose x (and_then (if_good v (length (text (drop p.offset bytes)))) (λ n. value (text_of p.file p.offset n))) (absent PastEnd)
        → (t.file ≡ p.file) × (t.offset + t.len ≤ length bytes)
    go true h (Ok u) q =
        let same : t ≡ text_of p.file p.offset (length (text (drop p.offset bytes))) = unfold choose in cc in
        let i = leb-true p.offset (length bytes) h in (
          ap (λ (u : Text). u.file) same,
          omega (arith, ap (λ (u : Text). u.offset) same, ap (λ (u : Text). u.len) same, text_short (drop p.offset bytes), length-drop p.offset bytes),
        )
    go true h (Err k) q = let z : ◌≡◌ {A = ℕ} 0 1 = unfold choose in cc in absurd (omega arith)
    go false h v q = let z : ◌≡◌ {A = ℕ} 0 1 = unfold choose in cc in absurd (omega arith)

-- What a pass came to tells the length of the text under the old reading, in one number.
module _ (p : Place) {s : List ℕ} {b : ByteRead} where
  pub end_length : PassedOn s (Ok b) → b.at + 1 ≡ length_plus_one (text_of_scan Old p (scan_of s))
  unfolding length_plus_one
  end_length (to_end e) = ap (λ (c : Scan). length_plus_one (good_text p c)) e

  pub bad_length : PassedOn s (Err b) → 0 ≡ length_plus_one (text_of_scan Old p (scan_of s))
  unfolding length_plus_one
  bad_length (to_bad within is e) = ap (λ (c : Scan). length_plus_one (good_text p c)) e

pub end_within : {s : List ℕ} {b : ByteRead} → PassedOn s (Ok b) → b.at ≤ length s
end_within {s} (to_end e) = omega (arith, ap (λ (c : Scan). c.len) e, text_short s)

-- A text handed out at an address lies inside its file too.
abbrev Inside : List (List ℕ) → Text → Type 0
Inside files t = t.offset + t.len ≤ length (file_of files t.file)

place_inside : (r : Reading) (files : List (List ℕ)) (o : Outcome Place) (t : Text) → value t ≡ and_then o (λ p. text_at r files p) → Inside files t
place_inside r files (value p) t e =
    let u = text_inside r (file_of files p.file) p t e in
    subst (λ (f : ℕ). t.offset + t.len ≤ length (file_of files f)) (sym u.0) u.1
place_inside r files (absent why) t e = let z : ◌≡◌ {A = ℕ} 0 1 = cc in absurd (omega arith)
place_inside r files (refused k) t e = let z : ◌≡◌ {A = ℕ} 0 1 = cc in absurd (omega arith)

pub text_in_inside : (r : Reading) (m : Image) (va : ℕ) (t : Text) → value t ≡ text_in r m va → t.offset + t.len ≤ length (file_of m.files t.file)
unfolding text_in
text_in_inside r m va t e = go (nonzero va) e
  where
    go : (o : Outcome ℕ) → value t ≡ and_then o (λ a. and_then (lookup (rows m.words) a) (λ p. text_at r m.files p)) → Inside m.files t
    go (value a) q = place_inside r m.files (lookup (rows m.words) a) t q
    go (absent why) q = let z : ◌≡◌ {A = ℕ} 0 1 = cc in absurd (omega arith)
    go (refused k) q = let z : ◌≡◌ {A = ℕ} 0 1 = cc in absurd (omega arith)
