-- One file with number 0 everywhere gives what one image gave (document 02, note 6): lookups, reads and texts. Other files may be lent beside
-- it: no lookup leads there.
use Rattle.std.specs.Prelude.{Ok, Err}
use Rattle.std.proofs.Common.{◌≡◌, ℕ, zero, suc, ◌+◌, ◌-◌, ◌<◌, ◌≤◌, Bool, true, false, leb, List, [], ◌∷◌, map, length, drop, refl, ap, ◌∙◌, arith}
use Rattle.reads.specs.Utf8.{Verdict}
use Rattle.reads.specs.Outcome.{Outcome, value, absent, refused, and_then, because, or_else, choose, sum64, nonzero, text_of}
use Rattle.reads.specs.Table.{records, word_of, tabulate}
use Rattle.reads.specs.Files.{file_of}
use Rattle.reads.specs.Segment.{segment, segment_at, rows, ends, holds, place_at, placed, lookup}
use Rattle.reads.specs.Place.{image_of, le, part, readable_at, readable, word}
use Rattle.reads.specs.Address.{data_arm64e, data64, mapped, picked_wide, picked}
use Rattle.reads.specs.Text.{scan_of, if_good, ended, if_ended, text_from, text_at, text_in}
use Rattle.reads.specs.declared.answer.Reason.TheVariants.{Unmapped, PastEnd, NoData, Unreadable}
use Rattle.reads.specs.declared.place.Place.{Place}
use Rattle.reads.specs.declared.segment.Segment.{Segment}
use Rattle.reads.specs.declared.text.Reading.{Reading}
use Rattle.reads.specs.declared.text.Reading.TheVariants.{Old, New}
use Rattle.reads.specs.declared.text.Text.{Text}
use Rattle.reads.proofs.OneImage as one

-- A table whose records have one word more than they had, a file number that is 0.
pub record Widened (width : ℕ) (old new : List ℕ) : Type 0 where
  pub count : records (suc width) new ≡ records width old
  pub same : (i k : ℕ) → i < records width old → k < width → word_of (suc width) new i k ≡ word_of width old i k
  pub zeroth : (i : ℕ) → i < records width old → word_of (suc width) new i width ≡ 0

-- An offset is a place of file 0, and a text lies there.
abbrev pub in_file : Outcome ℕ → Outcome Place
in_file (value offset) = value (place_at 0 offset)
in_file (absent r) = absent r
in_file (refused k) = refused k

abbrev pub text_in_file : one.Text → Text
text_in_file t = text_of 0 t.offset t.len

abbrev pub texts_in_file : Outcome one.Text → Outcome Text
texts_in_file (value t) = value (text_in_file t)
texts_in_file (absent r) = absent r
texts_in_file (refused k) = refused k

abbrev widen : one.Segment → Segment
widen s = segment s.vmaddr s.vmsize s.fileoff s.filesize 0

placed_one : (s : one.Segment) (va : ℕ) → placed (widen s) va ≡ in_file (one.placed s va)
unfolding placed
placed_one s va = go (leb s.filesize (va - s.vmaddr)) (sum64 s.fileoff (va - s.vmaddr))
  where
    go : (b : Bool) (o : Outcome ℕ)
        → choose b (absent Unmapped) (and_then (because Unmapped o) (λ offset. value (place_at 0 offset))) ≡ in_file (choose b (absent Unmapped) (because Unmapped o))
    go true o = unfold choose in refl
    go false (value offset) = unfold choose in refl
    go false (absent r) = unfold choose in refl
    go false (refused k) = unfold choose in refl

lookup_widened : (ss : List one.Segment) (va : ℕ) → lookup (map widen ss) va ≡ in_file (one.lookup ss va)
unfolding lookup one.lookup ends holds
lookup_widened [] va = refl
lookup_widened (s ∷ ss) va = go (one.ends s) (one.holds s va) (one.placed s va) (one.lookup ss va) (placed_one s va) (lookup_widened ss va)
  where
    go : (a b : Bool) (q m : Outcome ℕ) {p l : Outcome Place} → p ≡ in_file q → l ≡ in_file m
        → choose a (absent Unmapped) (choose b p l) ≡ in_file (choose a (absent Unmapped) (choose b q m))
    go true b q m e f = unfold choose in refl
    go false true q m e f = unfold choose in e
    go false false q m e f = unfold choose in f

module _ {old new : List ℕ} (w : Widened 4 old new) where
  segment_widened : (i : ℕ) → i < records 4 old → segment_at new i ≡ widen (one.segment_at old i)
  segment_widened i h =
      rw (
        w.same i 0 h (omega arith),
        w.same i 1 h (omega arith),
        w.same i 2 h (omega arith),
        w.same i 3 h (omega arith),
        w.zeroth i h,
      )

  rows_from_lem : (i n : ℕ) → i + n ≤ records 4 old → tabulate (segment_at new) i n ≡ map widen (tabulate (one.segment_at old) i n)
  unfolding tabulate
  rows_from_lem i zero h = refl
  rows_from_lem i (suc n) h = rw (segment_widened i (omega arith), rows_from_lem (suc i) n (omega arith))

  rows_widened : rows new ≡ map widen (one.rows old)
  unfolding rows one.rows
  rows_widened = ap (tabulate (segment_at new) 0) w.count ∙ rows_from_lem 0 (records 4 old) (omega arith)

  -- A lookup leads to the same offset, in file 0.
  pub lookup_one : (va : ℕ) → lookup (rows new) va ≡ in_file (one.lookup (one.rows old) va)
  lookup_one va = rw rows_widened (lookup_widened (one.rows old) va)

  mapped_one : (va : ℕ) → mapped new va ≡ one.mapped old va
  unfolding mapped
  mapped_one va = rw (lookup_one va) (go (one.lookup (one.rows old) va))
    where
      go : (o : Outcome ℕ) → and_then (in_file o) (λ p. value va) ≡ and_then o (λ offset. value va)
      go (value offset) = refl
      go (absent r) = refl
      go (refused k) = refl

  pub picked_one : (x : ℕ) → picked new x ≡ one.picked old x
  unfolding picked picked_wide one.picked
  picked_one x = go (nonzero (data_arm64e x))
    where
      go : (o : Outcome ℕ) → because NoData (or_else (and_then o (mapped new)) (nonzero (data64 x))) ≡ because NoData (or_else (and_then o (one.mapped old)) (nonzero (data64 x)))
      go (value a) = rw (mapped_one a)
      go (absent r) = refl
      go (refused k) = refl

  -- What is read there is what was read in the image.
  module _ (file : List ℕ) (others : List (List ℕ)) where
    abbrev image : one.Image
    image = record { bytes = file; words = old }

    pub readable_one : (va k : ℕ) → readable (image_of (file ∷ others) new) va k ≡ in_file (one.readable image va k)
    unfolding readable one.readable readable_at file_of
    readable_one va k = rw (lookup_one va) (go (one.lookup (one.rows old) va))
      where
        inside : (offset : ℕ) (b : Bool) → choose b (value (place_at 0 offset)) (absent Unreadable) ≡ in_file (choose b (value offset) (absent Unreadable))
        inside offset true = unfold choose in refl
        inside offset false = unfold choose in refl

        go : (o : Outcome ℕ)
            → and_then (because Unreadable (in_file o)) (λ p. readable_at (length (file_of (file ∷ others) p.file)) p k)
            ≡ in_file (and_then (because Unreadable o) (λ offset. one.readable_at file offset k))
        go (value offset) = unfold readable_at file_of in inside offset (leb (offset + k) (length file))
        go (absent r) = refl
        go (refused n) = refl

    pub word_one : (k va : ℕ) → word (image_of (file ∷ others) new) k va ≡ one.word image k va
    unfolding word one.word file_of
    word_one k va = rw (readable_one va k) (go (one.readable image va k))
      where
        go : (o : Outcome ℕ)
            → and_then (in_file o) (λ p. value (le (part (file_of (file ∷ others) p.file) p.offset k))) ≡ and_then o (λ offset. value (le (part file offset k)))
        go (value offset) = unfold file_of in refl
        go (absent r) = refl
        go (refused n) = refl

    text_at_one : (r : Reading) (offset : ℕ) → text_from r file (place_at 0 offset) ≡ texts_in_file (one.text_at r file offset)
    unfolding text_from
    text_at_one r offset =
        let c = scan_of (drop offset file) in go (leb offset (length file)) r (ended c) c.verdict c.len
      where
        go : (b : Bool) (r : Reading) (e : Bool) (v : Verdict) (n : ℕ)
            → choose b (if_ended r e (and_then (if_good v n) (λ m. value (text_of 0 offset m)))) (absent PastEnd)
            ≡ texts_in_file (choose b (if_ended r e (and_then (if_good v n) (λ m. value (record { offset = offset; len = m })))) (absent PastEnd))
        go true Old e (Ok u) n = unfold choose in refl
        go true Old e (Err k) n = unfold choose in refl
        go true New true (Ok u) n = unfold choose in refl
        go true New true (Err k) n = unfold choose in refl
        go true New false v n = unfold choose in refl
        go false r e v n = unfold choose in refl

    pub text_one : (r : Reading) (va : ℕ) → text_in r (image_of (file ∷ others) new) va ≡ texts_in_file (one.text_in r image va)
    unfolding text_in one.text_in
    text_one r va = go (nonzero va)
      where
        found : (o : Outcome ℕ) → and_then (in_file o) (λ p. text_at r (file ∷ others) p) ≡ texts_in_file (and_then o (one.text_at r file))
        found (value offset) = unfold file_of in text_at_one r offset
        found (absent why) = refl
        found (refused k) = refl

        go : (o : Outcome ℕ)
            → and_then o (λ a. and_then (lookup (rows new) a) (λ p. text_at r (file ∷ others) p))
            ≡ texts_in_file (and_then o (λ a. and_then (one.lookup (one.rows old) a) (one.text_at r file)))
        go (value a) = rw (lookup_one a) (found (one.lookup (one.rows old) a))
        go (absent why) = refl
        go (refused k) = refl

-- Such a table: two segments of four words, and the same with a file number each.
abbrev four_words : List ℕ
four_words = 0x1000 ∷ 0x80 ∷ 0 ∷ 0x80 ∷ 0x2000 ∷ 0x100 ∷ 0x80 ∷ 0x90 ∷ []

abbrev five_words : List ℕ
five_words = 0x1000 ∷ 0x80 ∷ 0 ∷ 0x80 ∷ 0 ∷ 0x2000 ∷ 0x100 ∷ 0x80 ∷ 0x90 ∷ 0 ∷ []

two_segments : Widened 4 four_words five_words
two_segments = record { count = refl; same = same; zeroth = zeroth }
  where
    same : (i k : ℕ) → i < 2 → k < 4 → word_of 5 five_words i k ≡ word_of 4 four_words i k
    same zero zero h l = refl
    same zero (suc zero) h l = refl
    same zero (suc (suc zero)) h l = refl
    same zero (suc (suc (suc zero))) h l = refl
    same (suc zero) zero h l = refl
    same (suc zero) (suc zero) h l = refl
    same (suc zero) (suc (suc zero)) h l = refl
    same (suc zero) (suc (suc (suc zero))) h l = refl
    same (suc (suc i)) k h l = absurd (omega (arith, h))
    same zero (suc (suc (suc (suc k)))) h l = absurd (omega (arith, l))
    same (suc zero) (suc (suc (suc (suc k)))) h l = absurd (omega (arith, l))

    zeroth : (i : ℕ) → i < 2 → word_of 5 five_words i 4 ≡ 0
    zeroth zero h = refl
    zeroth (suc zero) h = refl
    zeroth (suc (suc i)) h = absurd (omega (arith, h))
