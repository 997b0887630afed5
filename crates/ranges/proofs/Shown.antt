-- What a sheet shows: each byte of its window, and that no byte between the window and word 2 is used.
use Prim.Native.Nat.{ℕ, zero, suc, ◌+◌, ◌-◌, ◌/◌, ◌%◌, ◌^◌, ◌≤◌, ◌<◌, min, max}
use mathlib.Core.Path.{◌≡◌, refl, sym, ap, ◌∙◌}
use mathlib.Core.Bool.{Bool, true, false, ◌||◌}
use mathlib.Core.List.{List, [], ◌∷◌}
use native.Mathlib.Omega.{arith}
use native.Mathlib.Nat.{zero-div}
use lib.Dec.{ltb, eqb}
use lib.ListN.{length, get_or, set, replicate, length-set, length-replicate}
use lib.Seq.{get_or-set_same, get_or-set_other}
use borrow.Author.Tests.{ltb-true, ltb-false, eqb-true, eqb-false}
use Rattle.reads.specs.Outcome.{choose}
use Rattle.ranges.specs.Range.{Range, range, lies, covers}
use Rattle.ranges.specs.Sheet.{window, sheet_words, sheet_file, sheet_from, sheet_next, bit_of, marked_at, headed, blank, with_bits, lowered_to, noted_from, noted, noted_all}
use Rattle.ranges.proofs.Covers.{tests_same, not_true, or_assoc, or_comm, or_false, lies_in, lies_true, lies_elsewhere}
use Rattle.ranges.proofs.SheetLaws.{long_bits, word_kept, marked_bits}

-- A sheet whose window begins at byte `from` of a file and whose word 2 was `least`, after the bytes that u has were noted.
pub record Shows (file from least : ℕ) (m : List ℕ) (u : ℕ → Bool) : Type 0 where
  pub long : length m ≡ sheet_words
  pub holds : sheet_file m ≡ file
  pub begins : sheet_from m ≡ from
  pub bits : (k : ℕ) → k < window → marked_at m k ≡ u (from + k)
  pub clear : (k : ℕ) → window ≤ k → k < sheet_next m → u (from + k) ≡ false
  pub beyond : min window least ≤ sheet_next m
  pub within : sheet_next m ≤ least

-- The part of a range that lies from byte `from` on, counted from there.
lies_within : (file from offset len k : ℕ) → lies (range 0 (offset - from) (len - (from - offset))) 0 k ≡ lies (range file offset len) file (from + k)
lies_within file from offset len k =
    let cut = range 0 (offset - from) (len - (from - offset)) in
    let r = range file offset len in
    tests_same (lies cut 0 k) (lies r file (from + k))
    (λ e. let f = lies_true cut 0 k e in let a = f.1 in let b = f.2 in lies_in r file (from + k) refl (omega arith) (omega arith))
    (λ e. let f = lies_true r file (from + k) e in let a = f.1 in let b = f.2 in lies_in cut 0 k refl (omega arith) (omega arith))

lowered_marks : (m : List ℕ) (x k : ℕ) → marked_at (lowered_to m x) k ≡ marked_at m k
unfolding marked_at lowered_to
lowered_marks m x k = rw (get_or-set_other m 2 (k / 64 + 3) (min x (sheet_next m)) 0 (λ e. omega arith)) refl

lowered_kept : (m : List ℕ) (x i : ℕ) → i < 2 → get_or (lowered_to m x) i 0 ≡ get_or m i 0
unfolding lowered_to
lowered_kept m x i h = get_or-set_other m 2 i (min x (sheet_next m)) 0 (λ e. omega arith)

lowered_next : (m : List ℕ) (x : ℕ) → length m ≡ sheet_words → sheet_next (lowered_to m x) ≡ min x (sheet_next m)
unfolding lowered_to
lowered_next m x l = get_or-set_same m 2 (min x (sheet_next m)) 0 (omega arith)

lowered_long : (m : List ℕ) (x : ℕ) → length (lowered_to m x) ≡ length m
unfolding lowered_to
lowered_long m x = length-set m 2 (min x (sheet_next m))

-- Word 2 after it was lowered to the first byte past the window: the sheet's lists are kept out of these sums.
le_refl : (a : ℕ) → a ≤ a
le_refl a = omega arith

lt_le : (a b c : ℕ) → a < b → b ≤ c → a < c
lt_le a b c h k = omega arith

le_le : (a b c : ℕ) → a ≤ b → b ≤ c → a ≤ c
le_le a b c h k = omega arith

not_both : (a b : ℕ) → b ≤ a → a < b → ⊥
not_both a b h k = omega arith

min_left : (a b : ℕ) → min a b ≤ a
min_left a b = omega arith

next_within : (z y f : ℕ) → z ≡ min (max f window) y → z ≤ y
next_within z y f e = omega arith

next_past : (z y f k : ℕ) → z ≡ min (max f window) y → window ≤ k → k < z → k < f
next_past z y f k e h l = omega arith

next_beyond : (z y f b : ℕ) → z ≡ min (max f window) y → b ≤ y → b ≤ window → b ≤ z
next_beyond z y f b e h l = omega arith

-- A range of the sheet's file noted, by whether it ends in the window.
module _ (file from least : ℕ) (m : List ℕ) (u : ℕ → Bool) (s : Shows file from least m u) (offset len f l : ℕ)
    (is-first : f ≡ offset - from) (is-left : l ≡ len - (from - offset)) where
  here : (k : ℕ) → lies (range 0 f l) 0 k ≡ lies (range file offset len) file (from + k)
  here k = rw (is-first, is-left) (lies_within file from offset len k)

  either : (k : ℕ) (t : Bool) → t ≡ lies (range file offset len) file (from + k) → k < window
      → (t || marked_at m k) ≡ (u (from + k) || lies (range file offset len) file (from + k))
  either k t e h = rw (e, s.bits k h) (or_comm (lies (range file offset len) file (from + k)) (u (from + k)))

  none : (k : ℕ) → window ≤ k → k < sheet_next m → (lies (range 0 f l) 0 k ≡ true → ⊥) → (u (from + k) || lies (range file offset len) file (from + k)) ≡ false
  none k w n g = rw (s.clear k w n, not_true (lies (range file offset len) file (from + k)) (λ e. g (here k ∙ e))) refl

  shows_inside : l ≤ window - f → Shows file from least (with_bits m f l) (λ b. u b || lies (range file offset len) file b)
  shows_inside h =
      let next = word_kept m f l 2 (omega arith) in
      let b = s.beyond in
      let w = s.within in
      record {
        long = long_bits m f l ∙ s.long;
        holds = word_kept m f l 0 (omega arith) ∙ s.holds;
        begins = word_kept m f l 1 (omega arith) ∙ s.begins;
        bits = λ k i. marked_bits m f l k s.long h ∙ either k (lies (range 0 f l) 0 k) (here k) i;
        clear = λ k i n. none k i (omega (arith, next)) (λ e. let t = lies_true (range 0 f l) 0 k e in let a = t.1 in let z = t.2 in omega arith);
        beyond = omega (arith, next);
        within = omega (arith, next);
      }

  cut : (k : ℕ) → k < window → window - f < l → lies (range 0 f (window - f)) 0 k ≡ lies (range 0 f l) 0 k
  cut k h g = tests_same (lies (range 0 f (window - f)) 0 k) (lies (range 0 f l) 0 k)
      (λ e. let t = lies_true (range 0 f (window - f)) 0 k e in let a = t.1 in let z = t.2 in lies_in (range 0 f l) 0 k refl a (omega arith))
      (λ e. let t = lies_true (range 0 f l) 0 k e in let a = t.1 in let z = t.2 in lies_in (range 0 f (window - f)) 0 k refl a (omega arith))

  shows_beyond : window - f < l → Shows file from least (lowered_to (with_bits m f (window - f)) (max f window)) (λ b. u b || lies (range file offset len) file b)
  shows_beyond h =
      let long = long_bits m f (window - f) ∙ s.long in
      let m' = lowered_to (with_bits m f (window - f)) (max f window) in
      let next : sheet_next m' ≡ min (max f window) (sheet_next m) =
      lowered_next (with_bits m f (window - f)) (max f window) long ∙ ap (min (max f window)) (word_kept m f (window - f) 2 (omega arith)) in
      let down = next_within (sheet_next m') (sheet_next m) f next in
      record {
        long = lowered_long (with_bits m f (window - f)) (max f window) ∙ long;
        holds = lowered_kept (with_bits m f (window - f)) (max f window) 0 (omega arith) ∙ word_kept m f (window - f) 0 (omega arith) ∙ s.holds;
        begins = lowered_kept (with_bits m f (window - f)) (max f window) 1 (omega arith) ∙ word_kept m f (window - f) 1 (omega arith) ∙ s.begins;
        bits = λ k i. lowered_marks (with_bits m f (window - f)) (max f window) k ∙ marked_bits m f (window - f) k s.long (le_refl (window - f))
            ∙ either k (lies (range 0 f (window - f)) 0 k) (cut k i h ∙ here k) i;
        clear = λ k i n. none k i (lt_le k (sheet_next m') (sheet_next m) n down) (λ e. let t = lies_true (range 0 f l) 0 k e in
            not_both k f t.1 (next_past (sheet_next m') (sheet_next m) f k next i n));
        beyond = next_beyond (sheet_next m') (sheet_next m) f (min window least) next s.beyond (min_left window least);
        within = le_le (sheet_next m') (sheet_next m) least down s.within;
      }

  shows_from : (t : Bool) → ltb (window - f) l ≡ t → Shows file from least (noted_from f l m) (λ b. u b || lies (range file offset len) file b)
  unfolding noted_from choose
  shows_from true e = rw e (shows_beyond (ltb-true (window - f) l e))
  shows_from false e = rw e (shows_inside (ltb-false (window - f) l e))

shows_same : (file from least : ℕ) (m : List ℕ) (u v : ℕ → Bool) → ((x : ℕ) → u x ≡ v x) → Shows file from least m u → Shows file from least m v
shows_same file from least m u v e s = record {
  long = s.long;
  holds = s.holds;
  begins = s.begins;
  bits = λ k h. s.bits k h ∙ e (from + k);
  clear = λ k h n. sym (e (from + k)) ∙ s.clear k h n;
  beyond = s.beyond;
  within = s.within;
}

shows_noted : (file from least : ℕ) (m : List ℕ) (u : ℕ → Bool) (r : Range) → Shows file from least m u → Shows file from least (noted r m) (λ b. u b || lies r file b)
unfolding noted choose
shows_noted file from least m u r s = go (eqb r.file file) refl
  where
    go : (t : Bool) → eqb r.file file ≡ t
        → Shows file from least (choose (eqb r.file (sheet_file m)) (noted_from (r.offset - sheet_from m) (r.len - (sheet_from m - r.offset)) m) m) (λ b. u b || lies r file b)
    go true e =
        let same = eqb-true r.file file e in
        rw (s.holds, s.begins, e)
        (shows_same file from least (noted_from (r.offset - from) (r.len - (from - r.offset)) m) (λ b. u b || lies (range file r.offset r.len) file b) (λ b. u b || lies r file b)
        (λ x. ap (λ n. u x || lies (range n r.offset r.len) file x) (sym same))
        (shows_from file from least m u s r.offset r.len (r.offset - from) (r.len - (from - r.offset)) refl refl (ltb (window - (r.offset - from)) (r.len - (from - r.offset))) refl))
    go false e =
        rw (s.holds, e)
        (shows_same file from least m u (λ b. u b || lies r file b)
        (λ x. sym (ap (λ t. u x || t) (lies_elsewhere r file x (eqb-false r.file file e)) ∙ or_false (u x))) s)

pub shows_all : (rs : List Range) (file from least : ℕ) (m : List ℕ) (u : ℕ → Bool) → Shows file from least m u
    → Shows file from least (noted_all rs m) (λ b. u b || covers rs file b)
unfolding noted_all covers
shows_all [] file from least m u s = shows_same file from least m u (λ b. u b || false) (λ x. sym (or_false (u x))) s
shows_all (r ∷ rs) file from least m u s =
    shows_same file from least (noted_all rs (noted r m)) (λ b. (u b || lies r file b) || covers rs file b) (λ b. u b || (lies r file b || covers rs file b))
    (λ x. sym (or_assoc (u x) (lies r file x) (covers rs file x)))
    (shows_all rs file from least (noted r m) (λ b. u b || lies r file b) (shows_noted file from least m u r s))

zeros : (n i : ℕ) → ◌≡◌ {A = ℕ} (get_or (replicate n 0) i 0) 0
zeros zero i = refl
zeros (suc n) zero = refl
zeros (suc n) (suc i) = zeros n i

-- A blank sheet shows nothing: of the zero words only their number and that they are 0 is used.
shows_headed : (file from least : ℕ) (z : List ℕ) → length z ≡ sheet_words → ((i : ℕ) → get_or z i 0 ≡ 0) → Shows file from least (headed file from least z) (λ b. false)
unfolding headed marked_at bit_of
shows_headed file from least z l e =
    let a = set z 0 file in
    let b = set a 1 from in
    let la : length a ≡ sheet_words = simp length-set l in
    let lb : length b ≡ sheet_words = simp length-set l in
    let next : sheet_next (set b 2 least) ≡ least = get_or-set_same b 2 least 0 (omega arith) in
    record {
      long = simp length-set l;
      holds = get_or-set_other b 2 0 least 0 (λ d. omega arith) ∙ get_or-set_other a 1 0 from 0 (λ d. omega arith) ∙ get_or-set_same z 0 file 0 (omega arith);
      begins = get_or-set_other b 2 1 least 0 (λ d. omega arith) ∙ get_or-set_same a 1 from 0 (omega arith);
      bits = λ k h. rw (get_or-set_other b 2 (k / 64 + 3) least 0 (λ d. omega arith), get_or-set_other a 1 (k / 64 + 3) from 0 (λ d. omega arith), get_or-set_other z 0 (k / 64 + 3) file 0 (λ d. omega arith), e (k / 64 + 3), zero-div (2 ^ (k % 64))) refl;
      clear = λ k h n. refl;
      beyond = rw next (omega arith);
      within = rw next (omega arith);
    }

-- A sheet with some ranges noted shows their bytes.
pub shows_ranges : (rs : List Range) (file from least : ℕ) → Shows file from least (noted_all rs (blank file from least)) (covers rs file)
unfolding blank
shows_ranges rs file from least =
    shows_all rs file from least (headed file from least (replicate sheet_words 0)) (λ b. false)
    (shows_headed file from least (replicate sheet_words 0) (length-replicate {A = ℕ} sheet_words 0) (zeros sheet_words))
