-- Numbers in files, over the width: a number of k bytes as the code reads it, and where k bytes can be read.
use Rattle.std.proofs.Common.{◌≡◌, ℕ, zero, suc, ◌+◌, ◌-◌, ◌*◌, ◌^◌, ◌<◌, ◌≤◌, Bool, true, false, leb, List, [], ◌∷◌, ◌++◌, reverse, length, get_or, take, drop, refl, sym, ap, ◌∙◌, subst, arith, length-append, length-drop, length-take, drop-drop, take-add, drop-cons, get_or-drop, pow-suc, Bor, Fits, w8, w64, le-leb, leb-true}
use Rattle.std.proofs.lemmas.List.{append-nil, get_or-reverse}
use borrow.Rule.Slice.PartMut.{put_mid, Post-is}
use Rattle.std.specs.Int.{from_le_bytes, from_be_bytes}
use mathlib.Core.List.{reverse-append}
use borrow.Author.Tests.{lt-leb}
use lib.ListN.{length-reverse}
use Rattle.reads.specs.Outcome.{Outcome, value, absent, refused, and_then, because, choose}
use Rattle.reads.specs.declared.answer.Reason.TheVariants.{Unreadable}
use Rattle.reads.specs.Segment.{rows, lookup, place_at}
use Rattle.reads.specs.Files.{files_lent, file_of}
use Rattle.reads.specs.Place.{Image, image_of, le, be, part, readable_at, readable, word_in, le_in}
use Rattle.reads.specs.declared.place.Place.{Place}
use Rattle.reads.proofs.LentFiles.{lent_below, lent_by_bytes, file_lent}
use Rattle.reads.proofs.Parts.{part_length, part_of_part}
use Rattle.std.specs.Prelude.{Result, Ok}
use Rattle.reads.specs.Answer.{outcome}
use Rattle.reads.specs.declared.answer.Missing.{Missing}

-- x after n bytes: times 256 for each.
abbrev pub scaled : ℕ → ℕ → ℕ
scaled zero x = x
scaled (suc n) x = 256 * scaled n x

pub le_append : (xs ys : List ℕ) → le (xs ++ ys) ≡ le xs + scaled (length xs) (le ys)
unfolding le
le_append [] ys = omega arith
le_append (x ∷ xs) ys = omega (arith, le_append xs ys)

length_part : (bs : List ℕ) (at k : ℕ) → at + k ≤ length bs → length (part bs at k) ≡ k
length_part bs at k h = simp (length-take, length-drop) (omega arith)

part_more : (bs : List ℕ) (at j k : ℕ) → part bs at (j + k) ≡ part bs at j ++ part bs (at + j) k
part_more bs at j k = take-add j k (drop at bs) ∙ ap (λ (l : List ℕ). part bs at j ++ take k l) (drop-drop j at bs)

-- Two parts side by side, in little-endian and in big-endian order.
pub le_part : (bs : List ℕ) (at j k : ℕ) → at + j ≤ length bs → le (part bs at (j + k)) ≡ le (part bs at j) + scaled j (le (part bs (at + j) k))
le_part bs at j k h =
    ap le (part_more bs at j k)
    ∙ le_append (part bs at j) (part bs (at + j) k)
    ∙ ap (λ (n : ℕ). le (part bs at j) + scaled n (le (part bs (at + j) k))) (length_part bs at j h)

pub be_part : (bs : List ℕ) (at j k : ℕ) → at + j + k ≤ length bs → be (part bs at (j + k)) ≡ be (part bs (at + j) k) + scaled k (be (part bs at j))
be_part bs at j k h =
    ap be (part_more bs at j k)
    ∙ ap le (reverse-append (part bs at j) (part bs (at + j) k))
    ∙ le_append (reverse (part bs (at + j) k)) (reverse (part bs at j))
    ∙ ap (λ (n : ℕ). be (part bs (at + j) k) + scaled n (be (part bs at j))) (length-reverse (part bs (at + j) k) ∙ length_part bs (at + j) k h)

part_one : (bs : List ℕ) (at : ℕ) → at + 1 ≤ length bs → part bs at 1 ≡ get_or bs at 0 ∷ []
part_one bs at h = ap (λ (l : List ℕ). take 1 l) (drop-cons bs at 0 (omega arith))

pub le_one : (bs : List ℕ) (at : ℕ) → at + 1 ≤ length bs → le (part bs at 1) ≡ get_or bs at 0
unfolding le
le_one bs at h = ap le (part_one bs at h) ∙ omega arith

pub be_one : (bs : List ℕ) (at : ℕ) → at + 1 ≤ length bs → be (part bs at 1) ≡ get_or bs at 0
unfolding le
be_one bs at h = ap be (part_one bs at h) ∙ omega arith

-- The number of the bytes from j on is byte j and the number of those after it.
le_step : (xs : List ℕ) (j : ℕ) → le (drop j xs) ≡ get_or xs j 0 + 256 * le (drop (suc j) xs)
unfolding le
le_step [] zero = refl
le_step [] (suc j) = refl
le_step (x ∷ xs) zero = refl
le_step (x ∷ xs) (suc j) = le_step xs j

le_past : (xs : List ℕ) (n : ℕ) → length xs ≤ n → le (drop n xs) ≡ 0
unfolding le
le_past [] zero h = refl
le_past [] (suc n) h = refl
le_past (x ∷ xs) zero h = absurd (omega arith)
le_past (x ∷ xs) (suc n) h = le_past xs n (omega arith)

-- What `from_le_bytes` and `from_be_bytes` of u64 say of eight bytes.
le_of_eight : (xs : List ℕ) → length xs ≡ 8 → from_le_bytes w64 xs ≡ le xs
le_of_eight xs h =
    omega (arith, le_step xs 0, le_step xs 1, le_step xs 2, le_step xs 3, le_step xs 4, le_step xs 5, le_step xs 6, le_step xs 7, le_past xs 8 (omega arith))

be_of_eight : (xs : List ℕ) → length xs ≡ 8 → from_be_bytes w64 xs ≡ be xs
be_of_eight xs h =
    let g : (k : ℕ) → k < 8 → get_or (reverse xs) k 0 ≡ get_or xs (7 - k) 0 =
    λ k l. get_or-reverse xs k 0 (omega arith) ∙ ap (λ (n : ℕ). get_or xs (n - 1 - k) 0) h in
    let s : (k : ℕ) → le (drop k (reverse xs)) ≡ get_or (reverse xs) k 0 + 256 * le (drop (suc k) (reverse xs)) = le_step (reverse xs) in
    omega (arith, s 0, s 1, s 2, s 3, s 4, s 5, s 6, s 7, le_past (reverse xs) 8 (omega (arith, length-reverse xs)), g 0 (omega arith), g 1 (omega arith), g 2 (omega arith), g 3 (omega arith), g 4 (omega arith), g 5 (omega arith), g 6 (omega arith), g 7 (omega arith))

-- Bytes that are 0.
scaled_zero : (n : ℕ) → scaled n 0 ≡ 0
scaled_zero zero = refl
scaled_zero (suc n) = omega (arith, scaled_zero n)

zero_drop : (xs : List ℕ) (n : ℕ) → le xs ≡ 0 → le (drop n xs) ≡ 0
unfolding le
zero_drop [] zero e = refl
zero_drop [] (suc n) e = refl
zero_drop (x ∷ xs) zero e = e
zero_drop (x ∷ xs) (suc n) e = zero_drop xs n (omega arith)

zero_take : (xs : List ℕ) (n : ℕ) → le xs ≡ 0 → le (take n xs) ≡ 0
unfolding le
zero_take [] zero e = refl
zero_take [] (suc n) e = refl
zero_take (x ∷ xs) zero e = refl
zero_take (x ∷ xs) (suc n) e = omega (arith, zero_take xs n (omega arith))

zero_reverse : (xs : List ℕ) → le xs ≡ 0 → be xs ≡ 0
unfolding le
zero_reverse [] e = refl
zero_reverse (x ∷ xs) e =
    let z : le (x ∷ []) ≡ 0 = omega arith in
    ap le (reverse-append (x ∷ []) xs) ∙ le_append (reverse xs) (x ∷ []) ∙ rw (z, scaled_zero) (omega (arith, zero_reverse xs (omega arith)))

abbrev zeros : List ℕ
zeros = 0 ∷ 0 ∷ 0 ∷ 0 ∷ 0 ∷ 0 ∷ 0 ∷ 0 ∷ []

le_zeros : le zeros ≡ 0
unfolding le
le_zeros = refl

module _ (bs : List ℕ) (at n r : ℕ) (fits : n ≤ 8) (inside : at + n ≤ length bs) (p : List ℕ) (q : p ≡ take (at + n - at) (drop at bs)) where
  copied : p ≡ part bs at n
  copied = let e : at + n - at ≡ n = omega arith in q ∙ ap (λ (k : ℕ). part bs at k) e

  size : length p ≡ n
  size = ap length copied ∙ length_part bs at n inside

  pub le_copied : r ≡ from_le_bytes w64 (p ++ drop n zeros) → r ≡ le (part bs at n)
  le_copied e =
      e
      ∙ le_of_eight (p ++ drop n zeros) (simp (length-append, length-drop) (omega (arith, size)))
      ∙ le_append p (drop n zeros)
      ∙ (rw (zero_drop zeros n le_zeros, scaled_zero) (omega (arith, ap le copied)))

  pub be_copied : r ≡ from_be_bytes w64 (put_mid (8 - n) (8 - (8 - n)) zeros p) → r ≡ be (part bs at n)
  be_copied e =
      let zs : List ℕ = take (8 - n) zeros in
      e
      ∙ ap (λ (l : List ℕ). from_be_bytes w64 (zs ++ (p ++ l))) (Post-is (8 - n) 8 zeros (omega arith))
      ∙ ap (λ (l : List ℕ). from_be_bytes w64 (zs ++ l)) (append-nil p)
      ∙ be_of_eight (zs ++ p) (simp (length-append, length-take) (omega (arith, size)))
      ∙ ap le (reverse-append zs p)
      ∙ le_append (reverse p) (reverse zs)
      ∙ rw (zero_reverse zs (zero_take zeros (8 - n) le_zeros), scaled_zero) (omega (arith, ap be copied))

-- A number is below 256 for each of its bytes.
pub positive_power : (n : ℕ) → 0 < 256 ^ n
positive_power zero = omega arith
positive_power (suc n) = rw pow-suc (omega (arith, positive_power n))

take_below : (xs : List ℕ) (n : ℕ) → ((i : ℕ) → get_or xs i 0 < 256) → le (take n xs) < 256 ^ n
unfolding le
take_below [] zero f = omega arith
take_below [] (suc n) f = positive_power (suc n)
take_below (x ∷ xs) zero f = omega arith
take_below (x ∷ xs) (suc n) f = rw pow-suc (omega (arith, f 0, take_below xs n (λ i. f (suc i))))

pub part_below : (bs : List ℕ) (at n : ℕ) → ((i : ℕ) → Fits w8 (get_or bs i 0)) → le (part bs at n) < 256 ^ n
part_below bs at n f = take_below (drop at bs) n (λ i. let h = f (at + i) in rw get_or-drop h.fits)

module _ (n : ℕ) (p : Place) (k : ℕ) where
  pub readable_in : p.offset + k ≤ n → value p ≡ readable_at n p k
  unfolding readable_at choose
  readable_in h = simp (le-leb _ _ h)

  pub readable_out : n < p.offset + k → absent Unreadable ≡ readable_at n p k
  unfolding readable_at choose
  readable_out h = simp (lt-leb _ _ h)

-- A place handed out for k bytes has k bytes of its file after it.
room_by : (b : Bool) (k n : ℕ) (q p : Place) → leb (q.offset + k) n ≡ b → choose b (value q) (absent Unreadable) ≡ value p
    → (q ≡ p) × (p.offset + k ≤ n)
unfolding choose
room_by true k n q p t e = let r : q ≡ p = cc in (r, rw (← r) (leb-true (q.offset + k) n t))
room_by false k n q p t e = let z : ◌≡◌ {A = ℕ} 0 1 = cc in absurd (omega arith)

readable_at_room : (n : ℕ) (q : Place) (k : ℕ) (p : Place) → readable_at n q k ≡ value p → (q ≡ p) × (p.offset + k ≤ n)
unfolding readable_at
readable_at_room n q k p e = room_by _ k n q p refl e

module _ (fs : List (List ℕ)) (k : ℕ) where
  then_room : (o : Outcome Place) (p : Place) → and_then (because Unreadable o) (λ q. readable_at (length (file_of fs q.file)) q k) ≡ value p
      → p.offset + k ≤ length (file_of fs p.file)
  then_room (value q) p e =
      let r = readable_at_room (length (file_of fs q.file)) q k p e in
      subst (λ (x : Place). p.offset + k ≤ length (file_of fs x.file)) r.0 r.1
  then_room (absent r) p e = let z : ◌≡◌ {A = ℕ} 0 1 = cc in absurd (omega arith)
  then_room (refused j) p e = let z : ◌≡◌ {A = ℕ} 0 1 = cc in absurd (omega arith)

pub readable_room : (m : Image) (va k : ℕ) (p : Place) → readable m va k ≡ value p → p.offset + k ≤ length (file_of m.files p.file)
unfolding readable
readable_room m va k p e = then_room m.files k (lookup (rows m.words) va) p e

-- The same, of an answer of the code.
pub answer_at_room : (w : Result Place Missing) (n : ℕ) (q : Place) (k : ℕ) (p : Place) → outcome w ≡ readable_at n q k → w ≡ Ok p → p.offset + k ≤ n
answer_at_room w n q k p e g = (readable_at_room n q k p (rw (← e, g))).1

-- The file of a place that was found for some bytes is lent, and holds them.
module _ (w : Result Place Missing) (m : Image) (fs : List (Bor (List ℕ))) (ws : List ℕ) (va k : ℕ) (p : Place) (v : image_of (files_lent fs) ws ≡ m)
    (e : outcome w ≡ readable m va k) (g : w ≡ Ok p) (some : 0 < k) where
  found_room : p.offset + k ≤ length (file_of (files_lent fs) p.file)
  found_room = readable_room (image_of (files_lent fs) ws) va k p (rw (v, ← e, g))

  found_number : p.file < length (files_lent fs)
  found_number = lent_by_bytes fs p.file (omega (arith, found_room))

  pub found_lent : p.file < length fs
  found_lent = lent_below fs p.file found_number

  file_found : (d : Bor (List ℕ)) → (get_or fs p.file d).now ≡ file_of (files_lent fs) p.file
  file_found d = file_lent fs p.file d found_number

  pub found_file : (d : Bor (List ℕ)) → (get_or fs p.file d).now ≡ file_of m.files p.file
  found_file d = rw (← v) (file_found d)

  pub found_holds : (d : Bor (List ℕ)) → p.offset + k ≤ length (get_or fs p.file d).now
  found_holds d = rw (file_found d) found_room

-- Numbers of one slice.
module _ (bs : List ℕ) (k offset : ℕ) where
  pub le_inside : offset + k ≤ length bs → le (part bs offset k) ≡ le_in bs k offset
  unfolding le_in choose
  le_inside h = simp (le-leb _ _ h)

  pub le_outside : length bs < offset + k → 0 ≡ le_in bs k offset
  unfolding le_in choose
  le_outside h = simp (lt-leb _ _ h)

-- A number within a part is the one of the whole.
pub le_in_part : (bs : List ℕ) (offset len k i : ℕ) → i + k ≤ len → offset + len ≤ length bs → le_in (part bs offset len) k i ≡ le_in bs k (offset + i)
le_in_part bs offset len k i h l =
    sym (le_inside (part bs offset len) k i (omega (arith, part_length bs offset len l, h)))
    ∙ ap le (part_of_part bs offset len i k h) ∙ le_inside bs k (offset + i) (omega arith)

-- The number at i bytes from a place is the one at the place i bytes on.
pub word_in_on : (files : List (List ℕ)) (k file offset i : ℕ) → word_in files k (place_at file offset) i ≡ word_in files k (place_at file (offset + i)) 0
unfolding word_in
word_in_on files k file offset i = let e : offset + i + 0 ≡ offset + i = omega arith in rw e
