-- What a buffer takes of one text and then another, and of a text that it takes whole, not at all, or in part.
use Prim.Native.Nat.{ℕ, zero, suc, ◌+◌, ◌-◌, ◌≤◌, ◌<◌, min}
use mathlib.Core.Path.{◌≡◌, refl, sym, ap, ◌∙◌}
use mathlib.Core.Bool.{Bool, true, false}
use mathlib.Core.List.{List, [], ◌∷◌, ◌++◌, append_assoc, append-nil}
use native.Mathlib.Nat.{zero-sub, sub-zero, suc-sub-suc, add-zero, add_assoc}
use native.Mathlib.Omega.{arith}
use lib.Dec.{leb}
use borrow.Rule.Slice.PartMut.{put_mid}
use lib.ListN.{length, take, drop, length-append, length-take, length-drop}
use lib.Seq.{paste, paste-zero, length-paste, take-take, take-paste, drop-paste, take-append-le, take-append-add, take-length, drop-drop}
use borrow.Author.Tests.{leb-true, leb-false}
use Rattle.std.proofs.lemmas.Slice.{put_mid-paste}
use Rattle.printing.specs.Buffer.{Buffer, held, buffer, fitting, put_all, Puts}
use Rattle.printing.specs.declared.buffer.Out.{Out}

-- What is left of one text and then another without their first n bytes.
pub drop_append : (n : ℕ) (xs ys : List ℕ) → drop n (xs ++ ys) ≡ drop n xs ++ drop (n - length xs) ys
drop_append zero xs ys = rw zero-sub
drop_append (suc n) [] ys = rw sub-zero
drop_append (suc n) (x ∷ xs) ys = rw suc-sub-suc (drop_append n xs ys)

-- A part of the first and a part of the second, where the first is whole or there is none of the second.
take_both : (xs ys : List ℕ) (a b : ℕ) → a ≤ length xs → (a < length xs → b ≡ 0) → take (a + b) (xs ++ ys) ≡ take a xs ++ take b ys
take_both xs ys a b h f = go (leb (length xs) a) refl
  where
    go : (t : Bool) → leb (length xs) a ≡ t → take (a + b) (xs ++ ys) ≡ take a xs ++ take b ys
    go true e =
        let whole : a ≡ length xs = omega (arith, h, leb-true (length xs) a e) in
        rw (whole, take-append-add xs ys b, take-length xs)
    go false e =
        let none : b ≡ 0 = f (leb-false (length xs) a e) in
        rw (none, add-zero, take-append-le a xs ys h, append-nil)

paste_both : (d xs ys : List ℕ) (at a b : ℕ) → at ≤ length d → a ≤ length xs → (a < length xs → b ≡ 0)
    → paste d at (xs ++ ys) (a + b) ≡ paste (paste d at xs a) (at + a) ys b
paste_both d xs ys at a b l h f =
    let front = take-paste d at xs a l h in
    let back : drop (at + a + b) (paste d at xs a) ≡ drop (at + a + b) d =
    sym (drop-drop b (at + a) (paste d at xs a)) ∙ ap (drop b) (drop-paste d at xs a l h) ∙ drop-drop b (at + a) d in
    rw (front, back, take_both xs ys a b h f, ← append_assoc (take at d) (take a xs) (take b ys), ← add_assoc at a b)

held_same : {b d : List ℕ} {k m a c : ℕ} → b ≡ d → k ≡ m → a ≡ c → held b k a ≡ held d m c
held_same e f g = rw (e, f, g)

-- Nothing goes in where all is passed over or there is no room.
pub put_none : (d text : List ℕ) (skip at : ℕ) → fitting (held d skip at) text ≡ 0 → put_all (held d skip at) text ≡ held d (skip - length text) at
unfolding put_all
put_none d text skip at e = rw e (held_same (sym (paste-zero d at (drop skip text))) refl (add-zero at))

no_room : (r n : ℕ) → r ≡ 0 → min r n ≡ 0
no_room r n e = omega arith

pub put_empty : (s : Buffer) → put_all s [] ≡ s
put_empty s = put_none s.bytes [] s.skip s.at (omega arith) ∙ held_same refl (sub-zero s.skip) refl

-- A text as the code puts it: all is passed over, there is no room, or a part goes in.
module _ (d text : List ℕ) (skip at : ℕ) where
  pub put_passed : length text ≤ skip → held d (skip - length text) at ≡ put_all (held d skip at) text
  put_passed h = sym (put_none d text skip at (omega arith))

  pub put_full : skip ≤ length text → length d ≤ at → held d 0 at ≡ put_all (held d skip at) text
  put_full h g = sym (put_none d text skip at (omega arith) ∙ held_same refl (omega arith) refl)

  put_part : (e : List ℕ) (n : ℕ) → skip ≤ length text → n ≡ min (length d - at) (length text - skip)
      → e ≡ paste d at (drop skip text) n → held e 0 (at + n) ≡ put_all (held d skip at) text
  unfolding put_all
  put_part e n h f g = rw (g, f) (held_same refl (omega arith) refl)

  -- The part is copied over those bytes of the buffer.
  pub put_copied : (e : List ℕ) (n : ℕ) → skip ≤ length text → at ≤ length d → n ≡ min (length text - skip) (length d - at)
      → e ≡ take n (take (length text - skip) (drop skip text)) → held (put_mid at (at + n - at) d e) 0 (at + n) ≡ put_all (held d skip at) text
  put_copied e n h g f p =
      let left : List ℕ = drop skip text in
      let short : n ≤ length text - skip = omega arith in
      let copied : e ≡ take n left = p ∙ take-take n (length text - skip) left short in
      let long : n ≡ length (take n left) = simp (length-take, length-drop) (omega arith) in
      put_part (put_mid at (at + n - at) d e) n h (omega arith)
      (put_mid-paste at (at + n - at) d e (take n left) n copied (omega arith) long
      ∙ ap (λ (l : List ℕ). take at d ++ l ++ drop (at + n) d) (take-take n n left (omega arith)))

-- The two numbers and the bytes of a buffer that took a text.
module _ (s : Buffer) (text : List ℕ) (u : Buffer) (e : u ≡ put_all s text) where
  pub put_at : u.at ≡ s.at + fitting s text
  unfolding put_all
  put_at = ap (λ (b : Buffer). b.at) e

  pub put_bytes : u.bytes ≡ paste s.bytes s.at (drop s.skip text) (fitting s text)
  unfolding put_all
  put_bytes = ap (λ (b : Buffer). b.bytes) e

-- What is left of two lengths, and what of them goes into a room.
both_left : (x y skip : ℕ) → x + y - skip ≡ x - skip + (y - (skip - x))
both_left x y skip = omega arith

both_fit : (room p q : ℕ) → min room (p + q) ≡ min room p + min (room - min room p) q
both_fit room p q = omega arith

cut_first : (room p q : ℕ) → min room p < p → min (room - min room p) q ≡ 0
cut_first room p q h = omega arith

module _ (d xs ys : List ℕ) (skip at : ℕ) where
  abbrev left : List ℕ
  left = drop skip xs

  abbrev then : List ℕ
  then = drop (skip - length xs) ys

  abbrev first : ℕ
  first = min (length d - at) (length xs - skip)

  abbrev second : ℕ
  second = min (length d - (at + first)) (length ys - (skip - length xs))

  room_then : length d - (at + first) ≡ length d - at - first
  room_then = omega arith

  all : min (length d - at) (length (xs ++ ys) - skip) ≡ first + second
  all =
      rw (length-append xs ys, both_left (length xs) (length ys) skip, room_then) (both_fit (length d - at) (length xs - skip) (length ys - (skip - length xs)))

  abbrev pasted : List ℕ
  pasted = paste d at left first

  put_then_held : at ≤ length d → put_all (held d skip at) (xs ++ ys) ≡ put_all (put_all (held d skip at) xs) ys
  unfolding put_all
  put_then_held h =
      let few : first ≤ length left = simp length-drop (omega arith) in
      let long : length pasted ≡ length d = length-paste d at left first (omega arith) few in
      let whole : first < length left → second ≡ 0 =
      λ less. rw room_then (cut_first (length d - at) (length xs - skip) (length ys - (skip - length xs)) (rw (length-drop skip xs) at less)) in
      rw (long, all, drop_append skip xs ys)
      (held_same (paste_both d left then at first second h few whole) (simp length-append (omega arith)) (sym (add_assoc at first second)))

  put_then_full : length d < at → put_all (held d skip at) (xs ++ ys) ≡ put_all (put_all (held d skip at) xs) ys
  put_then_full h =
      let none : length d - at ≡ 0 = omega arith in
      rw (
        put_none d (xs ++ ys) skip at (no_room _ _ none),
        put_none d xs skip at (no_room _ _ none),
        put_none d ys (skip - length xs) at (no_room _ _ none),
        length-append xs ys,
      )
      (held_same refl (omega arith) refl)

pub put_then : (s : Buffer) (xs ys : List ℕ) → put_all s (xs ++ ys) ≡ put_all (put_all s xs) ys
put_then s xs ys = go (leb s.at (length s.bytes)) refl
  where
    go : (t : Bool) → leb s.at (length s.bytes) ≡ t → put_all s (xs ++ ys) ≡ put_all (put_all s xs) ys
    go true e = put_then_held s.bytes xs ys s.skip s.at (leb-true s.at (length s.bytes) e)
    go false e = put_then_full s.bytes xs ys s.skip s.at (leb-false s.at (length s.bytes) e)

-- One text and then another, no text, and a text said otherwise.
pub puts_then : {o p q : Out} {xs ys : List ℕ} → Puts o xs p → Puts p ys q → Puts o (xs ++ ys) q
puts_then {o} {xs = xs} {ys} e f =
    record { same = f.same ∙ e.same; put = f.put ∙ ap (λ (v : Buffer). put_all v ys) e.put ∙ sym (put_then (buffer o) xs ys) }

pub puts_nothing : (o : Out) → Puts o [] o
puts_nothing o = record { same = refl; put = sym (put_empty (buffer o)) }

pub puts_same : {o p : Out} {xs ys : List ℕ} → xs ≡ ys → Puts o xs p → Puts o ys p
puts_same e f = rw (← e) f
