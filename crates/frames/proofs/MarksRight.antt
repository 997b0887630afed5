-- marks_right. The mark computed from the lowest and highest possible address and their floors says what the note says of pairs and starts.
use Prim.Native.Nat.{ℕ, ◌+◌, ◌-◌, ◌≤◌, ◌<◌}
use mathlib.Core.Path.{◌≡◌, refl}
use mathlib.Core.Bool.{Bool, true, false}
use mathlib.Core.List.{List, Memᴰ}
use native.Mathlib.Omega.{arith}
use lib.Dec.{leb}
use borrow.Author.Tests.{leb-true, leb-false, ltb-true, ltb-false, eqb-true, eqb-false}
use Rattle.reads.specs.Outcome.{value, refused, choose}
use Rattle.reads.proofs.Tests.{by_choose, both_true}
use Rattle.frames.specs.Frames.{Pair, unslid, Says, none, marked, certain}
use Rattle.std.specs.Prelude.{Option, None, Some}
use Rattle.frames.specs.Marks.{is_at, any_pair, lowest, highest, addresses, in_order, frames_of, met_all, mark_in, mark_of}
use Rattle.frames.specs.declared.frames.Frames.{Frames}
use Rattle.frames.specs.declared.frames.Mark.{Mark}
use Rattle.frames.specs.declared.frames.Mark.TheVariants.{Unmarked, Marked, Certain}
use Rattle.frames.specs.declared.frames.Ranges.{Ranges}
use Rattle.frames.proofs.Floors.{Greatest, IsFloor, floor_of_all, met_each, none_met}
use Rattle.reads.specs.declared.answer.Question.TheVariants.{RangeOrder}

-- A listed start at or before a limit is its floor, or another one lies after it.
module _ (starts : List ℕ) (limit : ℕ) where
  record Other (a : ℕ) : Type 0 where
    start : ℕ
    member : Memᴰ start starts
    after : a < start
    within : start ≤ limit

  at_floor : (f : Option ℕ) → IsFloor starts limit f → (a : ℕ) → is_at f a ≡ true → Greatest starts limit a
  at_floor None l a e = let z : ◌≡◌ {A = ℕ} 0 1 = cc in absurd (omega arith)
  at_floor (Some b) l a e = rw (eqb-true b a e) at l

  below_floor : (f : Option ℕ) → IsFloor starts limit f → (a : ℕ) → Memᴰ a starts → a ≤ limit → is_at f a ≡ false → Other a
  below_floor None l a m h e = absurd (omega (arith, l a m))
  below_floor (Some b) l a m h e =
      let differs = eqb-false b a e in
      let most = l.greatest a m h in
      record { start = b; member = l.member; after = omega arith; within = l.within }

module _ (x : Ranges) (frames_in_order : x.first_frame ≤ x.last_frame) (slides_in_order : x.first_slide ≤ x.last_slide) where
  -- The possible addresses are exactly those from the lowest to the highest.
  from_lowest : (p : Pair x) → lowest x ≤ unslid p
  from_lowest p = omega arith

  to_highest : (p : Pair x) → unslid p ≤ highest x
  to_highest p = omega arith

  record PairAt (u : ℕ) : Type 0 where
    pair : Pair x
    is : unslid pair ≡ u

  -- With the first slide, or, where that frame would lie before the first, with the first frame.
  pair_at : x.first_slide ≤ x.last_frame → (u : ℕ) → lowest x ≤ u → u ≤ highest x → PairAt u
  pair_at any u from to = go (leb x.first_frame (u + x.first_slide)) refl
    where
      go : (t : Bool) → leb x.first_frame (u + x.first_slide) ≡ t → PairAt u
      go true e =
          let h = leb-true x.first_frame (u + x.first_slide) e in
          record {
            pair =
                record {
                  frame = u + x.first_slide;
                  slide = x.first_slide;
                  frame_from = omega arith;
                  frame_to = omega arith;
                  slide_from = omega arith;
                  slide_to = omega arith;
                  not_below_zero = omega arith;
                };
            is = omega arith;
          }
      go false e =
          let h = leb-false x.first_frame (u + x.first_slide) e in
          record {
            pair =
                record {
                  frame = x.first_frame;
                  slide = x.first_frame - u;
                  frame_from = omega arith;
                  frame_to = omega arith;
                  slide_from = omega arith;
                  slide_to = omega arith;
                  not_below_zero = omega arith;
                };
            is = omega arith;
          }

  module _ (starts : List ℕ) (a : ℕ) where
    -- Every pair is below zero.
    says_no_pair : x.last_frame < x.first_slide → Says x starts a Unmarked
    says_no_pair h = none (λ k. let p = k.pair in omega arith)

    -- It starts after the highest address.
    says_past : highest x < a → Says x starts a Unmarked
    says_past h = none (λ k. let q = k.holds.before in let r = to_highest k.pair in omega arith)

    module _ (any : x.first_slide ≤ x.last_frame) where
      at_lowest : PairAt (lowest x)
      at_lowest = pair_at any (lowest x) (omega arith) (omega arith)

      at_highest : PairAt (highest x)
      at_highest = pair_at any (highest x) (omega arith) (omega arith)

      -- It starts after the lowest address: it holds its own, and not the lowest.
      says_between : a ≤ highest x → lowest x < a → Says x starts a Marked
      says_between h l =
          let own = pair_at any a (omega arith) h in
          let first = at_lowest in
          marked (record { pair = own.pair; holds = rw own.is (record { before = omega arith; no_other = λ b n u v. omega arith }) })
          (λ k. let q = (k.holds first.pair).before in let e = first.is in omega arith)

      module _ (l : a ≤ lowest x) where
        -- No other start up to the highest address, so none up to any.
        says_certain : Greatest starts (highest x) a → Says x starts a Certain
        says_certain g =
            certain
            (record {
              some = at_lowest.pair;
              holds =
                  λ p.
                  let from = from_lowest p in
                  let to = to_highest p in
                  record { before = omega arith; no_other = λ b n u v. omega (arith, g.greatest b n (omega arith)) };
            })

        -- No other start up to the lowest address, and one up to the highest.
        says_first : Greatest starts (lowest x) a → Other starts (highest x) a → Says x starts a Marked
        says_first g o =
            let first = at_lowest in
            let last = at_highest in
            marked
            (record {
              pair = first.pair;
              holds = rw first.is (record { before = l; no_other = λ b n u v. omega (arith, g.greatest b n v) });
            })
            (λ k. (k.holds last.pair).no_other o.start o.member o.after (rw last.is o.within))

        -- Another start up to the lowest address, so up to every one.
        says_passed : Other starts (lowest x) a → Says x starts a Unmarked
        says_passed o =
            none (λ k. let from = from_lowest k.pair in k.holds.no_other o.start o.member o.after (omega (arith, o.within)))

    abbrev frames_at : Option ℕ → Option ℕ → Frames
    frames_at f g = record { low = lowest x; high = highest x; low_floor = f; high_floor = g }

    says_mark : x.first_slide ≤ x.last_frame → Memᴰ a starts → (f g : Option ℕ) → IsFloor starts (lowest x) f → IsFloor starts (highest x) g
        → Says x starts a (mark_in (frames_at f g) a)
    unfolding mark_in
    says_mark any m f g p q =
        by_choose (Says x starts a) (λ past. says_past (ltb-true (highest x) a past))
        (λ not_past.
        let h = ltb-false (highest x) a not_past in
        by_choose (Says x starts a) (λ between. says_between any h (ltb-true (lowest x) a between))
        (λ not_between.
        let l = ltb-false (lowest x) a not_between in
        by_choose (Says x starts a) (λ at_highest. says_certain any l (at_floor starts (highest x) g q a at_highest))
        (λ not_at_highest.
        by_choose (Says x starts a)
        (λ at_lowest. says_first any l (at_floor starts (lowest x) f p a at_lowest) (below_floor starts (highest x) g q a m h not_at_highest))
        (λ not_at_lowest. says_passed any l (below_floor starts (lowest x) f p a m l not_at_lowest)))))

    says_met : Memᴰ a starts → Says x starts a (mark_of (met_all (addresses x) starts) a)
    unfolding addresses choose
    says_met m = go (any_pair x) refl
      where
        go : (t : Bool) → any_pair x ≡ t
            → Says x starts a (mark_of (met_all (choose t (Some (frames_at None None)) None) starts) a)
        go true e =
            rw (met_each (frames_at None None) starts)
            (says_mark (leb-true x.first_slide x.last_frame e) m _ _ (floor_of_all (lowest x) starts) (floor_of_all (highest x) starts))
        go false e = rw (none_met starts) (says_no_pair (leb-false x.first_slide x.last_frame e))

-- Where no ranges are given, nothing is marked.
pub none_marked : (w : Option Frames) → frames_of None ≡ value w → (starts : List ℕ) (a : ℕ) → mark_of (met_all w starts) a ≡ Unmarked
unfolding frames_of
none_marked w e starts a = let same : None ≡ w = cc in rw (← same, none_met starts) refl

-- Ranges that 23 does not refuse are in order.
module _ (x : Ranges) (w : Option Frames) where
  pub record Accepted : Type 0 where
    pub frames_in_order : x.first_frame ≤ x.last_frame
    pub slides_in_order : x.first_slide ≤ x.last_slide
    pub is : w ≡ addresses x

  pub accepted : frames_of (Some x) ≡ value w → Accepted
  unfolding frames_of in_order choose
  accepted e = go (in_order x) refl e
    where
      go : (t : Bool) → in_order x ≡ t → choose t (value (addresses x)) (refused RangeOrder) ≡ value w → Accepted
      go true h e =
          let both = both_true (leb x.first_frame x.last_frame) (leb x.first_slide x.last_slide) h in
          record {
            frames_in_order = leb-true x.first_frame x.last_frame both.0;
            slides_in_order = leb-true x.first_slide x.last_slide both.1;
            is = cc;
          }
      go false h e = let z : ◌≡◌ {A = ℕ} 0 1 = cc in absurd (omega arith)

-- The mark of a listed start, after every listed start was met, in whatever order: `Unmarked` iff it is not marked, `Certain` iff it is certain.
pub marks_right : (x : Ranges) (w : Option Frames) → frames_of (Some x) ≡ value w → (starts : List ℕ) (a : ℕ) → Memᴰ a starts
    → Says x starts a (mark_of (met_all w starts) a)
marks_right x w e starts a m =
    let ok = accepted x w e in
    rw ok.is (says_met x ok.frames_in_order ok.slides_in_order starts a m)

-- One mark alone says what is so.
pub says_one : {x : Ranges} {starts : List ℕ} {a : ℕ} {m n : Mark} → Says x starts a m → Says x starts a n → m ≡ n
says_one (none p) (none q) = refl
says_one (none p) (marked q r) = absurd (p q)
says_one (none p) (certain q) = absurd (p (record { pair = q.some; holds = q.holds q.some }))
says_one (marked p r) (none q) = absurd (q p)
says_one (marked p r) (marked q s) = refl
says_one (marked p r) (certain q) = absurd (r q)
says_one (certain p) (none q) = absurd (q (record { pair = p.some; holds = p.holds p.some }))
says_one (certain p) (marked q r) = absurd (r p)
says_one (certain p) (certain q) = refl
