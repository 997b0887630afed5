-- Crash frames known within a range (document 02, note 11): which listed methods a frame can lie in, and which it must, in the note's own words,
-- over pairs of a frame and a slide and over the list of starts.
use Rattle.std.specs.Prelude.{ℕ, ◌-◌, ◌≤◌, ◌<◌}
use mathlib.Core.List.{List, Memᴰ}
use Rattle.frames.specs.declared.frames.Mark.{Mark}
use Rattle.frames.specs.declared.frames.Mark.TheVariants as mark
use Rattle.frames.specs.declared.frames.Ranges.{Ranges}

-- A possible pair: a frame and a slide of the two ranges, both ends included. Pairs below zero are left out.
pub record Pair (x : Ranges) : Type 0 where
  pub frame : ℕ
  pub slide : ℕ
  pub frame_from : x.first_frame ≤ frame
  pub frame_to : frame ≤ x.last_frame
  pub slide_from : x.first_slide ≤ slide
  pub slide_to : slide ≤ x.last_slide
  pub not_below_zero : slide ≤ frame

-- Its unslid address: frame less slide, in whole numbers.
abbrev pub unslid : {x : Ranges} → Pair x → ℕ
unslid p = p.frame - p.slide

-- A method holds an address: it starts at or before it, with no other listed start after its own up to that address.
pub record Holds (starts : List ℕ) (start address : ℕ) : Type 0 where
  pub before : start ≤ address
  pub no_other : (other : ℕ) → Memᴰ other starts → start < other → other ≤ address → ⊥

-- Marked: it holds the unslid address of some possible pair.
pub record Marked (x : Ranges) (starts : List ℕ) (start : ℕ) : Type 0 where
  pub pair : Pair x
  pub holds : Holds starts start (unslid pair)

-- Certain: it does so for every possible pair, and there is one.
pub record Certain (x : Ranges) (starts : List ℕ) (start : ℕ) : Type 0 where
  pub some : Pair x
  pub holds : (pair : Pair x) → Holds starts start (unslid pair)

-- What the mark of a listed start says.
pub data Says (x : Ranges) (starts : List ℕ) (start : ℕ) : Mark → Type 0 where
  none : (Marked x starts start → ⊥) → Says x starts start mark.Unmarked
  marked : Marked x starts start → (Certain x starts start → ⊥) → Says x starts start mark.Marked
  certain : Certain x starts start → Says x starts start mark.Certain
