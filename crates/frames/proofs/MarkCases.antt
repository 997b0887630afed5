-- Worked marks. The ends are the first and last frame, then the first and last slide.
use Prim.Native.Nat.{ℕ, ◌-◌, ◌^◌}
use mathlib.Core.Path.{◌≡◌, refl}
use mathlib.Core.List.{List, [], ◌∷◌, map}
use Rattle.reads.specs.Outcome.{Outcome, value, absent, refused, choose}
use Rattle.std.specs.Prelude.{Option, Some}
use Rattle.frames.specs.Marks.{raised, addresses, in_order, frames_of, met_in, met_all, mark_in, mark_of, mark_number}
use Rattle.frames.specs.declared.frames.Frames.{Frames}
use Rattle.frames.specs.declared.frames.Ranges.{Ranges}
use Rattle.reads.specs.declared.answer.Question.TheVariants.{RangeOrder}

abbrev ranges : ℕ → ℕ → ℕ → ℕ → Ranges
ranges f₀ f₁ s₀ s₁ = record { first_frame = f₀; last_frame = f₁; first_slide = s₀; last_slide = s₁ }

-- The marks of all starts, as numbers, met in their order; or the number.
abbrev marks_in : Outcome (Option Frames) → List ℕ → Outcome (List ℕ)
marks_in (value w) starts = value (map (λ a. mark_number (mark_of (met_all w starts) a)) starts)
marks_in (absent r) starts = absent r
marks_in (refused k) starts = refused k

abbrev marks : Ranges → List ℕ → Outcome (List ℕ)
marks x starts = marks_in (frames_of (Some x)) starts

abbrev starts : List ℕ
starts = 0x20 ∷ 0x10 ∷ 0x30 ∷ 0x20 ∷ []

-- ◆ All four ends 0: the one possible address is 0, before the listed start.
pub hub_mark : marks (ranges 0 0 0 0) (0x2000 ∷ []) ≡ value (0 ∷ [])
unfolding frames_of in_order addresses met_in raised mark_in choose
hub_mark = refl

-- A start at 0 counts.
pub start_at_zero : marks (ranges 0 0 0 0) (0x2000 ∷ 0 ∷ []) ≡ value (0 ∷ 2 ∷ [])
unfolding frames_of in_order addresses met_in raised mark_in choose
start_at_zero = refl

-- 0x20 to 0x2F: one start is certain, and its equal is marked alike.
pub certain_and_equal : marks (ranges 0x120 0x12F 0x100 0x100) starts ≡ value (2 ∷ 0 ∷ 0 ∷ 2 ∷ [])
unfolding frames_of in_order addresses met_in raised mark_in choose
certain_and_equal = refl

-- 0x1F to 0x30, both ends included: each holds some address, none all.
pub each_at_some : marks (ranges 0x120 0x130 0x100 0x101) starts ≡ value (1 ∷ 1 ∷ 1 ∷ 1 ∷ [])
unfolding frames_of in_order addresses met_in raised mark_in choose
each_at_some = refl

-- 0x18 to 0x28: the start before the lowest address is not certain, since another lies before the highest.
pub start_between : marks (ranges 0x118 0x128 0x100 0x100) starts ≡ value (1 ∷ 1 ∷ 0 ∷ 1 ∷ [])
unfolding frames_of in_order addresses met_in raised mark_in choose
start_between = refl

-- 0x08 to 0x40. Slides paired with frames, first with first and last with last, would leave 0x20 to 0x28, and 0x20 certain.
pub slides_not_paired : marks (ranges 0x108 0x128 0xE8 0x100) starts ≡ value (1 ∷ 1 ∷ 1 ∷ 1 ∷ [])
unfolding frames_of in_order addresses met_in raised mark_in choose
slides_not_paired = refl

-- 0x08 to 0x0F: no start lies before.
pub none_before : marks (ranges 0x108 0x10F 0x100 0x100) starts ≡ value (0 ∷ 0 ∷ 0 ∷ 0 ∷ [])
unfolding frames_of in_order addresses met_in raised mark_in choose
none_before = refl

-- Pairs below zero are left out: 0 to 0x11 are possible, though most slides exceed every frame.
pub partly_below_zero : marks (ranges 0x100 0x111 0x100 0x2000) (0 ∷ starts) ≡ value (1 ∷ 0 ∷ 1 ∷ 0 ∷ 0 ∷ [])
unfolding frames_of in_order addresses met_in raised mark_in choose
partly_below_zero = refl

-- The same up to 0x0F: a start at 0 is certain.
pub certain_of_the_rest : marks (ranges 0x100 0x10F 0x100 0x2000) (0 ∷ starts) ≡ value (2 ∷ 0 ∷ 0 ∷ 0 ∷ 0 ∷ [])
unfolding frames_of in_order addresses met_in raised mark_in choose
certain_of_the_rest = refl

-- Every pair below zero: nothing is marked.
pub no_pair : marks (ranges 0x10 0x20 0x21 0x30) (0 ∷ starts) ≡ value (0 ∷ 0 ∷ 0 ∷ 0 ∷ 0 ∷ [])
unfolding frames_of in_order addresses met_in raised mark_in choose
no_pair = refl

-- The widest ranges.
pub widest : marks (ranges 0 (2 ^ 64 - 1) 0 (2 ^ 64 - 1)) ((2 ^ 64 - 1) ∷ 0 ∷ []) ≡ value (1 ∷ 1 ∷ [])
unfolding frames_of in_order addresses met_in raised mark_in choose
widest = refl

-- 23, of either range.
pub frames_refused : marks (ranges 2 1 0 0) starts ≡ refused RangeOrder
unfolding frames_of in_order choose
frames_refused = refl

pub slides_refused : marks (ranges 0 9 2 1) starts ≡ refused RangeOrder
unfolding frames_of in_order choose
slides_refused = refl
