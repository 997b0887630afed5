-- 23 after opening's questions and before its writes: opening is told what 23 says, and asks it last.
use Prim.Native.Nat.{ℕ}
use mathlib.Core.Path.{◌≡◌, ap, ◌∙◌}
use mathlib.Core.List.{List}
use Rattle.reads.specs.Outcome.{Outcome, value, refused}
use Rattle.reads.proofs.Outcomes.{then_then, then_came}
use Rattle.pointers.specs.ImageInfo.{image_info}
use Rattle.pointers.specs.Open.{asked_opening, opening, opening_unless, opened_index}
use Rattle.pointers.specs.Tables.{Tables}
use Rattle.pointers.specs.declared.imageinfo.ImageInfo.{ImageInfo}
use Rattle.frames.specs.Marks.{frames_of}
use Rattle.std.specs.Prelude.{Option, None}
use Rattle.frames.specs.declared.frames.Frames.{Frames}
use Rattle.frames.specs.declared.frames.Ranges.{Ranges}
use Rattle.marking.specs.Framed.{with_frames, framed_opening, framed_index}
use Rattle.marking.specs.declared.framed.Framed.{Framed}
use Rattle.reads.specs.declared.answer.Question.{Question}

-- By what 23 says of the ranges.
module _ (x : Option Ranges) (t : Tables) where
  pub framed_accepted : (w : Option Frames) → frames_of x ≡ value w → with_frames w (opening t) ≡ framed_opening x t
  unfolding opening framed_opening
  framed_accepted w e = rw e (then_then (asked_opening t) (λ _. image_info t.info) (λ info. value (record { info = info; frames = w })))

  pub unless_accepted : (w : Option Frames) → frames_of x ≡ value w → with_frames w (opening_unless (value tt) t) ≡ framed_opening x t
  unfolding opening
  unless_accepted = framed_accepted

  pub framed_refused : (k : Question) → frames_of x ≡ refused k → with_frames None (opening_unless (refused k) t) ≡ framed_opening x t
  unfolding framed_opening
  framed_refused k e = rw e (then_then (asked_opening t) (λ _. refused k) (λ info. value (record { info = info; frames = None })))

  pub index_accepted : (w : Option Frames) → frames_of x ≡ value w → opened_index t ≡ framed_index x t
  unfolding framed_index
  index_accepted w e = rw e

  pub index_refused : (k : Question) → frames_of x ≡ refused k → t.index ≡ framed_index x t
  unfolding framed_index
  index_refused k e = rw e

  -- The call, by what it made of opening's answer.
  pub opens_framed : (w : Option Frames) → frames_of x ≡ value w → (o : Outcome ImageInfo) (r : Outcome Framed) (i : List ℕ) → r ≡ with_frames w o
      → ((o ≡ opening t) × (i ≡ opened_index t)) → ((r ≡ framed_opening x t) × (i ≡ framed_index x t))
  opens_framed w g o r i e h = (e ∙ ap (with_frames w) h.0 ∙ framed_accepted w g, h.1 ∙ index_accepted w g)

  pub opens_refused : (k : Question) → frames_of x ≡ refused k → (o : Outcome ImageInfo) (r : Outcome Framed) (i : List ℕ) → r ≡ with_frames None o
      → ((o ≡ opening_unless (refused k) t) × (i ≡ t.index)) → ((r ≡ framed_opening x t) × (i ≡ framed_index x t))
  opens_refused k g o r i e h = (e ∙ ap (with_frames None) h.0 ∙ framed_refused k g, h.1 ∙ index_refused k g)

-- What opening and 23 gave.
pub record Given (x : Option Ranges) (t : Tables) (f : Framed) : Type 0 where
  pub frames : frames_of x ≡ value f.frames
  pub info : opening t ≡ value f.info

pub framed_given : (x : Option Ranges) (t : Tables) (f : Framed) → framed_opening x t ≡ value f → Given x t f
unfolding framed_opening opening
framed_given x t f e =
    let asked = then_came (asked_opening t) _ f e in
    let ranged = then_came (frames_of x) _ f asked.2 in
    let parsed = then_came (image_info t.info) _ f ranged.2 in
    let same : record { info = parsed.0; frames = ranged.0 } ≡ f = cc in
    record {
      frames = ranged.1 ∙ ap (λ (g : Framed). value g.frames) same;
      info = rw asked.1 (parsed.1 ∙ ap (λ (g : Framed). value g.info) same);
    }
