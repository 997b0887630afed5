-- A buffer that is filled, step by step: its front and what is still to come are the text that was to come at the start.
use Prim.Native.Nat.{ℕ, ◌+◌, ◌-◌, ◌≤◌, ◌<◌, min}
use mathlib.Core.Path.{◌≡◌, refl, sym, ap, ◌∙◌, subst}
use mathlib.Core.Bool.{true, false}
use mathlib.Core.List.{List, [], ◌++◌, append_assoc, append-nil}
use native.Mathlib.Nat.{le_of_lt}
use native.Mathlib.Omega.{arith}
use lib.ListN.{length, take, drop, length-drop, take-append-drop}
use lib.Seq.{paste, take-paste, drop-paste, length-paste, drop-drop, length-take-le, take-append-le, take-append-add, take-length, take-nil}
use borrow.Author.Tests.{le-leb, lt-leb}
use Rattle.reads.proofs.Tests.{choose_true, choose_false}
use Rattle.pointers.specs.Tables.{Tables}
use Rattle.listing.specs.ListingAnswer.{said_of}
use Rattle.listing.proofs.Remaining.{goes_on}
use Rattle.printing.specs.Pieces.{said_text, if_on, Standing, stepped, moved, waiting, to_come, past, Handed, handing, piece_of, standing_of, handed_of, fits, further}
use Rattle.printing.specs.declared.pieces.Piece.{Piece}
use Rattle.printing.specs.declared.pieces.Progress.{Progress}
use Rattle.printing.proofs.Comes.{Sound, left_in, on_yes, on_no, sound_step, step_less, come_step, past_step, come_past}

pub record Filling (t : Tables) (p₀ : Standing) (out₀ : List ℕ) (p : Standing) (out : List ℕ) (at : ℕ) : Type 0 where
  pub within : at ≤ length out₀
  pub size : length out ≡ length out₀
  pub sound : Sound p
  pub front : take at out ++ take (length out₀ - at) (to_come t p) ≡ take (length out₀) (to_come t p₀)
  pub back : drop at out ≡ drop at out₀
  pub place : past t p (length out₀ - at) ≡ past t p₀ (length out₀)

pub filling_start : (t : Tables) (p : Standing) (out : List ℕ) → Sound p → Filling t p out p out 0
filling_start t p out h =
    let n : length out - 0 ≡ length out = omega arith in
    record { within = omega arith; size = refl; sound = h; front = rw n; back = refl; place = rw n }

module _ (t : Tables) (p₀ : Standing) (out₀ : List ℕ) (p : Standing) (out : List ℕ) (at : ℕ) (f : Filling t p₀ out₀ p out at) (k : ℕ)
    (count : k ≡ min (length out₀ - at) (length (waiting t p))) (new : List ℕ) (e : new ≡ paste out at (waiting t p) k) where
  at_most : at ≤ length out
  at_most = omega (arith, f.within, f.size)

  few : k ≤ length (waiting t p)
  few = omega (arith, count)

  new_front : take (at + k) new ≡ take at out ++ take k (waiting t p)
  new_front = rw e (take-paste out at (waiting t p) k at_most few)

  new_back : drop (at + k) new ≡ drop (at + k) out₀
  new_back =
      ap (drop (at + k)) e ∙ drop-paste out at (waiting t p) k at_most few ∙ sym (drop-drop k at out) ∙ ap (drop k) f.back ∙ drop-drop k at out₀

  new_size : length new ≡ length out₀
  new_size = ap length e ∙ length-paste out at (waiting t p) k (omega (arith, count, f.within, f.size)) few ∙ f.size

  -- Nothing more goes in: the piece is whole.
  module _ (rest : take (length out₀ - at) (to_come t p) ≡ take k (waiting t p)) (stands : past t p (length out₀ - at) ≡ moved p k) where
    text : take (length out₀) (to_come t p₀) ≡ take (at + k) new
    text = sym f.front ∙ ap (λ (ys : List ℕ). take at out ++ ys) rest ∙ sym new_front

    taken : length (take (at + k) new) ≡ at + k
    taken = length-take-le (at + k) new (omega (arith, new_size, count, f.within))

    whole : handing (moved p k) (at + k) new ≡ piece_of t p₀ (length out₀) out₀
    unfolding piece_of
    whole =
        rw (text, taken, sym f.place ∙ stands, ← new_back)
        (ap (handing (moved p k) (at + k)) (sym (take-append-drop (at + k) new)))

  pub filling_full : length out₀ ≤ at + k → handing (moved p k) (at + k) new ≡ piece_of t p₀ (length out₀) out₀
  filling_full l =
      let all : k ≡ length out₀ - at = omega (arith, count, f.within) in
      whole
      (rw (← all, come_step t p f.sound) (take-append-le k (waiting t p) (if_on p.said (to_come t (stepped t p)) []) few))
      (rw (← all) (past_step t p k f.sound ∙ choose_true _ _ (le-leb k (length (waiting t p)) few)))

  module _ (l : at + k < length out₀) where
    all_out : k ≡ length (waiting t p)
    all_out = omega (arith, count)

    cut : past t p (length out₀ - at)
        ≡ if_on p.said (past t (stepped t p) (length out₀ - at - k)) (moved p k)
    cut =
        past_step t p (length out₀ - at) f.sound
        ∙ choose_false _ _ (lt-leb (length out₀ - at) (length (waiting t p)) (omega (arith, all_out)))
        ∙ rw (← all_out)

    -- What comes after what waits, in the room that is left.
    later : (rest : List ℕ) → take (length out₀ - at) (waiting t p ++ rest) ≡ take k (waiting t p) ++ take (length out₀ - (at + k)) rest
    later rest =
        let room : length out₀ - at ≡ length (waiting t p) + (length out₀ - (at + k)) = omega (arith, all_out) in
        rw (room, take-append-add (waiting t p) rest (length out₀ - (at + k)), all_out, take-length (waiting t p))

    pub filling_over : goes_on p.said ≡ false → handing (moved p k) (at + k) new ≡ piece_of t p₀ (length out₀) out₀
    filling_over g =
        whole
        (ap (take (length out₀ - at)) (come_step t p f.sound ∙ ap (λ (ys : List ℕ). waiting t p ++ ys) (on_no p.said (to_come t (stepped t p)) [] g))
        ∙ later []
        ∙ ap (λ (ys : List ℕ). take k (waiting t p) ++ ys) (take-nil (length out₀ - (at + k)))
        ∙ append-nil (take k (waiting t p)))
        (cut ∙ on_no p.said (past t (stepped t p) (length out₀ - at - k)) (moved p k) g)

    pub filling_on : goes_on p.said ≡ true → Filling t p₀ out₀ (stepped t p) new (at + k)
    filling_on g =
        let room : length out₀ - at - k ≡ length out₀ - (at + k) = omega arith in
        record {
          within = le_of_lt l;
          size = new_size;
          sound = sound_step t p f.sound g;
          front =
              ap (λ (ys : List ℕ). ys ++ take (length out₀ - (at + k)) (to_come t (stepped t p))) new_front
              ∙ append_assoc (take at out) (take k (waiting t p)) (take (length out₀ - (at + k)) (to_come t (stepped t p)))
              ∙ ap (λ (ys : List ℕ). take at out ++ ys)
              (sym (later (to_come t (stepped t p)))
              ∙ ap (take (length out₀ - at))
              (ap (λ (ys : List ℕ). waiting t p ++ ys) (sym (on_yes p.said (to_come t (stepped t p)) [] g)) ∙ sym (come_step t p f.sound)))
              ∙ f.front;
          back = new_back;
          place =
              ap (past t (stepped t p)) (sym room)
              ∙ sym (on_yes p.said (past t (stepped t p) (length out₀ - at - k)) (moved p k) g)
              ∙ sym cut
              ∙ f.place;
        }

-- The same of the code's progress, with a ledger: r is what was handed out of it.
module _ (t : Tables) (p₀ : Standing) (out₀ : List ℕ) (p : Progress) (l : List ℕ) (out : List ℕ) (at : ℕ)
    (f : Filling t p₀ out₀ (standing_of p l) out at) (r : Piece) (e : r ≡ further p at (fits t.files p out at)) (new : List ℕ)
    (g : new ≡ paste out at (waiting t (standing_of p l)) (fits t.files p out at)) where
  count : fits t.files p out at ≡ min (length out₀ - at) (length (waiting t (standing_of p l)))
  count = rw (length-drop p.out (said_text t.files (said_of p.said)), f.size)

  new_length : length new ≡ length out₀
  new_length = new_size t p₀ out₀ (standing_of p l) out at f _ count new g

  pub piece_full : length new ≤ r.len → handed_of r l new ≡ piece_of t p₀ (length out₀) out₀
  piece_full h = rw e (filling_full t p₀ out₀ (standing_of p l) out at f _ count new g (rw (new_length, e) at h))

  module _ (h : r.len < length new) where
    pub piece_over : goes_on (said_of r.progress.said) ≡ false → handed_of r l new ≡ piece_of t p₀ (length out₀) out₀
    piece_over over = rw e (filling_over t p₀ out₀ (standing_of p l) out at f _ count new g (rw (new_length, e) at h) (rw e at over))

    module _ (on : goes_on (said_of r.progress.said) ≡ true) (q : Progress) (m : List ℕ)
        (s : standing_of q m ≡ stepped t (standing_of r.progress l)) where
      same : standing_of q m ≡ stepped t (standing_of p l)
      same = rw e at s

      pub piece_on : Filling t p₀ out₀ (standing_of q m) new r.len
      piece_on = rw (same, e) (filling_on t p₀ out₀ (standing_of p l) out at f _ count new g (rw (new_length, e) at h) (rw e at on))

      pub piece_less : left_in (standing_of q m) < left_in (standing_of p l)
      piece_less =
          subst (λ (x : Standing). left_in x < left_in (standing_of p l)) (sym same) (step_less t (standing_of p l) f.sound (rw e at on))

-- What comes after a piece is the rest.
pub piece_rest : (t : Tables) (p : Standing) (n : ℕ) (old : List ℕ) (r : Piece) (l new : List ℕ) → Sound p
    → handed_of r l new ≡ piece_of t p n old → to_come t (standing_of r.progress l) ≡ drop n (to_come t p)
unfolding piece_of
piece_rest t p n old r l new h e = ap (λ (x : Handed). to_come t x.standing) e ∙ come_past t p n h
