-- What all classes together answer and leave in the buffer, by how many were counted.
use Prim.Native.Nat.{ℕ, ◌+◌, ◌*◌, ◌/◌, ◌≤◌, ◌<◌}
use mathlib.Core.Path.{◌≡◌, sym}
use mathlib.Core.Bool.{true, false}
use mathlib.Core.List.{List}
use native.Mathlib.Omega.{arith}
use lib.Dec.{leb}
use lib.ListN.{length}
use borrow.Author.Tests.{le-leb, lt-leb}
use Rattle.reads.specs.Outcome.{Outcome, value, absent, refused, and_then, choose}
use Rattle.reads.proofs.Outcomes.{then_came}
use Rattle.pointers.specs.Tables.{Tables}
use Rattle.pointers.specs.Question.{question, asked}
use Rattle.ancestry.specs.Ancestry.{ancestry_of, ancestries, fitting, written, written_by, ancestries_left}
use Rattle.ancestry.specs.Filling.{tally}
use Rattle.ancestry.specs.declared.class_chain.Ancestry.{Ancestry}
use Rattle.ancestry.proofs.Chain.{number_value}
use Rattle.reads.specs.declared.answer.Question.{Question}
use Rattle.reads.specs.declared.answer.Question.TheVariants.{AncestryRoom}

module _ (t : Tables) (addresses out : List ℕ) where
  -- A question before says no.
  pub left_refused : (k : Question) → asked t ≡ refused k → written (refused k) out ≡ ancestries_left t addresses out
  unfolding ancestries_left
  left_refused k e = rw e

  module _ (yes : asked t ≡ value tt) where
    -- A lookup was refused.
    pub left_missed : (k : Question) → refused k ≡ tally (ancestry_of t) 0 addresses → written (refused k) out ≡ ancestries_left t addresses out
    unfolding ancestries_left tally
    left_missed k e = rw yes (go (ancestries t addresses) e)
      where
        go : (o : Outcome (List Ancestry)) → refused k ≡ and_then o (λ xs. value (0 + length xs))
            → written (refused k) out ≡ written_by (and_then o (fitting (length out))) out
        go (value xs) f = number_value f
        go (absent r) f = let z : ◌≡◌ {A = ℕ} 0 1 = cc in absurd (omega arith)
        go (refused j) f = let same : k ≡ j = cc in rw same

    module _ (n : ℕ) (e : value n ≡ tally (ancestry_of t) 0 addresses) where
      told : (xs : List Ancestry) × (ancestries t addresses ≡ value xs) × (length xs ≡ n)
      unfolding tally
      told =
          let r = then_came (ancestries t addresses) (λ xs. value (0 + length xs)) n (sym e) in
          (r.0, r.1, size r.0 r.2)
        where
          size : (xs : List Ancestry) → value (0 + length xs) ≡ value n → length xs ≡ n
          size xs f = let g : 0 + length xs ≡ n = cc in omega arith

      -- The buffer is shorter than one record per class.
      pub left_short : length out / 3 < n → written (refused AncestryRoom) out ≡ ancestries_left t addresses out
      unfolding ancestries_left fitting question choose
      left_short h =
          let r = told in
          let short : leb (length r.0 * 3) (length out) ≡ false = lt-leb (length r.0 * 3) (length out) (omega (arith, r.2)) in
          rw (yes, r.1, short)

      pub left_written : n ≤ length out / 3 → (new : List ℕ) → new ≡ (written_by (ancestries t addresses) out).result
          → written (value n) new ≡ ancestries_left t addresses out
      unfolding ancestries_left fitting question choose
      left_written h new f =
          let r = told in
          let room : leb (length r.0 * 3) (length out) ≡ true = le-leb (length r.0 * 3) (length out) (omega (arith, r.2)) in
          let g : new ≡ (written_by (value r.0) out).result = rw r.1 at f in
          rw (yes, r.1, room, g, r.2)
