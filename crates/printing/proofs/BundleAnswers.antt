-- What the calls over a bundle answer and leave, by what question BundleLength answered.
use Prim.Native.Nat.{ℕ, ◌-◌, min}
use mathlib.Core.Path.{◌≡◌, refl, sym, ap, ◌∙◌}
use mathlib.Core.Bool.{Bool, true, false}
use mathlib.Core.List.{List, [], ◌∷◌}
use native.Mathlib.Nat.{le_of_lt}
use native.Mathlib.Omega.{arith}
use lib.Dec.{leb}
use lib.ListN.{length, take, drop}
use lib.Seq.{take_all, take-length}
use borrow.Author.Tests.{leb-true, leb-false}
use Rattle.reads.specs.Answer.{answered}
use Rattle.reads.specs.Outcome.{Outcome, value, refused}
use Rattle.reads.specs.declared.answer.Question.{Question}
use Rattle.pointers.specs.Tables.{Tables, tables_of}
use Rattle.listing.specs.Bundle.{bundle_counts}
use Rattle.listing.specs.declared.bundle.Counts.{Counts}
use Rattle.printing.specs.BundleLent.{words_by, opening_by, index_by, tables_by}
use Rattle.printing.specs.Pieces.{Standing, to_come, Handed, piece_of}
use Rattle.std.specs.Prelude.{Result, Ok, Err}

-- As many bytes as there are, at most n.
pub first_bytes : (input : List ℕ) (n m : ℕ) → m ≡ min n (length input) → take (m - 0) (drop 0 input) ≡ take n input
first_bytes input n m e =
    let f : m - 0 ≡ min n (length input) = omega arith in rw f (go (leb n (length input)) refl)
  where
    go : (t : Bool) → leb n (length input) ≡ t → take (min n (length input)) input ≡ take n input
    go true g = let h : min n (length input) ≡ n = omega (arith, leb-true n (length input) g) in rw h
    go false g =
        let less = leb-false n (length input) g in
        let h : min n (length input) ≡ length input = omega arith in
        rw (h, take-length input) (sym (take_all n input (le_of_lt less)))

-- An answer of the code, matched.
module _ (bytes : List ℕ) (r : Result Counts Question) (e : answered r ≡ bundle_counts bytes) where
  pub counted_is : (c : Counts) → r ≡ Ok c → bundle_counts bytes ≡ value c
  counted_is c g = sym e ∙ ap answered g

  pub uncounted_is : (k : Question) → r ≡ Err k → bundle_counts bytes ≡ refused k
  uncounted_is k g = sym e ∙ ap answered g

-- What a refusal leaves.
module _ (bytes : List ℕ) (k : Question) (o : Outcome Counts) (e : o ≡ refused k) where
  pub words_kept : (words : List ℕ) → words ≡ words_by bytes o words
  words_kept words = rw e refl

  pub index_kept : (words index : List ℕ) → index ≡ index_by bytes o words index
  index_kept words index = rw e refl

  pub not_opened : (words index : List ℕ) → refused k ≡ opening_by bytes o words index
  not_opened words index = rw e refl

  pub no_tables : (words index : List ℕ) → tables_of ([] ∷ []) [] [] [] [] [] [] ≡ tables_by bytes o words index
  no_tables words index = rw e refl

-- The same tables hand out the same pieces.
pub piece_same : (t u : Tables) (p q : Standing) (n : ℕ) (x : Handed) (old : List ℕ) → t ≡ u
    → ((x ≡ piece_of t p n old) × (to_come t q ≡ drop n (to_come t p))) → ((x ≡ piece_of u p n old) × (to_come u q ≡ drop n (to_come u p)))
piece_same t u p q n x old e h = rw (← e) h
