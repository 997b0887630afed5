-- The tables of a file, by the branches of the code.
use Prim.Native.Nat.{ℕ}
use mathlib.Core.Path.{◌≡◌, refl, sym, ◌∙◌, ap}
use mathlib.Core.Bool.{Bool, true, false}
use mathlib.Core.List.{List, [], ◌∷◌, ◌++◌}
use native.Mathlib.Omega.{arith}
use lib.Dec.{leb}
use lib.ListN.{length}
use borrow.Author.Tests.{le-leb}
use Rattle.reads.specs.Outcome.{Outcome, value, absent, refused, and_then, choose}
use Rattle.reads.proofs.Tests.{choose_true}
use Rattle.macho.specs.Loader.{ncmds}
use Rattle.macho.specs.Commands.{command_bytes, of_kind}
use Rattle.macho.specs.Segments.{written}
use Rattle.fixups.proofs.Pages.{next_of}
use Rattle.fixups.specs.FixupChains.{chained_fixups_kind}
use Rattle.fixups.specs.Tables.{named_row, rebase_row, bind_row, rows_of}
use Rattle.fixups.specs.Fixups.{Settled, pair, leaves, fixups_found, settled}
use Rattle.opcodes.specs.Binds.{binds_found, Settled as BindsResult, leaves as binds_leaves, settled as binds_settled}
use Rattle.fixups.specs.declared.name.Bound.{Bound}
use Rattle.filetables.specs.Kind.{asked_kind}
use Rattle.filetables.specs.FileRecords.{as_records, bound_records, records_by, records_in, file_records}
use Rattle.reads.specs.declared.answer.Question.{Question}
use Rattle.std.specs.Prelude.{Option, Some, None, MatchOption}

no_rebases : (xs : List Bound) → rows_of rebase_row (as_records xs) ≡ []
unfolding as_records rows_of
no_rebases [] = refl
no_rebases (x ∷ xs) = no_rebases xs

bind_rows : (xs : List Bound) → rows_of bind_row (as_records xs) ≡ rows_of named_row xs
unfolding as_records rows_of
bind_rows [] = refl
bind_rows (x ∷ xs) = ap (λ (ws : List ℕ). named_row x ++ ws) (bind_rows xs)

-- A bind table beside a rebase table without records.
module _ (rs bs : List ℕ) where
  abbrev beside : BindsResult → Settled
  beside r = leaves (and_then r.count (λ n. value (pair 0 n))) rs r.binds

  beside_settled : (o : Outcome (List Bound)) → beside (binds_settled o bs) ≡ settled (bound_records o) rs bs
  unfolding settled binds_settled written choose
  beside_settled (absent r) = refl
  beside_settled (refused k) = refl
  beside_settled (value xs) = rw (no_rebases xs, bind_rows xs, choose_true _ _ (le-leb 0 (length rs) (omega arith))) (go (leb (length (rows_of named_row xs)) (length bs)) _ _)
    where
      go : (t : Bool) (a b : BindsResult) → beside (choose t a b) ≡ choose t (beside a) (beside b)
      go true a b = refl
      go false a b = refl

  pub from_opcodes : (o : Outcome (List Bound)) (n : Outcome ℕ) (bs' : List ℕ) → binds_leaves n bs' ≡ binds_settled o bs
      → leaves (and_then n (λ n. value (pair 0 n))) rs bs' ≡ settled (bound_records o) rs bs
  from_opcodes o n bs' e = ap beside e ∙ beside_settled o

-- Which records there are.
module _ (file : List ℕ) where
  module _ (cmds : List ℕ) (count : ℕ) (ec : cmds ≡ command_bytes file) (en : count ≡ ncmds file) (r : Option ℕ) (others : List ℕ)
      (f : MatchOption r ((of_kind chained_fixups_kind cmds count 0 ≡ []) × (others ≡ [])) (λ a. of_kind chained_fixups_kind cmds count 0 ≡ a ∷ others)) where
    by_first : records_by file r ≡ records_in file
    unfolding records_in
    by_first = rw (← ec, ← en) (ap (records_by file) (sym (next_of _ others r f).0))

    pub is_chained : (a : ℕ) → r ≡ Some a → fixups_found file ≡ records_in file
    is_chained a e = rw e at by_first

    pub not_chained : r ≡ None → bound_records (binds_found file) ≡ records_in file
    not_chained e = rw e at by_first

  pub is_asked : asked_kind file ≡ value tt → records_in file ≡ file_records file
  unfolding file_records
  is_asked e = rw e

  pub is_refused : (k : Question) (rs bs : List ℕ) → refused k ≡ asked_kind file → leaves (refused k) rs bs ≡ settled (file_records file) rs bs
  unfolding file_records settled
  is_refused k rs bs e = rw (← e)
