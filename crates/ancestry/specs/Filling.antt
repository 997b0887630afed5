-- How the result buffer is filled (note 9): what private functions promise each other.
use Rattle.std.specs.Prelude.{ℕ, ◌+◌, ◌*◌, ◌/◌, ◌≤◌, ◌≡◌, Bool, false, List, length, drop, Option, Some, None}
use mathlib.Core.List.{◌++◌, flat_map}
use Rattle.std.proofs.lemmas.List.Edits.{sets}
use Rattle.reads.specs.Outcome.{Outcome, value, absent, refused, and_then, choose}
use Rattle.pointers.specs.Tables.{Tables}
use Rattle.records.specs.Class.{class_at}
use Rattle.walks.specs.Gather.{gather, present}
use Rattle.ancestry.specs.Rebases.{chains_fall}
use Rattle.ancestry.specs.Ancestry.{ancestry_of, row_of, row_words}
use Rattle.ancestry.specs.declared.class_chain.Row.{Row}

-- What addresses are told, each alone, in their order, whatever tells it; those that are told nothing have no record.
abbrev pub through : {A : Type 0} → (ℕ → Outcome A) → List ℕ → Outcome (List A)
through one = gather (λ a. present (one a))

-- A class that decodes, with its address in the third word: a row before its chain is followed.
unfoldable pub unfollowed_of : Tables → ℕ → Outcome Row
unfollowed_of t a = and_then (class_at t a false) (λ _. value (record { first = 0; second = 0; third = a }))

-- What is written first: rows to follow, or the records themselves.
unfoldable pub told_of : Tables → Bool → ℕ → Outcome Row
told_of t together a = choose together (unfollowed_of t a) (and_then (ancestry_of t a) (λ x. value (row_of x)))

abbrev pub found : Outcome Row → Option Row
found (value a) = Some a
found (absent r) = None
found (refused k) = None

-- How many of them have a record, with n before.
unfoldable pub tally : {A : Type 0} → (ℕ → Outcome A) → ℕ → List ℕ → Outcome ℕ
tally one n addresses = and_then (through one addresses) (λ xs. value (n + length xs))

-- Row by row into a buffer, three words each, from the word `at` on.
unfoldable pub put : List ℕ → ℕ → Row → List ℕ
put out at r = sets out at (row_words r)

-- The rows, then the rest of the buffer as it was; refused, nothing is written.
abbrev pub rows_left : Outcome (List Row) → List ℕ → List ℕ
rows_left (value rows) out = flat_map row_words rows ++ drop (length rows * 3) out
rows_left (absent r) out = out
rows_left (refused k) out = out

-- The addresses were told without a refusal, and their rows fit.
pub record Fits (one : ℕ → Outcome Row) (addresses out : List ℕ) : Type 0 where
  pub all : List Row
  pub told : through one addresses ≡ value all
  pub room : length all * 3 ≤ length out

-- All classes are counted, and their records fit; `together` says that no lookup can be refused.
pub record Counted (t : Tables) (together : Bool) (count : ℕ) (addresses out : List ℕ) : Type 0 where
  pub falls : together ≡ chains_fall t.rebases t.index
  pub counted : value count ≡ tally (told_of t together) 0 addresses
  pub room : count ≤ length out / 3
