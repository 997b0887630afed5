-- A worked example: three rebases in one chain, the first and the last of one slot.
use Prim.Native.Nat.{ℕ, ◌*◌}
use mathlib.Core.Path.{◌≡◌, refl}
use mathlib.Core.List.{List, [], ◌∷◌}
use native.Mathlib.Omega.{arith}
use lib.ListN.{get_or}
use Rattle.reads.specs.Outcome.{value, absent, refused, choose}
use Rattle.reads.specs.declared.answer.Reason.TheVariants.{NoRecord}
use Rattle.reads.specs.Table.{tabulate}
use Rattle.pointers.specs.Tables.{rebase_words, chains}
use Rattle.pointers.specs.Index.{latest, nexts_of, indexed}
use Rattle.pointers.specs.Chain.{follow_from, follow, last_among}
use Rattle.pointers.proofs.IndexWords.{indexed_rebases}
use Rattle.pointers.proofs.Chains.{rebase_last_wins}
use Rattle.reads.specs.declared.answer.Question.TheVariants.{ChainOrder}

-- Slots 8, 32776 and 8 again, all of chain 1.
abbrev pub three_rebases : List ℕ
three_rebases = 8 ∷ 100 ∷ 32776 ∷ 200 ∷ 8 ∷ 300 ∷ []

-- The head of chain 1 is record 3, and its next words lead to 2, to 1 and to the end.
pub head_case : (binds index : List ℕ) → get_or (indexed three_rebases binds index) 1 0 ≡ 3
unfolding latest choose
head_case binds index = (indexed_rebases three_rebases binds index).head 1 (omega arith)

pub next_case : nexts_of rebase_words three_rebases ≡ 0 ∷ 1 ∷ 2 ∷ []
unfolding latest tabulate choose
next_case = refl

-- A lookup over the index that opening leaves: the last record of a slot, or none.
pub last_case : (binds index : List ℕ) → follow rebase_words three_rebases 0 (2 * chains) 8 (indexed three_rebases binds index) ≡ value 3
unfolding last_among choose
last_case binds index = rebase_last_wins three_rebases binds index 8

pub middle_case : (binds index : List ℕ) → follow rebase_words three_rebases 0 (2 * chains) 32776 (indexed three_rebases binds index) ≡ value 2
unfolding last_among choose
middle_case binds index = rebase_last_wins three_rebases binds index 32776

pub absent_case : (binds index : List ℕ) → follow rebase_words three_rebases 0 (2 * chains) 65544 (indexed three_rebases binds index) ≡ absent NoRecord
unfolding last_among choose
absent_case binds index = rebase_last_wins three_rebases binds index 65544

-- The same chain in a small index, computed: heads from word 0, next words from word 2.
pub small_case : follow rebase_words three_rebases 0 2 32776 (0 ∷ 3 ∷ 0 ∷ 1 ∷ 2 ∷ []) ≡ value 2
unfolding follow follow_from choose
small_case = refl

-- Broken: a first number above the record count, and a next word that is not below.
pub above_case : follow rebase_words three_rebases 0 2 8 (0 ∷ 4 ∷ 0 ∷ 1 ∷ 2 ∷ []) ≡ refused ChainOrder
unfolding follow follow_from choose
above_case = refl

pub circle_case : follow rebase_words three_rebases 0 2 32776 (0 ∷ 3 ∷ 0 ∷ 1 ∷ 3 ∷ []) ≡ refused ChainOrder
unfolding follow follow_from choose
circle_case = refl

-- The chain is followed only up to the slot's record.
pub reached_case : follow rebase_words three_rebases 0 2 8 (0 ∷ 3 ∷ 0 ∷ 1 ∷ 3 ∷ []) ≡ value 3
unfolding follow follow_from choose
reached_case = refl
