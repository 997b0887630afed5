-- The lookup of a slot by its chain, for any contents of the index (document 01, question ChainOrder).
use Rattle.std.specs.Prelude.{ℕ, zero, suc, ◌+◌, ◌-◌, ◌≤◌, ◌<◌, ◌≡◌, Bool, true, ◌&&◌, List, [], ◌∷◌, eqb, leb, get_or}
use Rattle.reads.specs.Outcome.{Outcome, value, absent, refused, and_then, choose}
use Rattle.reads.specs.Table.{records}
use Rattle.reads.specs.declared.answer.Reason.TheVariants.{NoRecord}
use Rattle.pointers.specs.Tables.{slot_of}
use Rattle.pointers.specs.Index.{chain_of}
use Rattle.reads.specs.declared.answer.Question.TheVariants.{ChainOrder}

-- The record numbers of a chain from n on, at most so many: it is followed up to the slot's record, and zero is the end.
unfoldable pub chain_from : ℕ → List ℕ → ℕ → ℕ → List ℕ → ℕ → ℕ → List ℕ
chain_from width table nexts slot index zero n = []
chain_from width table nexts slot index (suc most) n =
    choose (eqb n 0) []
    (n ∷ choose (eqb (slot_of width table (n - 1)) slot) [] (chain_from width table nexts slot index most (get_or index (nexts + (n - 1)) 0)))

-- Question 9: each record number below the one before it, the first at most the record count?
unfoldable pub descends : ℕ → List ℕ → Bool
descends limit [] = true
descends limit (n ∷ ns) = leb n limit && descends (n - 1) ns

-- The slot's record among the numbers.
unfoldable pub slots_record : ℕ → List ℕ → ℕ → List ℕ → Outcome ℕ
slots_record width table slot [] = absent NoRecord
slots_record width table slot (n ∷ ns) = choose (eqb (slot_of width table (n - 1)) slot) (value n) (slots_record width table slot ns)

-- A lookup asks question ChainOrder of the slot's chain; one that goes down from the record count has no more numbers than that. As the code goes
-- on, this is `follow` below (proofs/ChainAsked.antt).
unfoldable pub slots_chain : ℕ → List ℕ → ℕ → ℕ → ℕ → List ℕ → List ℕ
slots_chain width table heads nexts slot index =
    chain_from width table nexts slot index (suc (records width table)) (get_or index (heads + chain_of slot) 0)

-- The chain goes on at record n, and every record above `limit` lies behind. Going down from `limit`: where n is met, it is the slot's
-- record, or the chain goes on at its next word. Zero is the end; an n that is never met is above the limit, that is, not below the one
-- before it: 9.
unfoldable pub follow_from : ℕ → List ℕ → ℕ → ℕ → List ℕ → ℕ → ℕ → Outcome ℕ
follow_from width table nexts slot index zero n = choose (eqb n 0) (absent NoRecord) (refused ChainOrder)
follow_from width table nexts slot index (suc limit) n =
    choose (eqb n (suc limit))
    (choose (eqb (slot_of width table limit) slot)
    (value n)
    (follow_from width table nexts slot index limit (get_or index (nexts + limit) 0)))
    (follow_from width table nexts slot index limit n)

-- The number of the record that the slot's chain leads to; the first must be at most the record count.
unfoldable pub follow : ℕ → List ℕ → ℕ → ℕ → ℕ → List ℕ → Outcome ℕ
follow width table heads nexts slot index =
    follow_from width table nexts slot index (records width table) (get_or index (heads + chain_of slot) 0)

-- A record's number counts from 1, its row from 0.
abbrev pub row_of : Outcome ℕ → Outcome ℕ
row_of number = and_then number (λ n. value (n - 1))

-- No rebase stands in the chain of a slot: its head is 0.
unfoldable pub no_rebase : List ℕ → ℕ → Bool
no_rebase index slot = eqb (get_or index (chain_of slot) 0) 0

-- What a map holds for a slot after the first n records, numbered from 1, were inserted in order: absent, or the last that has it.
unfoldable pub last_among : ℕ → List ℕ → ℕ → ℕ → Outcome ℕ
last_among width table zero slot = absent NoRecord
last_among width table (suc n) slot = choose (eqb (slot_of width table n) slot) (value (suc n)) (last_among width table n slot)

-- The number of the last record of a slot in table order.
abbrev pub last_record : ℕ → List ℕ → ℕ → Outcome ℕ
last_record width table slot = last_among width table (records width table) slot

-- k, counted from 1, is the last of the first n records with the slot: it has the slot, and no later one has.
pub record Last (width : ℕ) (table : List ℕ) (n slot k : ℕ) : Type 0 where
  pub first : 1 ≤ k
  pub counted : k ≤ n
  pub has : slot_of width table (k - 1) ≡ slot
  pub later : (j : ℕ) → k ≤ j → j < n → slot_of width table j ≡ slot → ⊥
