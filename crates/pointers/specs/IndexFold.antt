-- The index as the code builds it, record by record; proofs/IndexFolds.antt shows that it is the one of specs/Index.antt.
use Rattle.std.specs.Prelude.{ℕ, zero, suc, ◌+◌, ◌*◌, List, ◌++◌, get_or, set, drop, replicate}
use Rattle.reads.specs.Table.{records}
use Rattle.pointers.specs.Tables.{slot_of, rebase_words, bind_words, chains}
use Rattle.pointers.specs.Index.{chain_of, bind_nexts}

-- The first n words are zero.
unfoldable pub cleared : ℕ → List ℕ → List ℕ
cleared n index = replicate n 0 ++ drop n index

-- A record put at the front of the chain of its slot: its next word is the head as it was, and the head is its number.
unfoldable pub linked : ℕ → ℕ → ℕ → ℕ → List ℕ → List ℕ
linked heads next number slot index =
    set (set index next (get_or index (heads + chain_of slot) 0)) (heads + chain_of slot) number

-- The first n records of a table put into their chains in order, with heads from the word `heads` and next words from the word `nexts`.
unfoldable pub chained : ℕ → List ℕ → ℕ → ℕ → ℕ → List ℕ → List ℕ
chained width table heads nexts zero index = index
chained width table heads nexts (suc n) index =
    linked heads (nexts + n) (suc n) (slot_of width table n) (chained width table heads nexts n index)

-- Empty chains, then every rebase, then every bind.
unfoldable pub folded : List ℕ → List ℕ → List ℕ → List ℕ
folded rebases binds index =
    chained bind_words binds chains (bind_nexts rebases) (records bind_words binds)
    (chained rebase_words rebases 0 (2 * chains) (records rebase_words rebases)
    (cleared (2 * chains) index))
