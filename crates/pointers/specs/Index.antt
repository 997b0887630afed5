-- The index (document 01, "Tables lent by the caller"): rebase chain heads, bind chain heads, a next word for each rebase, then for each
-- bind. Records count from 1. A head is its chain's latest record, next the one before it, zero the end.
use Rattle.std.specs.Prelude.{ℕ, zero, suc, ◌+◌, ◌*◌, ◌/◌, ◌%◌, ◌<◌, ◌≡◌, List, ◌++◌, eqb, get_or, drop}
use Rattle.reads.specs.Outcome.{choose}
use Rattle.reads.specs.Table.{records, tabulate}
use Rattle.pointers.specs.Tables.{slot_of, rebase_words, bind_words, chains}

-- The chain of a slot.
abbrev pub chain_of : ℕ → ℕ
chain_of slot = slot / 8 % chains

-- The greatest record number of a chain among the first n records, zero if there is none.
unfoldable pub latest : ℕ → List ℕ → ℕ → ℕ → ℕ
latest width table zero chain = 0
latest width table (suc n) chain =
    choose (eqb (chain_of (slot_of width table n)) chain) (suc n) (latest width table n chain)

-- The heads of the chains: each the latest record of its chain.
abbrev pub heads_of : ℕ → List ℕ → List ℕ
heads_of width table = tabulate (latest width table (records width table)) 0 chains

-- The next word of each record: the latest of its chain among the records before it.
abbrev pub nexts_of : ℕ → List ℕ → List ℕ
nexts_of width table = tabulate (λ i. latest width table i (chain_of (slot_of width table i))) 0 (records width table)

-- The first next word of the binds, and how many words the index has for its heads and next words.
abbrev pub bind_nexts : List ℕ → ℕ
bind_nexts rebases = 2 * chains + records rebase_words rebases

abbrev pub index_length : List ℕ → List ℕ → ℕ
index_length rebases binds = bind_nexts rebases + records bind_words binds

-- The index that opening leaves; further words are untouched.
unfoldable pub indexed : List ℕ → List ℕ → List ℕ → List ℕ
indexed rebases binds index =
    heads_of rebase_words rebases
    ++ (heads_of bind_words binds
    ++ (nexts_of rebase_words rebases
    ++ (nexts_of bind_words binds ++ drop (index_length rebases binds) index)))

-- What an index says of one table: the words from `heads` on are its heads, those from `nexts` on its next words.
pub record Words (width : ℕ) (table : List ℕ) (heads nexts : ℕ) (index : List ℕ) : Type 0 where
  pub head : (c : ℕ) → c < chains → get_or index (heads + c) 0 ≡ latest width table (records width table) c
  pub next : (k : ℕ) → k < records width table → get_or index (nexts + k) 0 ≡ latest width table k (chain_of (slot_of width table k))
