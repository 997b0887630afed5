-- What question ChainOrder asks of every rebase chain: each head at most the record count, each next word below its own record's number.
use Rattle.std.specs.Prelude.{ℕ, ◌+◌, ◌*◌, Bool, ◌&&◌, List, leb, get_or}
use Rattle.reads.specs.Table.{records}
use Rattle.pointers.specs.Tables.{rebase_words, chains}
use Rattle.pointers.specs.Question.{every}

unfoldable pub heads_fall : List ℕ → ℕ → Bool
heads_fall index count = every (λ c. leb (get_or index c 0) count) chains

-- Record k, counted from 0, has the number k + 1.
unfoldable pub nexts_fall : List ℕ → ℕ → Bool
nexts_fall index count = every (λ k. leb (get_or index (2 * chains + k) 0) k) count

unfoldable pub chains_fall : List ℕ → List ℕ → Bool
chains_fall rebases index = heads_fall index (records rebase_words rebases) && nexts_fall index (records rebase_words rebases)
