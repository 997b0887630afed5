-- The lookup of a slot in a rebase table by halves, for a call that opened the tables itself. Where the slots ascend it gives what the slot's
-- chain gives (proofs/SortedLookups.antt).
use Rattle.std.specs.Prelude.{ℕ, zero, suc, ◌+◌, ◌-◌, ◌^◌, Bool, ◌&&◌, List, eqb, leb, ltb}
use Rattle.reads.specs.Outcome.{Outcome, value, absent, choose}
use Rattle.reads.specs.Table.{records}
use Rattle.reads.specs.declared.answer.Reason.TheVariants.{NoRecord}
use Rattle.pointers.specs.Tables.{rebase_words, slot_of}
use Rattle.pointers.specs.Question.{every}

-- Each slot is below the next.
unfoldable pub rises : List ℕ → ℕ → Bool
rises rebases i = ltb (slot_of rebase_words rebases i) (slot_of rebase_words rebases (i + 1))

unfoldable pub ascending : List ℕ → Bool
ascending rebases = every (rises rebases) (records rebase_words rebases - 1)

-- Record i, counted from 0, is there, and its slot is at most the slot.
unfoldable pub at_most : List ℕ → ℕ → ℕ → Bool
at_most rebases slot i = ltb i (records rebase_words rebases) && leb (slot_of rebase_words rebases i) slot

-- From record b on by steps of 2^(k-1) down to 1, each taken where the record that it leads to has a slot that is at most the slot.
unfoldable pub climb : List ℕ → ℕ → ℕ → ℕ → ℕ
climb rebases slot zero b = b
climb rebases slot (suc k) b = climb rebases slot k (choose (at_most rebases slot (b + 2 ^ k)) (b + 2 ^ k) b)

-- Question 5 allows fewer than 2^24 records.
abbrev pub halvings : ℕ
halvings = 24

-- The number of the slot's record, counted from 1.
unfoldable pub sorted_at : List ℕ → ℕ → ℕ → Outcome ℕ
sorted_at rebases slot b =
    choose (ltb b (records rebase_words rebases) && eqb (slot_of rebase_words rebases b) slot) (value (b + 1)) (absent NoRecord)

abbrev pub sorted_record : List ℕ → ℕ → Outcome ℕ
sorted_record rebases slot = sorted_at rebases slot (climb rebases slot halvings 0)
