-- The index as the code builds it, record by record, is the one of document 01.
use Prim.Native.Nat.{ℕ, zero, suc, ◌+◌, ◌-◌, ◌*◌, ◌≤◌, ◌<◌}
use mathlib.Core.Path.{◌≡◌, refl, sym, ap, ◌∙◌}
use mathlib.Core.List.{List, ◌++◌}
use mathlib.Core.Logic.{⊎_elim}
use native.Mathlib.Omega.{arith}
use native.Mathlib.Decide.{ℕ_discrete}
use native.Mathlib.Nat.{eq-or-lt_of_le, le_of_suc-le-suc}
use native.Mathlib.Numerals.{add-one}
use lib.ListN.{length, get_or, set, take, drop, length-take, replicate, length-set, length-append, length-drop, length-replicate, get_or-replicate}
use lib.Seq.{get_or-set_same, get_or-set_other, get_or-drop}
use Rattle.reads.specs.Table.{records}
use Rattle.pointers.specs.Tables.{slot_of, rebase_words, bind_words, chains}
use Rattle.pointers.specs.Index.{chain_of, latest, indexed, Words, bind_nexts, index_length}
use Rattle.pointers.specs.IndexFold.{cleared, linked, chained, folded}
use Rattle.pointers.proofs.IndexWords.{latest_in, latest_not_in, front_word, back_word, words_determine, length_indexed, indexed_rest, indexed_rebases, indexed_binds}

-- The first n words cleared.
module _ (n : ℕ) (index : List ℕ) where
  length_cleared : n ≤ length index → length (cleared n index) ≡ length index
  unfolding cleared
  length_cleared h = simp (length-append, length-replicate, length-drop) (omega arith)

  -- A slice of the first n words, filled.
  pub cleared_by : n ≤ length index → (front : List ℕ) → front ≡ replicate (length (take n index)) 0 → front ++ drop n index ≡ cleared n index
  unfolding cleared
  cleared_by h front e = rw (e, length-take) (ap (λ (k : ℕ). replicate k 0 ++ drop n index) (omega arith))

  cleared_zero : (p : ℕ) → p < n → get_or (cleared n index) p 0 ≡ 0
  unfolding cleared
  cleared_zero p h = front_word (replicate n 0) (drop n index) n (length-replicate n 0) p h ∙ get_or-replicate n p 0 0 h

  cleared_rest : (p : ℕ) → n ≤ p → get_or (cleared n index) p 0 ≡ get_or index p 0
  unfolding cleared
  cleared_rest p h =
      back_word (replicate n 0) (drop n index) n (length-replicate n 0) p (p - n) (omega arith)
      ∙ get_or-drop n index (p - n) 0
      ∙ ap (λ (k : ℕ). get_or index k 0) (omega arith)

-- A record's next word stored.
abbrev nexted : ℕ → ℕ → ℕ → List ℕ → List ℕ
nexted heads next slot index = set index next (get_or index (heads + chain_of slot) 0)

-- One record put into its chain.
module _ (heads next number slot : ℕ) (index : List ℕ) where
  length_linked : length (linked heads next number slot index) ≡ length index
  unfolding linked
  length_linked = simp length-set

  linked_other : (p : ℕ) → (p ≡ heads + chain_of slot → ⊥) → (p ≡ next → ⊥)
      → get_or (linked heads next number slot index) p 0 ≡ get_or index p 0
  unfolding linked
  linked_other p not_head not_next =
      get_or-set_other (nexted heads next slot index) (heads + chain_of slot) p number 0 not_head
      ∙ get_or-set_other index next p (get_or index (heads + chain_of slot) 0) 0 not_next

  module _ (apart : heads + chains ≤ next) (inside : next < length index) where
    linked_head : get_or (linked heads next number slot index) (heads + chain_of slot) 0 ≡ number
    unfolding linked
    linked_head = get_or-set_same (nexted heads next slot index) _ number 0 (simp length-set (omega arith))

    linked_next : get_or (linked heads next number slot index) next 0 ≡ get_or index (heads + chain_of slot) 0
    unfolding linked
    linked_next = get_or-set_other (nexted heads next slot index) _ next number 0 (omega arith) ∙ get_or-set_same index next _ 0 inside

-- The first n records of a table put into their chains.
module _ (width : ℕ) (table : List ℕ) (heads nexts : ℕ) (index : List ℕ) where
  length_chained : (n : ℕ) → length (chained width table heads nexts n index) ≡ length index
  unfolding chained
  length_chained zero = refl
  length_chained (suc n) = length_linked heads (nexts + n) (suc n) (slot_of width table n) _ ∙ length_chained n

  -- One record more, as the code counts.
  pub chained_more : (n : ℕ) (now : List ℕ) → now ≡ chained width table heads nexts n index
      → linked heads (nexts + n) (n + 1) (slot_of width table n) now ≡ chained width table heads nexts (n + 1) index
  unfolding chained
  chained_more n now e = rw (e, add-one)

  -- A word that is no head and no next word stays.
  chained_other : (n p : ℕ) → ((c : ℕ) → c < chains → p ≡ heads + c → ⊥) → ((k : ℕ) → k < n → p ≡ nexts + k → ⊥)
      → get_or (chained width table heads nexts n index) p 0 ≡ get_or index p 0
  unfolding chained
  chained_other zero p not_head not_next = refl
  chained_other (suc n) p not_head not_next =
      linked_other heads (nexts + n) (suc n) (slot_of width table n) _ p
      (not_head (chain_of (slot_of width table n)) (omega arith))
      (not_next n (omega arith))
      ∙ chained_other n p not_head (λ k h. not_next k (omega arith))

  -- Over empty chains, with next words behind the heads.
  module _ (apart : heads + chains ≤ nexts) (empty : (c : ℕ) → c < chains → get_or index (heads + c) 0 ≡ 0) where
    chained_head : (n c : ℕ) → nexts + n ≤ length index → c < chains
        → get_or (chained width table heads nexts n index) (heads + c) 0 ≡ latest width table n c
    unfolding chained latest
    chained_head zero c room h = empty c h
    chained_head (suc n) c room h =
        elim (ℕ_discrete (chain_of (slot_of width table n)) c) [
          | yes e ↦ rw (latest_in width table n c e, ← e)
              (linked_head heads (nexts + n) (suc n) (slot_of width table n) _ (omega arith) (rw (length_chained n) (omega arith)))
          | no ne ↦ rw (latest_not_in width table n c ne)
              (linked_other heads (nexts + n) (suc n) (slot_of width table n) _ (heads + c) (λ q. ne (omega arith)) (omega arith)
              ∙ chained_head n c (omega arith) h)
        ]

    chained_next : (n k : ℕ) → nexts + n ≤ length index → k < n
        → get_or (chained width table heads nexts n index) (nexts + k) 0 ≡ latest width table k (chain_of (slot_of width table k))
    unfolding chained
    chained_next zero k room h = absurd (omega arith)
    chained_next (suc n) k room h =
        ⊎_elim
        (λ e. rw e
        (linked_next heads (nexts + n) (suc n) (slot_of width table n) _ (omega arith) (rw (length_chained n) (omega arith))
        ∙ chained_head n (chain_of (slot_of width table n)) (omega arith) (omega arith)))
        (λ less. linked_other heads (nexts + n) (suc n) (slot_of width table n) _ (nexts + k) (omega arith) (omega arith)
        ∙ chained_next n k (omega arith) less)
        (eq-or-lt_of_le (le_of_suc-le-suc h))

    chained_words : nexts + records width table ≤ length index
        → Words width table heads nexts (chained width table heads nexts (records width table) index)
    chained_words room =
        record {
          head = λ c h. chained_head (records width table) c room h;
          next = λ k h. chained_next (records width table) k room h;
        }

-- The index that the code builds, by its words.
rebased : List ℕ → List ℕ → List ℕ
rebased rebases index = chained rebase_words rebases 0 (2 * chains) (records rebase_words rebases) (cleared (2 * chains) index)

module _ (rebases binds index : List ℕ) (room : index_length rebases binds ≤ length index) where
  length_rebased : length (rebased rebases index) ≡ length index
  unfolding rebased
  length_rebased =
      length_chained rebase_words rebases 0 (2 * chains) (cleared (2 * chains) index) (records rebase_words rebases) ∙ length_cleared (2 * chains) index (omega arith)

  length_folded : length (folded rebases binds index) ≡ length index
  unfolding folded rebased
  length_folded =
      length_chained bind_words binds chains (bind_nexts rebases) (rebased rebases index) (records bind_words binds) ∙ length_rebased

  -- The binds leave every word that is not theirs.
  folded_other : (p : ℕ) → ((c : ℕ) → c < chains → p ≡ chains + c → ⊥)
      → ((k : ℕ) → k < records bind_words binds → p ≡ bind_nexts rebases + k → ⊥)
      → get_or (folded rebases binds index) p 0 ≡ get_or (rebased rebases index) p 0
  unfolding folded rebased
  folded_other p not_head not_next =
      chained_other bind_words binds chains (bind_nexts rebases) (rebased rebases index) (records bind_words binds) p not_head not_next

  folded_rest : (p : ℕ) → index_length rebases binds ≤ p → get_or (folded rebases binds index) p 0 ≡ get_or index p 0
  unfolding rebased
  folded_rest p h =
      folded_other p (λ c l e. omega arith) (λ k l e. omega arith)
      ∙ chained_other rebase_words rebases 0 (2 * chains) (cleared (2 * chains) index) (records rebase_words rebases) p (λ c l e. omega arith) (λ k l e. omega arith)
      ∙ cleared_rest (2 * chains) index p (omega arith)

  rebased_words : Words rebase_words rebases 0 (2 * chains) (rebased rebases index)
  unfolding rebased
  rebased_words =
      chained_words rebase_words rebases 0 (2 * chains) (cleared (2 * chains) index) (omega arith)
      (λ c h. cleared_zero (2 * chains) index (0 + c) (omega arith))
      (rw (length_cleared (2 * chains) index (omega arith)) (omega arith))

  folded_rebases : Words rebase_words rebases 0 (2 * chains) (folded rebases binds index)
  folded_rebases =
      record {
        head = λ c h. folded_other (0 + c) (λ d l e. omega arith) (λ k l e. omega arith) ∙ rebased_words.head c h;
        next = λ k h. folded_other (2 * chains + k) (λ d l e. omega arith) (λ j l e. omega arith) ∙ rebased_words.next k h;
      }

  folded_binds : Words bind_words binds chains (bind_nexts rebases) (folded rebases binds index)
  unfolding folded rebased
  folded_binds =
      chained_words bind_words binds chains (bind_nexts rebases) (rebased rebases index) (omega arith)
      (λ c h. chained_other rebase_words rebases 0 (2 * chains) (cleared (2 * chains) index) (records rebase_words rebases) (chains + c)
      (λ d l e. omega arith) (λ k l e. omega arith)
      ∙ cleared_zero (2 * chains) index (chains + c) (omega arith))
      (rw length_rebased (omega arith))

  pub folded_is_indexed : folded rebases binds index ≡ indexed rebases binds index
  folded_is_indexed =
      words_determine rebases binds (folded rebases binds index) (indexed rebases binds index)
      folded_rebases (indexed_rebases rebases binds index)
      folded_binds (indexed_binds rebases binds index)
      (λ p h. folded_rest p h ∙ sym (indexed_rest rebases binds index p h))
      (length_folded ∙ sym (length_indexed rebases binds index room))
