-- The words of the index of document 01: the latest record of a chain, and where each head and next word stands.
use Prim.Native.Nat.{ℕ, zero, suc, ◌+◌, ◌-◌, ◌*◌, ◌≤◌, ◌<◌}
use mathlib.Core.Path.{◌≡◌, refl, sym, ap, ◌∙◌}
use mathlib.Core.List.{List, ◌++◌}
use mathlib.Core.Logic.{⊎_elim}
use native.Mathlib.Omega.{arith}
use native.Mathlib.Decide.{ℕ_discrete, dec_lt}
use native.Mathlib.Nat.{eq-or-lt_of_le, le_of_suc-le-suc, zero-add}
use lib.ListN.{length, get_or, drop, length-append, length-drop, get_or-append}
use lib.Seq.{get_or-append-add, get_or-drop, ext_get_or}
use borrow.Author.Tests.{eq-eqb, ne_eqb, eqb-true}
use Rattle.reads.specs.Table.{records}
use Rattle.reads.proofs.Tests.{by_choose, choose_true, choose_false}
use Rattle.reads.proofs.Tabulates.{length_tabulate, get_d_tabulate}
use Rattle.pointers.specs.Tables.{slot_of, rebase_words, bind_words, chains}
use Rattle.pointers.specs.Index.{chain_of, latest, heads_of, nexts_of, indexed, Words, bind_nexts, index_length}

-- The latest record of a chain.
module _ (width : ℕ) (table : List ℕ) where
  pub latest_in : (n chain : ℕ) → chain_of (slot_of width table n) ≡ chain → latest width table (suc n) chain ≡ suc n
  unfolding latest
  latest_in n chain e = choose_true _ _ (eq-eqb _ _ e)

  pub latest_not_in : (n chain : ℕ) → (chain_of (slot_of width table n) ≡ chain → ⊥)
      → latest width table (suc n) chain ≡ latest width table n chain
  unfolding latest
  latest_not_in n chain ne = choose_false _ _ (ne_eqb _ _ ne)

  pub latest_bound : (n chain : ℕ) → latest width table n chain ≤ n
  unfolding latest
  latest_bound zero chain = omega arith
  latest_bound (suc n) chain =
      by_choose (λ (m : ℕ). m ≤ suc n) (λ t. omega arith) (λ t. omega (arith, latest_bound n chain))

  -- It is zero or a record of the chain, and no record of the chain is above it.
  pub latest_has : (n chain k : ℕ) → latest width table n chain ≡ suc k → chain_of (slot_of width table k) ≡ chain
  unfolding latest
  latest_has zero chain k e = absurd (omega arith)
  latest_has (suc n) chain k e =
      by_choose (λ (m : ℕ). m ≡ suc k → chain_of (slot_of width table k) ≡ chain)
      (λ t q. let same : n ≡ k = omega arith in rw same at (eqb-true (chain_of (slot_of width table n)) chain t))
      (λ t. latest_has n chain k)
      e

  pub latest_greatest : (n chain k : ℕ) → k < n → chain_of (slot_of width table k) ≡ chain → suc k ≤ latest width table n chain
  latest_greatest zero chain k h e = absurd (omega arith)
  latest_greatest (suc n) chain k h e =
      elim (ℕ_discrete (chain_of (slot_of width table n)) chain) [
        | yes here ↦ rw (latest_in n chain here) (omega arith)
        | no other ↦ rw (latest_not_in n chain other)
            (⊎_elim (λ same. absurd (other (rw same at e))) (λ less. latest_greatest n chain k less e) (eq-or-lt_of_le (le_of_suc-le-suc h)))
      ]

-- One word of a list in two parts.
module _ (xs ys : List ℕ) (n : ℕ) (size : length xs ≡ n) where
  pub front_word : (p : ℕ) → p < n → get_or (xs ++ ys) p 0 ≡ get_or xs p 0
  front_word p h = get_or-append xs ys 0 p (omega arith)

  pub back_word : (p q : ℕ) → p ≡ n + q → get_or (xs ++ ys) p 0 ≡ get_or ys q 0
  back_word p q e =
      let at : p ≡ length xs + q = omega arith in
      rw at (get_or-append-add xs ys q 0)

-- The heads and the next words of a table.
module _ (width : ℕ) (table : List ℕ) where
  length_heads : length (heads_of width table) ≡ chains
  length_heads = length_tabulate _ 0 chains

  length_nexts : length (nexts_of width table) ≡ records width table
  length_nexts = length_tabulate _ 0 (records width table)

  get_d_heads : (c : ℕ) → c < chains → get_or (heads_of width table) c 0 ≡ latest width table (records width table) c
  get_d_heads c h = get_d_tabulate (latest width table (records width table)) 0 chains c 0 h ∙ rw zero-add

  get_d_nexts : (k : ℕ) → k < records width table → get_or (nexts_of width table) k 0 ≡ latest width table k (chain_of (slot_of width table k))
  get_d_nexts k h =
      get_d_tabulate (λ i. latest width table i (chain_of (slot_of width table i))) 0 (records width table) k 0 h ∙ rw zero-add

-- The index of document 01, by its words.
module _ (rebases binds index : List ℕ) where
  abbrev untouched : List ℕ
  untouched = drop (index_length rebases binds) index

  pub length_indexed : index_length rebases binds ≤ length index → length (indexed rebases binds index) ≡ length index
  unfolding indexed
  length_indexed room =
      simp (length-append, length_heads, length_nexts, length-drop) (omega arith)

  past_rebase_heads : (q : ℕ) → get_or (indexed rebases binds index) (chains + q) 0
      ≡ get_or (heads_of bind_words binds ++ (nexts_of rebase_words rebases ++ (nexts_of bind_words binds ++ untouched))) q 0
  unfolding indexed
  past_rebase_heads q = back_word (heads_of rebase_words rebases) _ chains (length_heads rebase_words rebases) (chains + q) q refl

  past_heads : (q : ℕ) → get_or (indexed rebases binds index) (2 * chains + q) 0 ≡ get_or (nexts_of rebase_words rebases ++ (nexts_of bind_words binds ++ untouched)) q 0
  past_heads q =
      ap (λ (p : ℕ). get_or (indexed rebases binds index) p 0) (omega arith)
      ∙ past_rebase_heads (chains + q)
      ∙ back_word (heads_of bind_words binds) _ chains (length_heads bind_words binds) (chains + q) q refl

  past_rebase_nexts : (q : ℕ) → get_or (indexed rebases binds index) (bind_nexts rebases + q) 0 ≡ get_or (nexts_of bind_words binds ++ untouched) q 0
  past_rebase_nexts q =
      ap (λ (p : ℕ). get_or (indexed rebases binds index) p 0) (omega arith)
      ∙ past_heads (records rebase_words rebases + q)
      ∙ back_word (nexts_of rebase_words rebases) _ (records rebase_words rebases) (length_nexts rebase_words rebases) (records rebase_words rebases + q) q refl

  -- Further words are untouched.
  pub indexed_rest : (p : ℕ) → index_length rebases binds ≤ p → get_or (indexed rebases binds index) p 0 ≡ get_or index p 0
  indexed_rest p h =
      let past = p - index_length rebases binds in
      ap (λ (p : ℕ). get_or (indexed rebases binds index) p 0) (omega arith)
      ∙ past_rebase_nexts (records bind_words binds + past)
      ∙ back_word (nexts_of bind_words binds) _ (records bind_words binds) (length_nexts bind_words binds) (records bind_words binds + past) past refl
      ∙ get_or-drop (index_length rebases binds) index past 0
      ∙ ap (λ (k : ℕ). get_or index k 0) (omega arith)

  pub indexed_rebases : Words rebase_words rebases 0 (2 * chains) (indexed rebases binds index)
  unfolding indexed
  indexed_rebases =
      record {
        head = λ c h. rw zero-add (front_word (heads_of rebase_words rebases) _ chains (length_heads rebase_words rebases) c h ∙ get_d_heads rebase_words rebases c h);
        next = λ k h. past_heads k
            ∙ front_word (nexts_of rebase_words rebases) _ (records rebase_words rebases) (length_nexts rebase_words rebases) k h
            ∙ get_d_nexts rebase_words rebases k h;
      }

  pub indexed_binds : Words bind_words binds chains (bind_nexts rebases) (indexed rebases binds index)
  indexed_binds =
      record {
        head = λ c h. past_rebase_heads c ∙ front_word (heads_of bind_words binds) _ chains (length_heads bind_words binds) c h ∙ get_d_heads bind_words binds c h;
        next = λ k h. past_rebase_nexts k
            ∙ front_word (nexts_of bind_words binds) _ (records bind_words binds) (length_nexts bind_words binds) k h
            ∙ get_d_nexts bind_words binds k h;
      }

-- Two lists of one length that both hold an index over the two tables, and agree past it, are equal.
module _ (rebases binds one other : List ℕ)
    (one_rebases : Words rebase_words rebases 0 (2 * chains) one) (other_rebases : Words rebase_words rebases 0 (2 * chains) other)
    (one_binds : Words bind_words binds chains (bind_nexts rebases) one) (other_binds : Words bind_words binds chains (bind_nexts rebases) other)
    (rest : (p : ℕ) → index_length rebases binds ≤ p → get_or one p 0 ≡ get_or other p 0) where
  at_word : (p q : ℕ) → p ≡ q → get_or one q 0 ≡ get_or other q 0 → get_or one p 0 ≡ get_or other p 0
  at_word p q e h = rw e h

  same_word : (p : ℕ) → get_or one p 0 ≡ get_or other p 0
  same_word p =
      elim (dec_lt p chains) [
        | yes rebase_head ↦ at_word p (0 + p) (omega arith) (one_rebases.head p rebase_head ∙ sym (other_rebases.head p rebase_head))
        | no past0 ↦ elim (dec_lt p (2 * chains)) [
          | yes bind_head ↦ at_word p (chains + (p - chains)) (omega arith)
              (one_binds.head (p - chains) (omega arith) ∙ sym (other_binds.head (p - chains) (omega arith)))
          | no past1 ↦ elim (dec_lt p (bind_nexts rebases)) [
            | yes rebase_next ↦ at_word p (2 * chains + (p - 2 * chains)) (omega arith)
                (one_rebases.next (p - 2 * chains) (omega arith) ∙ sym (other_rebases.next (p - 2 * chains) (omega arith)))
            | no past2 ↦ elim (dec_lt p (index_length rebases binds)) [
              | yes bind_next ↦ at_word p (bind_nexts rebases + (p - bind_nexts rebases)) (omega arith)
                  (one_binds.next (p - bind_nexts rebases) (omega arith)
                  ∙ sym (other_binds.next (p - bind_nexts rebases) (omega arith)))
              | no past3 ↦ rest p (omega arith)
            ]
          ]
        ]
      ]

  pub words_determine : length one ≡ length other → one ≡ other
  words_determine size = ext_get_or 0 one other size (λ p h. same_word p)
