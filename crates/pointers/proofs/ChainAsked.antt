-- A lookup by a chain is question ChainOrder asked of the chain's record numbers, then the slot's record among them.
use Prim.Native.Nat.{ℕ, zero, suc, ◌+◌, ◌-◌, ◌≤◌, ◌<◌}
use mathlib.Core.Path.{◌≡◌, refl, sym, ap, ◌∙◌}
use mathlib.Core.Bool.{Bool, true, false, ◌&&◌}
use mathlib.Core.List.{List, [], ◌∷◌}
use native.Mathlib.Omega.{arith}
use native.Mathlib.Decide.{ℕ_discrete}
use lib.Dec.{leb}
use lib.ListN.{get_or}
use borrow.Author.Tests.{eq-eqb, ne_eqb, leb-true, leb-false, le-leb, lt-leb}
use Rattle.reads.specs.Outcome.{Outcome, value, absent, refused, and_then}
use Rattle.reads.specs.declared.answer.Reason.TheVariants.{NoRecord}
use Rattle.reads.specs.Table.{records}
use Rattle.reads.proofs.Tests.{choose_true, choose_false}
use Rattle.pointers.specs.Tables.{slot_of}
use Rattle.pointers.specs.Question.{question}
use Rattle.pointers.specs.Index.{chain_of}
use Rattle.pointers.specs.Chain.{chain_from, descends, slots_record, slots_chain, follow_from, follow}
use Rattle.pointers.proofs.Questions.{question_yes, after_no}
use Rattle.pointers.proofs.Chains.{follow_end, follow_above, follow_found, follow_on}
use Rattle.reads.specs.declared.answer.Question.TheVariants.{ChainOrder}

module _ (width : ℕ) (table : List ℕ) (nexts slot : ℕ) (index : List ℕ) where
  abbrev asks : ℕ → List ℕ → Outcome ℕ
  asks limit ns = and_then (question ChainOrder (descends limit ns)) (λ _. slots_record width table slot ns)

  abbrev chain : ℕ → ℕ → List ℕ
  chain most n = chain_from width table nexts slot index most n

  -- The end; a number above the limit; the slot's record; another record, after which the chain goes on below it.
  asked_end : (limit : ℕ) → asks limit [] ≡ absent NoRecord
  unfolding descends slots_record
  asked_end limit = rw (question_yes ChainOrder true refl) refl

  asked_above : (limit n : ℕ) (ns : List ℕ) → limit < n → asks limit (n ∷ ns) ≡ refused ChainOrder
  unfolding descends
  asked_above limit n ns h = sym (after_no ChainOrder _ _ (ap (λ (b : Bool). b && descends (n - 1) ns) (lt-leb n limit h)))

  asks_further : (limit n : ℕ) (ns : List ℕ) → n ≤ limit → (slot_of width table (n - 1) ≡ slot → ⊥) → asks limit (n ∷ ns) ≡ asks (n - 1) ns
  unfolding descends slots_record
  asks_further limit n ns h ne =
      let below : (leb n limit && descends (n - 1) ns) ≡ descends (n - 1) ns = ap (λ (b : Bool). b && descends (n - 1) ns) (le-leb n limit h) in
      rw (below, choose_false (value n) (slots_record width table slot ns) (ne_eqb _ _ ne)) refl

  asked_found : (limit n : ℕ) → n ≤ limit → slot_of width table (n - 1) ≡ slot → asks limit (n ∷ []) ≡ value n
  unfolding descends slots_record
  asked_found limit n h e =
      let below : (leb n limit && true) ≡ true = ap (λ (b : Bool). b && true) (le-leb n limit h) in
      rw (below, question_yes ChainOrder true refl) (choose_true _ _ (eq-eqb _ _ e))

  chain_end : (most : ℕ) → chain (suc most) 0 ≡ []
  unfolding chain_from
  chain_end most = choose_true _ _ refl

  -- A chain's numbers, by whether its first is the slot's record.
  chain_found : (most n : ℕ) → (n ≡ 0 → ⊥) → slot_of width table (n - 1) ≡ slot → chain (suc most) n ≡ n ∷ []
  unfolding chain_from
  chain_found most n some e = choose_false _ _ (ne_eqb n 0 some) ∙ ap (λ (ns : List ℕ). n ∷ ns) (choose_true _ _ (eq-eqb _ _ e))

  chain_on : (most n : ℕ) → (n ≡ 0 → ⊥) → (slot_of width table (n - 1) ≡ slot → ⊥)
      → chain (suc most) n ≡ n ∷ chain most (get_or index (nexts + (n - 1)) 0)
  unfolding chain_from
  chain_on most n some ne = choose_false _ _ (ne_eqb n 0 some) ∙ ap (λ (ns : List ℕ). n ∷ ns) (choose_false _ _ (ne_eqb _ _ ne))

  module _ (limit n : ℕ) (some : n ≡ 0 → ⊥) where
    above_asked : (ns : List ℕ) → limit < n → follow_from width table nexts slot index limit n ≡ asks limit (n ∷ ns)
    above_asked ns high = follow_above width table nexts slot index limit n high ∙ sym (asked_above limit n ns high)

    found_asked : slot_of width table (n - 1) ≡ slot → (b : Bool) → leb n limit ≡ b → follow_from width table nexts slot index limit n ≡ asks limit (n ∷ [])
    found_asked e true t =
        let low = leb-true n limit t in
        follow_found width table nexts slot index limit n some low e ∙ sym (asked_found limit n low e)
    found_asked e false t = above_asked [] (leb-false n limit t)

    on_asked : (slot_of width table (n - 1) ≡ slot → ⊥) → (ns : List ℕ)
        → (n ≤ limit → follow_from width table nexts slot index (n - 1) (get_or index (nexts + (n - 1)) 0) ≡ asks (n - 1) ns)
        → (b : Bool) → leb n limit ≡ b → follow_from width table nexts slot index limit n ≡ asks limit (n ∷ ns)
    on_asked ne ns f true t =
        let low = leb-true n limit t in
        follow_on width table nexts slot index limit n some low ne ∙ f low ∙ sym (asks_further limit n ns low ne)
    on_asked ne ns f false t = above_asked ns (leb-false n limit t)

  from_asked : (most limit n : ℕ) → limit < most → follow_from width table nexts slot index limit n ≡ asks limit (chain most n)
  from_asked zero limit n h = absurd (omega arith)
  from_asked (suc most) limit n h =
      elim (ℕ_discrete n 0) [
        | yes e ↦ rw (e, chain_end most) (follow_end width table nexts slot index limit ∙ sym (asked_end limit))
        | no some ↦ elim (ℕ_discrete (slot_of width table (n - 1)) slot) [
          | yes e ↦ rw (chain_found most n some e) (found_asked limit n some e (leb n limit) refl)
          | no ne ↦ rw (chain_on most n some ne)
              (on_asked limit n some ne _ (λ low. from_asked most (n - 1) (get_or index (nexts + (n - 1)) 0) (omega arith)) (leb n limit) refl)
        ]
      ]

-- A lookup asks question ChainOrder of the slot's chain, and then gives the slot's record, or absent where the chain ends without it.
pub follow_asked : (width : ℕ) (table : List ℕ) (heads nexts slot : ℕ) (index : List ℕ)
    → follow width table heads nexts slot index
    ≡ and_then (question ChainOrder (descends (records width table) (slots_chain width table heads nexts slot index)))
    (λ _. slots_record width table slot (slots_chain width table heads nexts slot index))
unfolding follow slots_chain
follow_asked width table heads nexts slot index =
    from_asked width table nexts slot index (suc (records width table)) (records width table) (get_or index (heads + chain_of slot) 0) (omega arith)
