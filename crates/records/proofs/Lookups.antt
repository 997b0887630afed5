-- Over what opening accepted, where the slots of rebases ascend, no definition's outcome depends on how rebases are found: by their chains, or by
-- halves.
use Prim.Native.Nat.{ℕ}
use mathlib.Core.Path.{◌≡◌, refl, sym, ap, ◌∙◌}
use mathlib.Core.Bool.{true}
use mathlib.Core.List.{List, [], ◌∷◌}
use Rattle.reads.specs.Outcome as outcomes
use Rattle.reads.specs.Outcome.{or_zero}
use Rattle.pointers.specs.Open.{Opened}
use Rattle.pointers.specs.Slot.{rebase_at, resolve, pointer_at, pointer_or0_at}
use Rattle.pointers.specs.Sorted.{ascending}
use Rattle.pointers.specs.Tables.{Tables, image_in, under}
use Rattle.pointers.specs.declared.setting.Setting.{Setting}
use Rattle.reads.proofs.Outcomes.{then_alike}
use Rattle.pointers.proofs.OpenedTables.{rebase_by_either}
use Rattle.records.specs.Ask.{Ask, sum64, nonzero, even, at_least, readable, u32_in, u64_in, i32_in, u64_at, picked, picked_at, slot, rebase, pointer, pointer_or0, string, symbol, info}
use Rattle.records.specs.Asks.{asks, Each}
use Rattle.records.specs.Decode.{Decode, run}
use Rattle.records.proofs.Asks.{AnswerAlike, asks_decide}

module _ (t : Tables) (o : Opened t) (e : ascending t.rebases ≡ true) (u v : Setting) (same : u.reading ≡ v.reading) where
  rebase_alike : (a : ℕ) → rebase_at t.rebases t.index u a ≡ rebase_at t.rebases t.index v a
  rebase_alike a = rebase_by_either t o e u a ∙ sym (rebase_by_either t o e v a)

  slot_alike : (a : ℕ) → resolve (image_in t) t.rebases t.index u a ≡ resolve (image_in t) t.rebases t.index v a
  unfolding resolve
  slot_alike a = rw (rebase_alike a)

  answers_alike : (q : Ask) → AnswerAlike (under u t) (under v t) q
  unfolding pointer_at pointer_or0_at
  answers_alike (sum64 va k) = refl
  answers_alike (nonzero x) = refl
  answers_alike (even va) = refl
  answers_alike (at_least least size) = refl
  answers_alike (readable va k) = refl
  answers_alike (u32_in p i) = refl
  answers_alike (u64_in p i) = refl
  answers_alike (i32_in p i) = refl
  answers_alike (u64_at va) = refl
  answers_alike (picked w) = refl
  answers_alike (picked_at a) = refl
  answers_alike (slot a) = slot_alike a
  answers_alike (rebase a) = rebase_alike a
  answers_alike (pointer va k) = then_alike (outcomes.sum64 va k) slot_alike
  answers_alike (pointer_or0 va k) = then_alike (outcomes.sum64 va k) (λ a. ap or_zero (slot_alike a))
  answers_alike (string va) = rw same
  answers_alike (symbol a) = refl
  answers_alike info = refl

  all_alike : (qs : List Ask) → Each (AnswerAlike (under u t) (under v t)) qs
  all_alike [] = tt
  all_alike (q ∷ qs) = (answers_alike q, all_alike qs)

  pub found_alike : {A : Type 0} (d : Decode A) → run (under u t) d ≡ run (under v t) d
  found_alike d = (asks_decide (under u t) (under v t) d (all_alike (asks (under u t) d))).outcome
