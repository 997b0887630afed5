-- Where every rebase chain falls, no lookup of a rebase gives 9, and so no class gives a number.
use Prim.Native.Nat.{ℕ, zero, suc, ◌+◌, ◌-◌, ◌*◌, ◌≤◌, ◌<◌}
use mathlib.Core.Path.{◌≡◌, refl}
use mathlib.Core.Bool.{Bool, true, false}
use native.Mathlib.Omega.{arith}
use lib.Dec.{leb}
use lib.ListN.{get_or}
use borrow.Author.Tests.{leb-true, eqb-false}
use Rattle.reads.specs.Outcome.{value, Unrefused, a_value, an_absence}
use Rattle.reads.proofs.Tests.{by_choose, both_true}
use Rattle.reads.proofs.Unrefused.{unrefused_then, unrefused_else, unrefused_because, unrefused_zero, sum_unrefused, nonzero_unrefused, readable_unrefused, word_unrefused, picked_unrefused}
use Rattle.reads.specs.Address.{stripped}
use Rattle.reads.specs.Table.{records}
use Rattle.reads.specs.declared.answer.Reason.TheVariants.{NoRecord, Unresolved}
use Rattle.pointers.specs.Tables.{Tables, image_in, rebase_words, rebase_record, chains}
use Rattle.pointers.proofs.Questions.{every_at}
use Rattle.pointers.specs.Index.{chain_of}
use Rattle.pointers.specs.Chain.{follow_from, follow}
use Rattle.pointers.specs.declared.setting.Lookup.{Lookup}
use Rattle.pointers.specs.declared.setting.Lookup.TheVariants.{Chained, Sorted}
use Rattle.pointers.proofs.SortedLookups.{sorted_unrefused}
use Rattle.pointers.specs.Slot.{rebase_number, rebase_at, rebase, stored, resolve, slot}
use Rattle.records.specs.Class.{decode_data, decode_class, data_at, class_at}
use Rattle.records.specs.declared.class.ObjcClass.{ObjcClass}
use Rattle.ancestry.specs.Ancestry.{super_at, up_in}
use Rattle.ancestry.specs.Rebases.{heads_fall, nexts_fall, chains_fall}

module _ (t : Tables) (fall : chains_fall t.rebases t.index ≡ true) where
  abbrev rebase_count : ℕ
  rebase_count = records rebase_words t.rebases

  head : (c : ℕ) → c < chains → get_or t.index c 0 ≤ rebase_count
  unfolding chains_fall heads_fall
  head c h =
      let b = both_true (heads_fall t.index rebase_count) (nexts_fall t.index rebase_count) fall in
      leb-true (get_or t.index c 0) rebase_count (every_at (λ c. leb (get_or t.index c 0) rebase_count) chains b.0 c h)

  next : (k : ℕ) → k < rebase_count → get_or t.index (2 * chains + k) 0 ≤ k
  unfolding chains_fall nexts_fall
  next k h =
      let b = both_true (heads_fall t.index rebase_count) (nexts_fall t.index rebase_count) fall in
      leb-true (get_or t.index (2 * chains + k) 0) k (every_at (λ k. leb (get_or t.index (2 * chains + k) 0) k) rebase_count b.1 k h)

  from_unrefused : (a limit n : ℕ) → limit ≤ rebase_count → n ≤ limit → Unrefused (follow_from rebase_words t.rebases (2 * chains) a t.index limit n)
  unfolding follow_from
  from_unrefused a zero n h l =
      let z : n ≡ 0 = omega arith in
      rw z (by_choose Unrefused (λ e. an_absence NoRecord) (λ e. absurd (eqb-false 0 0 e refl)))
  from_unrefused a (suc limit) n h l =
      by_choose Unrefused
      (λ e. by_choose Unrefused (λ f. a_value n) (λ f. from_unrefused a limit _ (omega arith) (next limit h)))
      (λ e. let ne = eqb-false n (suc limit) e in from_unrefused a limit n (omega arith) (omega arith))

  number_falls : (a : ℕ) (l : Lookup) → Unrefused (rebase_number l t.rebases t.index a)
  unfolding follow
  number_falls a Chained =
      let low : 0 + chain_of a ≡ chain_of a = omega arith in
      from_unrefused a rebase_count _ (omega arith) (rw low (head (chain_of a) (omega arith)))
  number_falls a Sorted = sorted_unrefused t.rebases a

  pub rebase_falls : (a : ℕ) → Unrefused (rebase t a)
  unfolding rebase_at
  rebase_falls a =
      unrefused_then (λ n. value (rebase_record t.rebases (n - 1)).target) (number_falls a t.setting.lookup)
      (λ n. a_value (rebase_record t.rebases (n - 1)).target)

  stored_unrefused : (a : ℕ) → Unrefused (stored (image_in t) a)
  unfolding stored
  stored_unrefused a = unrefused_then (λ w. value (stripped w)) (word_unrefused (image_in t) 8 a) (λ w. a_value (stripped w))

  slot_falls : (a : ℕ) → Unrefused (slot t a)
  unfolding resolve
  slot_falls a = unrefused_because Unresolved (unrefused_else (rebase_falls a) (stored_unrefused a))

  data_falls : (a raw : ℕ) → Unrefused (data_at t a raw)
  unfolding decode_data
  data_falls a raw = unrefused_else (rebase_falls a) (picked_unrefused t.segments raw)

  pub class_falls : (va : ℕ) (m : Bool) → Unrefused (class_at t va m)
  unfolding decode_class
  class_falls va m =
      unrefused_then _ (readable_unrefused (image_in t) va 40) (λ p.
      unrefused_then _ (sum_unrefused va 8) (λ super.
      unrefused_then _ (sum_unrefused va 32) (λ bits.
      unrefused_then _ (unrefused_zero (slot_falls va)) (λ isa.
      unrefused_then _ (unrefused_zero (slot_falls super)) (λ superclass.
      unrefused_then _ (word_unrefused (image_in t) 8 bits) (λ raw.
      unrefused_then _ (unrefused_zero (data_falls bits raw)) (λ target. a_value _)))))))

  pub super_falls : (c : ObjcClass) → Unrefused (super_at t c)
  unfolding super_at
  super_falls c = unrefused_then _ (nonzero_unrefused c.superclass_address) (λ a. class_falls a c.is_meta)

  pub up_falls : (a : ℕ) → Unrefused (up_in t a)
  unfolding up_in
  up_falls a =
      unrefused_then _ (class_falls a false) (λ c. unrefused_then (λ d. value d.address) (super_falls c) (λ d. a_value d.address))
