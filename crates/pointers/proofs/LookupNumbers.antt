-- Over any tables a lookup gives no number but 9, 18, 7 and 14; and what is made of such outcomes gives no other.
use Prim.Native.Nat.{ℕ, ◌-◌, ◌*◌}
use mathlib.Core.Bool.{Bool}
use mathlib.Core.List.{List, [], ◌∷◌}
use lib.Dec.{eqb}
use Rattle.reads.specs.Outcome.{Outcome, value, Unrefused, a_value, an_absence, and_then, because, or_else, or_first, or_zero, choose}
use Rattle.reads.specs.Table.{records}
use Rattle.reads.specs.declared.answer.Reason.{Reason}
use Rattle.reads.specs.declared.answer.Reason.TheVariants.{Unresolved, Unreadable, NoRecord}
use Rattle.reads.proofs.Tests.{by_choose}
use Rattle.reads.proofs.Unrefused.{unrefused_choose, sum_unrefused}
use Rattle.pointers.specs.Tables.{Tables, image_in, bind_words, rebase_words, chains, slot_of, rebase_record, bind_record}
use Rattle.pointers.specs.Question.{question, bind_lent, bind_inside, bind_utf8}
use Rattle.pointers.specs.ImageInfo.{image_info}
use Rattle.pointers.specs.Index.{bind_nexts}
use Rattle.pointers.specs.Chain.{descends, slots_record, slots_chain, follow}
use Rattle.pointers.specs.Symbol.{stripped_name}
use Rattle.pointers.specs.Slot.{rebase_number, rebase_at, bind_name, bind_at, symbol_of, symbol_at, resolve, pointer_at, pointer_or0_at, rebase, slot, pointer, pointer_or0, LookupOutcome, unrefused, is_9, is_18, is_7, is_14}
use Rattle.pointers.specs.declared.setting.Lookup.{Lookup}
use Rattle.pointers.specs.declared.setting.Lookup.TheVariants.{Chained, Sorted}
use Rattle.pointers.proofs.ChainAsked.{follow_asked}
use Rattle.pointers.proofs.SortedLookups.{sorted_unrefused}
use Rattle.pointers.proofs.OpenedTables.{stored_unrefused}

pub numbers_then : {A B : Type 0} {o : Outcome A} (f : A → Outcome B) → LookupOutcome o → ((a : A) → LookupOutcome (f a)) → LookupOutcome (and_then o f)
numbers_then f (unrefused (a_value a)) v = v a
numbers_then f (unrefused (an_absence r)) v = unrefused (an_absence r)
numbers_then f is_9 v = is_9
numbers_then f is_18 v = is_18
numbers_then f is_7 v = is_7
numbers_then f is_14 v = is_14

pub numbers_else : {A : Type 0} {o p : Outcome A} → LookupOutcome o → LookupOutcome p → LookupOutcome (or_else o p)
numbers_else (unrefused (a_value a)) v = unrefused (a_value a)
numbers_else (unrefused (an_absence r)) v = v
numbers_else is_9 v = is_9
numbers_else is_18 v = is_18
numbers_else is_7 v = is_7
numbers_else is_14 v = is_14

pub numbers_because : {A : Type 0} {o : Outcome A} (why : Reason) → LookupOutcome o → LookupOutcome (because why o)
numbers_because why (unrefused (a_value a)) = unrefused (a_value a)
numbers_because why (unrefused (an_absence r)) = unrefused (an_absence why)
numbers_because why is_9 = is_9
numbers_because why is_18 = is_18
numbers_because why is_7 = is_7
numbers_because why is_14 = is_14

pub numbers_first : {A : Type 0} {o p : Outcome A} → LookupOutcome o → LookupOutcome p → LookupOutcome (or_first o p)
numbers_first (unrefused (a_value a)) v = unrefused (a_value a)
numbers_first (unrefused (an_absence r)) v = numbers_because r v
numbers_first is_9 v = is_9
numbers_first is_18 v = is_18
numbers_first is_7 v = is_7
numbers_first is_14 v = is_14

pub numbers_choose : {A : Type 0} (b : Bool) {o p : Outcome A} → LookupOutcome o → LookupOutcome p → LookupOutcome (choose b o p)
numbers_choose b u v = by_choose LookupOutcome (λ e. u) (λ e. v)

record_unrefused : (width : ℕ) (table : List ℕ) (a : ℕ) (ns : List ℕ) → Unrefused (slots_record width table a ns)
unfolding slots_record
record_unrefused width table a [] = an_absence NoRecord
record_unrefused width table a (n ∷ ns) = unrefused_choose (eqb (slot_of width table (n - 1)) a) (a_value n) (record_unrefused width table a ns)

follow_numbers : (width : ℕ) (table : List ℕ) (heads nexts a : ℕ) (index : List ℕ) → LookupOutcome (follow width table heads nexts a index)
unfolding question
follow_numbers width table heads nexts a index =
    rw (follow_asked width table heads nexts a index)
    (numbers_then (λ _. slots_record width table a (slots_chain width table heads nexts a index))
    (numbers_choose (descends (records width table) (slots_chain width table heads nexts a index)) (unrefused (a_value tt)) is_9)
    (λ _. unrefused (record_unrefused width table a (slots_chain width table heads nexts a index))))

number_numbers : (rebases index : List ℕ) (a : ℕ) (l : Lookup) → LookupOutcome (rebase_number l rebases index a)
number_numbers rebases index a Chained = follow_numbers rebase_words rebases 0 (2 * chains) a index
number_numbers rebases index a Sorted = unrefused (sorted_unrefused rebases a)

bind_name_numbers : (files : List (List ℕ)) (binds : List ℕ) (i : ℕ) → LookupOutcome (bind_name files binds i)
unfolding bind_name question
bind_name_numbers files binds i =
    numbers_then _ (numbers_choose (bind_lent files binds i) (unrefused (a_value tt)) is_18)
    (λ _. numbers_then _ (numbers_choose (bind_inside files binds i) (unrefused (a_value tt)) is_7)
    (λ _. numbers_then (λ _. value (bind_record binds i).name) (numbers_choose (bind_utf8 files binds i) (unrefused (a_value tt)) is_14)
    (λ _. unrefused (a_value (bind_record binds i).name))))

pub info_unrefused : (body : List ℕ) → Unrefused (image_info body)
unfolding image_info
info_unrefused body = unrefused_choose _ (a_value _) (an_absence Unreadable)

module _ (t : Tables) where
  pub rebase_numbers : (a : ℕ) → LookupOutcome (rebase t a)
  unfolding rebase_at
  rebase_numbers a =
      numbers_then (λ n. value (rebase_record t.rebases (n - 1)).target) (number_numbers t.rebases t.index a t.setting.lookup)
      (λ n. unrefused (a_value (rebase_record t.rebases (n - 1)).target))

  pub symbol_numbers : (a : ℕ) → LookupOutcome (symbol_at t a)
  unfolding symbol_of bind_at
  symbol_numbers a =
      numbers_then (λ name. value (stripped_name t.files name))
      (numbers_then (λ n. bind_name t.files t.binds (n - 1)) (follow_numbers bind_words t.binds chains (bind_nexts t.rebases) a t.index)
      (λ n. bind_name_numbers t.files t.binds (n - 1)))
      (λ name. unrefused (a_value (stripped_name t.files name)))

  pub slot_numbers : (a : ℕ) → LookupOutcome (slot t a)
  unfolding resolve
  slot_numbers a = numbers_because Unresolved (numbers_else (rebase_numbers a) (unrefused (stored_unrefused (image_in t) a)))

  pub pointer_numbers : (va k : ℕ) → LookupOutcome (pointer t va k)
  unfolding pointer_at
  pointer_numbers va k = numbers_then (resolve (image_in t) t.rebases t.index t.setting) (unrefused (sum_unrefused va k)) slot_numbers

  pub pointer_or_0_numbers : (va k : ℕ) → LookupOutcome (pointer_or0 t va k)
  unfolding pointer_or0_at
  pointer_or_0_numbers va k =
      numbers_then (λ a. or_zero (resolve (image_in t) t.rebases t.index t.setting a)) (unrefused (sum_unrefused va k))
      (λ a. numbers_else (slot_numbers a) (unrefused (a_value 0)))
