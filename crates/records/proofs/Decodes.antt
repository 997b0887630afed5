-- What holds of every definition of a record or a row, whatever it asks: over tables that opening accepted, with the index as opening left
-- it, it gives no number; over any tables none but 9, 18, 7 and 14.
use Prim.Native.Nat.{ℕ}
use mathlib.Core.Bool.{Bool}
use Rattle.reads.specs.Outcome.{Outcome, Unrefused, a_value, an_absence}
use Rattle.reads.proofs.Unrefused.{unrefused_then, unrefused_else, unrefused_first, unrefused_choose, sum_unrefused, nonzero_unrefused, readable_unrefused, word_unrefused, text_in_unrefused, picked_unrefused}
use Rattle.pointers.specs.Tables.{Tables, image_in}
use Rattle.pointers.specs.Open.{Opened}
use Rattle.pointers.specs.Slot as lookups
use Rattle.pointers.specs.Slot.{LookupOutcome}
use Rattle.pointers.proofs.OpenedTables.{opened_info, rebase_unrefused, symbol_unrefused, slot_unrefused, pointer_unrefused, pointer_or_0_unrefused}
use Rattle.pointers.proofs.LookupNumbers.{numbers_then, numbers_else, numbers_first, numbers_choose, info_unrefused, rebase_numbers, symbol_numbers, slot_numbers, pointer_numbers, pointer_or_0_numbers}
use Rattle.records.proofs.Headers.{even_unrefused, size_unrefused}
use Rattle.records.specs.Ask.{Ask, sum64, nonzero, even, at_least, readable, u32_in, u64_in, i32_in, u64_at, picked, picked_at, slot, rebase, pointer, pointer_or0, string, symbol, info, answer}
use Rattle.records.specs.Decode.{Decode, made, asked, after, either, either_first, chosen, trial, given, lacking, tried_of, run}
use Rattle.records.specs.Class.{class_at, ro_of, class_name_of, decode_class, decode_ro_of, decode_class_name_of}
use Rattle.records.specs.Protocol.{protocol_at, decode_protocol}
use Rattle.records.specs.Category.{category_at, decode_category}
use Rattle.records.specs.Row.{row_at, decode_row}
use Rattle.records.specs.declared.class.ObjcClass.{ObjcClass}
use Rattle.records.specs.declared.list.RowKind.{RowKind}

-- A trial is refused only where what is tried is.
unrefused_tried : {A : Type 0} {o : Outcome A} → Unrefused o → Unrefused (tried_of o)
unrefused_tried (a_value a) = a_value (given a)
unrefused_tried (an_absence r) = a_value (lacking r)

numbers_tried : {A : Type 0} {o : Outcome A} → LookupOutcome o → LookupOutcome (tried_of o)
numbers_tried (lookups.unrefused u) = lookups.unrefused (unrefused_tried u)
numbers_tried lookups.is_9 = lookups.is_9
numbers_tried lookups.is_18 = lookups.is_18
numbers_tried lookups.is_7 = lookups.is_7
numbers_tried lookups.is_14 = lookups.is_14

module _ (t : Tables) (o : Opened t) where
  answer_unrefused : (q : Ask) → Unrefused (answer t q)
  answer_unrefused (sum64 va k) = sum_unrefused va k
  answer_unrefused (nonzero x) = nonzero_unrefused x
  answer_unrefused (even va) = even_unrefused va
  answer_unrefused (at_least least size) = size_unrefused least size
  answer_unrefused (readable va k) = readable_unrefused (image_in t) va k
  answer_unrefused (u32_in p i) = a_value _
  answer_unrefused (u64_in p i) = a_value _
  answer_unrefused (i32_in p i) = a_value _
  answer_unrefused (u64_at va) = word_unrefused (image_in t) 8 va
  answer_unrefused (picked w) = picked_unrefused t.segments w
  answer_unrefused (picked_at a) = unrefused_then _ (word_unrefused (image_in t) 8 a) (picked_unrefused t.segments)
  answer_unrefused (slot a) = slot_unrefused t o a
  answer_unrefused (rebase a) = rebase_unrefused t o a
  answer_unrefused (pointer va k) = pointer_unrefused t o va k
  answer_unrefused (pointer_or0 va k) = pointer_or_0_unrefused t o va k
  answer_unrefused (string va) = text_in_unrefused t.setting.reading (image_in t) va
  answer_unrefused (symbol a) = symbol_unrefused t o a
  answer_unrefused info = rw (opened_info t o) (a_value o.gave)

  pub unrefused : {A : Type 0} (d : Decode A) → Unrefused (run t d)
  unrefused (made a) = a_value a
  unrefused (asked q) = answer_unrefused q
  unrefused (after d f) = unrefused_then (λ a. run t (f a)) (unrefused d) (λ a. unrefused (f a))
  unrefused (either d e) = unrefused_else (unrefused d) (unrefused e)
  unrefused (either_first d e) = unrefused_first (unrefused d) (unrefused e)
  unrefused (chosen b d e) = unrefused_choose b (unrefused d) (unrefused e)
  unrefused (trial d) = unrefused_tried (unrefused d)

  -- In the form in which walks take it.
  pub class_unrefused : (va : ℕ) (m : Bool) → Unrefused (class_at t va m)
  class_unrefused va m = unrefused (decode_class va m)

  pub ro_unrefused : (c : ObjcClass) → Unrefused (ro_of t c)
  ro_unrefused c = unrefused (decode_ro_of c)

  pub class_name_of_unrefused : (a class : ℕ) → Unrefused (class_name_of t a class)
  class_name_of_unrefused a class = unrefused (decode_class_name_of a class)

  pub row_unrefused : (k : RowKind) (va : ℕ) → Unrefused (row_at t k va)
  row_unrefused k va = unrefused (decode_row k va)

  pub protocol_unrefused : (va : ℕ) → Unrefused (protocol_at t va)
  protocol_unrefused va = unrefused (decode_protocol va)

  pub category_unrefused : (va : ℕ) → Unrefused (category_at t va)
  category_unrefused va = unrefused (decode_category va)

-- Over any tables a definition gives no number but 9, 7 and 14.
module _ (t : Tables) where
  answer_numbers : (q : Ask) → LookupOutcome (answer t q)
  answer_numbers (sum64 va k) = lookups.unrefused (sum_unrefused va k)
  answer_numbers (nonzero x) = lookups.unrefused (nonzero_unrefused x)
  answer_numbers (even va) = lookups.unrefused (even_unrefused va)
  answer_numbers (at_least least size) = lookups.unrefused (size_unrefused least size)
  answer_numbers (readable va k) = lookups.unrefused (readable_unrefused (image_in t) va k)
  answer_numbers (u32_in p i) = lookups.unrefused (a_value _)
  answer_numbers (u64_in p i) = lookups.unrefused (a_value _)
  answer_numbers (i32_in p i) = lookups.unrefused (a_value _)
  answer_numbers (u64_at va) = lookups.unrefused (word_unrefused (image_in t) 8 va)
  answer_numbers (picked w) = lookups.unrefused (picked_unrefused t.segments w)
  answer_numbers (picked_at a) = lookups.unrefused (unrefused_then _ (word_unrefused (image_in t) 8 a) (picked_unrefused t.segments))
  answer_numbers (slot a) = slot_numbers t a
  answer_numbers (rebase a) = rebase_numbers t a
  answer_numbers (pointer va k) = pointer_numbers t va k
  answer_numbers (pointer_or0 va k) = pointer_or_0_numbers t va k
  answer_numbers (string va) = lookups.unrefused (text_in_unrefused t.setting.reading (image_in t) va)
  answer_numbers (symbol a) = symbol_numbers t a
  answer_numbers info = lookups.unrefused (info_unrefused t.info)

  pub numbers : {A : Type 0} (d : Decode A) → LookupOutcome (run t d)
  numbers (made a) = lookups.unrefused (a_value a)
  numbers (asked q) = answer_numbers q
  numbers (after d f) = numbers_then (λ a. run t (f a)) (numbers d) (λ a. numbers (f a))
  numbers (either d e) = numbers_else (numbers d) (numbers e)
  numbers (either_first d e) = numbers_first (numbers d) (numbers e)
  numbers (chosen b d e) = numbers_choose b (numbers d) (numbers e)
  numbers (trial d) = numbers_tried (numbers d)

  -- A row's number is 9, 7 or 14.
  pub row_number : (k : RowKind) (va : ℕ) → LookupOutcome (row_at t k va)
  row_number k va = numbers (decode_row k va)
