-- Laws of passes that go over a list, one of its items after another.
use Prim.Native.Nat.{ℕ, zero, suc, ◌+◌, ◌-◌, ◌≤◌, ◌<◌, ◌^◌}
use mathlib.Core.Path.{◌≡◌, refl, sym, ap, ◌∙◌}
use mathlib.Core.Bool.{Bool, true, false}
use mathlib.Core.List.{List, [], ◌∷◌, ◌++◌, map, append-nil}
use native.Mathlib.Omega.{arith}
use lib.Dec.{ltb}
use borrow.Author.Tests.{ltb-true}
use Rattle.std.specs.Prelude.{Option, Some}
use Rattle.std.proofs.lemmas.List.{drop_more, drop_all}
use lib.ListN.{length, get_or, drop}
use Rattle.reads.specs.Outcome.{Outcome, value, absent, refused, and_then, optional}
use Rattle.reads.specs.declared.answer.Question.{Question}
use Rattle.reads.proofs.Tests.{both_true, choose_true, choose_false}
use Rattle.pointers.specs.Tables.{Tables, image_in}
use Rattle.records.specs.Asks.{if_value}
use Rattle.records.specs.Decode.{Decode, tried_of, run, done, then, tried}
use Rattle.records.specs.Search.{readables}
use Rattle.records.specs.declared.list.Layout.{Layout}
use Rattle.walks.specs.ProtocolNames.{has_slot, slot_in}
use Rattle.walks.specs.declared.protocol_names.ProtocolList.{ProtocolList}
use Rattle.listing.specs.DecodeListing.{decode_readables}
use Rattle.listing.proofs.DecodedListing.{readables_run}
use Rattle.ranges.specs.Sheet.{noted_all}
use Rattle.ranges.proofs.SheetLaws.{noted_append}
use Rattle.used.specs.Used.{used}
use Rattle.used.proofs.ReadableUses.{readables_use}
use Rattle.used.proofs.UsedParts.{used_done, used_then, used_tried}
use Rattle.usage.specs.Noting.{noted_on, noting, traced, trace, Traced}
use Rattle.usage.specs.Pass.{reads, both, or_end, if_there, each, list_slots}
use Rattle.usage.specs.declared.noting.Noting.{Noting}

-- One definition after another, by what the code hands back of the first.
module _ {A B : Type 0} (d : Decode A) (g : A → Decode B) (n m : Noting) where
  then_noted : noting (then d g) n ≡ noted_on (if_value (run n.tables.now d) (λ a. used n.tables.now (g a))) (noting d n)
  unfolding noting
  then_noted =
      ap (λ rs. noted_on rs n) (used_then n.tables.now d g)
      ∙ ap (λ (x : List ℕ). record n { sheet = record (n.sheet) { now = x } }) (noted_append (used n.tables.now d) (if_value (run n.tables.now d) (λ a. used n.tables.now (g a))) n.sheet.now)

  first_by : (o : Outcome A) → traced o m ≡ trace d n
      → traced (and_then o (λ a. run n.tables.now (g a))) (noted_on (if_value o (λ a. used n.tables.now (g a))) m) ≡ trace (then d g) n
  first_by o h =
      ap (λ (x : Traced A). traced (and_then x.outcome (λ a. run n.tables.now (g a))) (noted_on (if_value x.outcome (λ a. used n.tables.now (g a))) x.noting)) h
      ∙ ap (traced (run n.tables.now (then d g))) (sym then_noted)

  pub then_on : {a : A} → traced (value a) m ≡ trace d n → trace (g a) m ≡ trace (then d g) n
  unfolding noting
  then_on {a} h = ap (λ (x : Traced A). trace (g a) x.noting) h ∙ ap (λ (x : Traced A). traced (run n.tables.now (g a)) (noted_on (used n.tables.now (g a)) x.noting)) (sym h) ∙ first_by (value a) h

  pub then_stop : {k : Question} → traced (refused k) m ≡ trace d n → traced (refused k) m ≡ trace (then d g) n
  unfolding noted_all
  then_stop {k} h = first_by (refused k) h

-- A definition that may be absent.
module _ {A : Type 0} (d : Decode A) (n m : Noting) where
  tried_by : {o : Outcome A} → traced o m ≡ trace d n → traced (tried_of o) m ≡ trace (tried d) n
  unfolding noting
  tried_by h = ap (λ (x : Traced A). traced (tried_of x.outcome) x.noting) h ∙ ap (λ rs. traced (tried_of (run n.tables.now d)) (noted_on rs n)) (sym (used_tried n.tables.now d))

  module _ (f : A → Decode (Unit {0})) where
    pub there_on : {a : A} → traced (value a) m ≡ trace d n → trace (f a) m ≡ trace (if_there d f) n
    there_on h = then_on (tried d) (or_end f) n m (tried_by h)

    pub there_stop : {k : Question} → traced (refused k) m ≡ trace d n → traced (refused k) m ≡ trace (if_there d f) n
    there_stop h = then_stop (tried d) (or_end f) n m (tried_by h)

-- Each of a list.
module _ {A : Type 0} (f : A → Decode (Unit {0})) where
  pub each_on : (x : A) (xs : List A) (n m : Noting) → traced (value tt) m ≡ trace (f x) n → trace (each f xs) m ≡ trace (each f (x ∷ xs)) n
  unfolding each
  each_on x xs n m h = then_on (f x) (λ _. each f xs) n m h

  pub each_stop : (x : A) (xs : List A) (n m : Noting) (k : Question) → traced (refused k) m ≡ trace (f x) n → traced (refused k) m ≡ trace (each f (x ∷ xs)) n
  unfolding each
  each_stop x xs n m k h = then_stop (f x) (λ _. each f xs) n m h

  pub each_end : (n : Noting) → traced (value tt) n ≡ trace (each f []) n
  unfolding each noting noted_all
  each_end n = ap (λ rs. traced (value tt) (noted_on rs n)) (sym (used_done n.tables.now tt))

-- The same of a list by the index of the item that comes next.
module _ {A : Type 0} (f : A → Decode (Unit {0})) (xs : List A) (i : ℕ) (n : Noting) where
  pub items_on : (d : A) (m : Noting) → i < length xs → traced (value tt) m ≡ trace (f (get_or xs i d)) n → trace (each f (drop (i + 1) xs)) m ≡ trace (each f (drop i xs)) n
  items_on d m h e = each_on f (get_or xs i d) (drop (i + 1) xs) n m e ∙ ap (λ l. trace (each f l) n) (sym (drop_more xs i d h))

  pub items_stop : (d : A) (m : Noting) (k : Question) → i < length xs → traced (refused k) m ≡ trace (f (get_or xs i d)) n → traced (refused k) m ≡ trace (each f (drop i xs)) n
  items_stop d m k h e = each_stop f (get_or xs i d) (drop (i + 1) xs) n m k e ∙ ap (λ l. trace (each f l) n) (sym (drop_more xs i d h))

  pub items_end : length xs ≤ i → traced (value tt) n ≡ trace (each f (drop i xs)) n
  items_end h = each_end f n ∙ ap (λ l. trace (each f l) n) (sym (drop_all i xs h))

pub each_map : {A B : Type 0} (f : A → Decode (Unit {0})) (g : B → A) (xs : List B) → each (λ x. f (g x)) xs ≡ each f (map g xs)
unfolding each
each_map f g [] = refl
each_map f g (x ∷ xs) = ap (λ (d : Decode (Unit {0})). both (f (g x)) d) (each_map f g xs)

-- What is there, as the code says it.
pub some_there : {A : Type 0} (o : Outcome A) {x : Option A} {a : A} → value x ≡ optional o → x ≡ Some a → o ≡ value a
some_there (value b) e d = cc
some_there (absent r) e d = cc
some_there (refused k) e d = cc

-- What is made of a value at the end reads nothing.
module _ {A B : Type 0} (t : Tables) (d : Decode A) (g : A → B) where
  pub used_last : used t (then d (λ a. done (g a))) ≡ used t d
  used_last = used_then t d (λ a. done (g a)) ∙ ap (λ rs. used t d ++ rs) (go (run t d)) ∙ append-nil (used t d)
    where
      go : (o : Outcome A) → if_value o (λ a. used t (done (g a))) ≡ []
      go (value a) = used_done t (g a)
      go (absent r) = refl
      go (refused k) = refl

pub reads_same : {A B : Type 0} (d : Decode A) (g : A → B) (n : Noting) → trace (reads d) n ≡ trace (reads (then d (λ a. done (g a)))) n
unfolding noting
reads_same {A} {B} d g n =
    ap (λ o. traced o (noted_on (used n.tables.now (reads d)) n)) (go (run n.tables.now d))
    ∙ ap (λ rs. traced (and_then (and_then (run n.tables.now d) (λ a. value (g a))) (λ _. value tt)) (noted_on rs n))
    (used_last n.tables.now d (λ _. tt) ∙ sym (used_last n.tables.now d g) ∙ sym (used_last n.tables.now (then d (λ a. done (g a))) (λ _. tt)))
  where
    go : (o : Outcome A) → and_then o (λ _. value (tt {0})) ≡ and_then (and_then o (λ a. value (g a))) (λ _. value tt)
    go (value a) = refl
    go (absent r) = refl
    go (refused k) = refl

-- The entries of a list that can be read are looked up by tests, which use nothing.
pub readables_on : {B : Type 0} (h : Layout) (g : List ℕ → Decode B) (n : Noting)
    → trace (g (readables (image_in n.tables.now) h)) n ≡ trace (then (decode_readables h) g) n
unfolding noting
readables_on h g n =
    ap (λ rs. traced (run n.tables.now (g (readables (image_in n.tables.now) h))) (noted_on rs n)) (sym (readables_use n.tables.now h g))
    ∙ ap (λ o. traced (and_then o (λ js. run n.tables.now (g js))) (noted_on (used n.tables.now (then (decode_readables h) g)) n)) (sym (readables_run n.tables.now h))

-- The slots of a protocol list that are left at one.
module _ (l : ProtocolList) (i : ℕ) (b : Bool) (said : b ≡ has_slot l i) where
  parts : b ≡ true → (ltb i l.count ≡ true) × (ltb (slot_in l i) (2 ^ 64) ≡ true)
  unfolding has_slot
  parts e = both_true (ltb i l.count) (ltb (slot_in l i) (2 ^ 64)) (sym said ∙ e)

  pub slot_below : b ≡ true → i < l.count
  slot_below e = ltb-true i l.count (parts e).0

  pub slot_in_64 : b ≡ true → slot_in l i < 2 ^ 64
  slot_in_64 e = ltb-true (slot_in l i) (2 ^ 64) (parts e).1

  pub slots_first : b ≡ true → list_slots l i (l.count - i) ≡ slot_in l i ∷ list_slots l (i + 1) (l.count - (i + 1))
  slots_first e =
      let h = slot_below e in
      let left : l.count - i ≡ suc (l.count - (i + 1)) = omega arith in
      ap (list_slots l i) left ∙ unfold list_slots in choose_true (slot_in l i ∷ list_slots l (i + 1) (l.count - (i + 1))) [] (sym said ∙ e)

  pub slots_none : b ≡ false → list_slots l i (l.count - i) ≡ []
  slots_none e = go (l.count - i)
    where
      go : (k : ℕ) → list_slots l i k ≡ []
      go zero = unfold list_slots in refl
      go (suc k) = unfold list_slots in choose_false (slot_in l i ∷ list_slots l (i + 1) k) [] (sym said ∙ e)
