-- Where every string that a definition asks for ends, it has one outcome under both readings, its reason included, and asks the same
-- (document 02, note 12).
use mathlib.Core.Path.{◌≡◌, refl, sym}
use mathlib.Core.List.{List, [], ◌∷◌, ◌++◌, append_assoc}
use Rattle.reads.specs.Endings.{StringEnds}
use Rattle.reads.proofs.Endings.{string_same}
use Rattle.pointers.specs.Slot as slots
use Rattle.pointers.specs.Tables.{Tables, image_in}
use Rattle.records.specs.Ask.{Ask, sum64, nonzero, even, at_least, readable, u32_in, u64_in, i32_in, u64_at, picked, picked_at, slot, rebase, pointer, pointer_or0, string, symbol, info}
use Rattle.records.specs.Asks.{asks, Within, Each}
use Rattle.records.specs.Readings.{under_old, under_new, string_of, strings_among, StringsEnd}
use Rattle.records.specs.Decode.{Decode, run}
use Rattle.records.proofs.Asks.{each_left, each_right, Same, AnswerAlike, asks_decide, within_asks}

-- The strings among two lists of questions.
pub strings_append : (xs ys : List Ask) → strings_among (xs ++ ys) ≡ strings_among xs ++ strings_among ys
unfolding strings_among
strings_append [] ys = refl
strings_append (q ∷ xs) ys = rw (strings_append xs ys) (sym (append_assoc (string_of q) (strings_among xs) (strings_among ys)))

module _ (t : Tables) where
  -- The readings differ in the answers to questions for strings alone.
  same_answer : (q : Ask) → Each (StringEnds (image_in t)) (string_of q) → AnswerAlike (under_old t) (under_new t) q
  unfolding slots.resolve slots.rebase_at slots.pointer_at slots.pointer_or0_at
  same_answer (sum64 va k) h = refl
  same_answer (nonzero x) h = refl
  same_answer (even va) h = refl
  same_answer (at_least least size) h = refl
  same_answer (readable va k) h = refl
  same_answer (u32_in p i) h = refl
  same_answer (u64_in p i) h = refl
  same_answer (i32_in p i) h = refl
  same_answer (u64_at va) h = refl
  same_answer (picked w) h = refl
  same_answer (picked_at a) h = refl
  same_answer (slot a) h = refl
  same_answer (rebase a) h = refl
  same_answer (pointer va k) h = refl
  same_answer (pointer_or0 va k) h = refl
  same_answer (string va) h = string_same (image_in t) va h.0
  same_answer (symbol a) h = refl
  same_answer info h = refl

  same_answers : (qs : List Ask) → Each (StringEnds (image_in t)) (strings_among qs) → Each (AnswerAlike (under_old t) (under_new t)) qs
  unfolding strings_among
  same_answers [] h = tt
  same_answers (q ∷ qs) h =
      (same_answer q (each_left _ (string_of q) (strings_among qs) h), same_answers qs (each_right _ (string_of q) (strings_among qs) h))

  pub readings_agree : {A : Type 0} (d : Decode A) → StringsEnd t d → Same (run (under_old t) d) (run (under_new t) d) (asks (under_old t) d) (asks (under_new t) d)
  readings_agree d h = asks_decide (under_old t) (under_new t) d (same_answers (asks (under_old t) d) h)

  -- And so it is with what is run within it.
  pub parts_agree : {A B : Type 0} {d : Decode A} (e : Decode B) → StringsEnd t e → Within (under_old t) d B e
      → Same (run (under_old t) d) (run (under_new t) d) (asks (under_old t) d) (asks (under_new t) d)
  parts_agree {d = d} e h w = asks_decide (under_old t) (under_new t) d (within_asks (under_old t) _ w (same_answers (asks (under_old t) e) h))
