-- What a call gives (document 01, "The questions, in order"): a value, absent for a reason (document 02, note 2), or the number of
-- the question that refuses.
use Rattle.std.specs.Prelude.{ℕ, ◌+◌, ◌^◌, Bool, true, false, ◌==◌, nat_lt, Option, Some, None}
use Rattle.reads.specs.declared.answer.Reason.{Reason}
use Rattle.reads.specs.declared.answer.Reason.TheVariants.{NullAddress, FieldOverflow}
use Rattle.reads.specs.declared.text.Text.{Text}
use Rattle.reads.specs.declared.answer.Question.{Question}

pub data Outcome (A : Type 0) : Type 0 where
  value : A → Outcome A
  absent : Reason → Outcome A
  refused : Question → Outcome A

-- No question refuses: a value or absent.
pub data Unrefused {A : Type 0} : Outcome A → Type 0 where
  a_value : (a : A) → Unrefused (value a)
  an_absence : (r : Reason) → Unrefused (absent r)

-- A value goes on to the next question; absent and a number end.
abbrev pub and_then : {A B : Type 0} → Outcome A → (A → Outcome B) → Outcome B
and_then (value a) f = f a
and_then (absent r) f = absent r
and_then (refused k) f = refused k

-- An absence gets this reason.
abbrev pub because : {A : Type 0} → Reason → Outcome A → Outcome A
because why (value a) = value a
because why (absent r) = absent why
because why (refused k) = refused k

-- The first, or the second where the first is absent; where both are, the second's reason stands.
abbrev pub or_else : {A : Type 0} → Outcome A → Outcome A → Outcome A
or_else (value a) o = value a
or_else (absent r) o = o
or_else (refused k) o = refused k

-- The same, but where both are absent the first's reason stands.
abbrev pub or_first : {A : Type 0} → Outcome A → Outcome A → Outcome A
or_first (value a) o = value a
or_first (absent r) o = because r o
or_first (refused k) o = refused k

abbrev pub is_absent : {A : Type 0} → Outcome A → Bool
is_absent (value a) = false
is_absent (absent r) = true
is_absent (refused k) = false

-- What is there; what is absent gives nothing.
abbrev pub optional : {A : Type 0} → Outcome A → Outcome (Option A)
optional (value a) = value (Some a)
optional (absent why) = value None
optional (refused k) = refused k

-- "or 0" (document 01, Records): absent counts as 0.
abbrev pub or_zero : Outcome ℕ → Outcome ℕ
or_zero o = or_else o (value 0)

abbrev pub text_of : ℕ → ℕ → ℕ → Text
text_of file offset len = record { file = file; offset = offset; len = len }

-- A missing text is the empty one, in file 0 at offset 0 (document 01, Reading rules; document 02, note 6).
abbrev pub or_empty : Outcome Text → Outcome Text
or_empty o = or_else o (value (text_of 0 0 0))

-- One of two, by a test.
unfoldable pub choose : {A : Type 0} → Bool → A → A → A
choose true a b = a
choose false a b = b

-- A sum, absent over 64 bits: the address of a field.
unfoldable pub sum64 : ℕ → ℕ → Outcome ℕ
sum64 a b = choose (nat_lt (a + b) (2 ^ 64)) (value (a + b)) (absent FieldOverflow)

-- An address that is not 0.
unfoldable pub nonzero : ℕ → Outcome ℕ
nonzero x = choose (x == 0) (absent NullAddress) (value x)
