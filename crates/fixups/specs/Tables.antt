-- The words of the records, and what a walk leaves in the lent tables.
use denote.Ref.{MutBor}
use Rattle.std.specs.Prelude.{◌≡◌, ℕ, ◌+◌, ◌-◌, ◌*◌, ◌^◌, List, [], ◌∷◌, ◌++◌, length, nat_le, nat_lt, Result, Ok, Err}
use Rattle.std.proofs.lemmas.List.Edits.{sets}
use Rattle.reads.specs.Outcome.{Outcome, value, refused, and_then, choose}
use Rattle.fixups.specs.declared.chain.Fixup.{Fixup}
use Rattle.fixups.specs.declared.chain.Fixup.TheVariants.{Rebase, Bind}
use Rattle.fixups.specs.declared.name.Bound.{Bound}
use Rattle.fixups.specs.declared.table.Lists.{Lists}
use Rattle.reads.specs.declared.answer.Question.{Question}

-- The row of a bind: its name lies in file 0.
abbrev pub named_row : Bound → List ℕ
named_row x = x.slot ∷ x.name.at ∷ x.name.len ∷ 0 ∷ []

-- The row of a record in the rebase table and in the bind table; it has none in the other's.
abbrev pub rebase_row : Fixup → List ℕ
rebase_row (Rebase x) = x.slot ∷ x.target ∷ []
rebase_row (Bind x) = []

abbrev pub bind_row : Fixup → List ℕ
bind_row (Rebase x) = []
bind_row (Bind x) = named_row x

-- The rows of records, in order.
unfoldable pub rows_of : {A : Type 0} → (A → List ℕ) → List A → List ℕ
rows_of row [] = []
rows_of row (x ∷ xs) = row x ++ rows_of row xs

-- A table under way: its records so far, counted up to what a word holds, and its words.
pub record Part : Type 0 where
  pub count : ℕ
  pub words : List ℕ

abbrev pub part : ℕ → List ℕ → Part
part n ws = record { count = n; words = ws }

unfoldable pub one_up : ℕ → ℕ
one_up n = choose (nat_lt n (2 ^ 64 - 1)) (n + 1) n

-- One row more, put if the table has room for it; an empty one is no record.
unfoldable pub put_row : List ℕ → Part → Part
put_row [] p = p
put_row (w ∷ ws) p =
    part (one_up p.count)
    (choose (nat_le (length (w ∷ ws) * p.count + length (w ∷ ws)) (length p.words)) (sets p.words (length (w ∷ ws) * p.count) (w ∷ ws)) p.words)

-- The rows of records, one after the other.
unfoldable pub put_rows : {A : Type 0} → (A → List ℕ) → List A → Part → Part
put_rows row [] p = p
put_rows row (x ∷ xs) p = put_rows row xs (put_row (row x) p)

-- Both tables.
pub record State : Type 0 where
  pub rebases : Part
  pub binds : Part

abbrev pub state : ℕ → ℕ → List ℕ → List ℕ → State
state r b rs bs = record { rebases = part r rs; binds = part b bs }

abbrev pub state_in : Lists → State
state_in l = state l.rebased l.bound l.rebases.now l.binds.now

-- A table that takes rows is the same table.
pub record Kept (o p : MutBor (List ℕ)) : Type 0 where
  pub table : p.ghost_name ≡ o.ghost_name
  pub words : length p.now ≡ length o.now

pub record BothKept (o p : Lists) : Type 0 where
  pub rebases : Kept o.rebases p.rebases
  pub binds : Kept o.binds p.binds

unfoldable pub put : Fixup → State → State
put x s = record { rebases = put_row (rebase_row x) s.rebases; binds = put_row (bind_row x) s.binds }

unfoldable pub puts : List Fixup → State → State
puts [] s = s
puts (x ∷ xs) s = puts xs (put x s)

-- What a walk that finds x leaves.
unfoldable pub told : Outcome (List Fixup) → State → Outcome State
told x s = and_then x (λ xs. value (puts xs s))

-- What a walk's answer says of the tables that it leaves.
abbrev pub reached : Result (Unit {0}) Question → State → Outcome State
reached (Ok u) s = value s
reached (Err k) s = refused k

-- What a walk that finds x, and its answer r, leave of the tables o: they are the same tables, with the records of x.
pub record Walks (x : Outcome (List Fixup)) (r : Result (Unit {0}) Question) (o p : Lists) : Type 0 where
  pub kept : BothKept o p
  pub told : reached r (state_in p) ≡ told x (state_in o)

-- And an answer of both counts.
abbrev pub state_of : Result (ℕ × ℕ) Question → List ℕ → List ℕ → Outcome State
state_of (Ok n) rs bs = value (state n.0 n.1 rs bs)
state_of (Err k) rs bs = refused k

-- The state after a slot, and the bytes to the next.
pub record Stepped : Type 0 where
  pub step : ℕ
  pub after : State

abbrev pub stepped : ℕ → State → Stepped
stepped n s = record { step = n; after = s }

abbrev pub stepped_of : Result ℕ Question → State → Outcome Stepped
stepped_of (Ok n) s = value (stepped n s)
stepped_of (Err k) s = refused k
