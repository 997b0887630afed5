-- The words of the binds, and what a walk leaves in the lent table.
use Rattle.std.specs.Prelude.{◌≡◌, ℕ, List, Result, Ok, Err}
use Rattle.reads.specs.Outcome.{Outcome, value, refused, and_then}
use Rattle.fixups.specs.Tables.{named_row, Part, part, put_rows, Kept}
use Rattle.opcodes.specs.Binding.{Moved}
use Rattle.opcodes.specs.declared.binding.State.{State}
use Rattle.fixups.specs.declared.name.Bound.{Bound}
use Rattle.opcodes.specs.declared.binding.Binds.{Binds}
use Rattle.reads.specs.declared.answer.Question.{Question}

-- The table under way.
abbrev pub part_in : Binds → Part
part_in b = part b.count b.table.now

-- What a walk that makes these binds leaves.
unfoldable pub told : Outcome (List Bound) → Part → Outcome Part
told x p = and_then x (λ xs. value (put_rows named_row xs p))

-- What a walk's answer says of the table that it leaves.
abbrev pub reached : Result (Unit {0}) Question → Part → Outcome Part
reached (Ok u) p = value p
reached (Err k) p = refused k

-- What a walk that makes the binds x, and its answer r, leave of the table o: it is the same table, with the rows of x.
pub record Walks (x : Outcome (List Bound)) (r : Result (Unit {0}) Question) (o p : Binds) : Type 0 where
  pub kept : Kept o.table p.table
  pub told : reached r (part_in p) ≡ told x (part_in o)

-- And an answer of the count.
abbrev pub part_of : Result ℕ Question → List ℕ → Outcome Part
part_of (Ok n) t = value (part n t)
part_of (Err k) t = refused k

-- The same with the state after it.
pub record Told : Type 0 where
  pub state : State
  pub table : Part

abbrev pub told_at : State → Part → Told
told_at s p = record { state = s; table = p }

unfoldable pub told_by : Outcome Moved → Part → Outcome Told
told_by x p = and_then x (λ m. value (told_at m.state (put_rows named_row m.binds p)))

abbrev pub ran_of : Result State Question → Part → Outcome Told
ran_of (Ok s) p = value (told_at s p)
ran_of (Err k) p = refused k

-- What a run that makes x, and its answer r, leave of the table o.
pub record Runs (x : Outcome Moved) (r : Result State Question) (o p : Binds) : Type 0 where
  pub kept : Kept o.table p.table
  pub told : ran_of r (part_in p) ≡ told_by x (part_in o)

-- And with the bytes of the opcode's operands.
pub record Next : Type 0 where
  pub told : Told
  pub size : ℕ

abbrev pub next : Told → ℕ → Next
next t n = record { told = t; size = n }

abbrev pub next_of : Result (State × ℕ) Question → Part → Outcome Next
next_of (Ok r) p = value (next (told_at r.0 p) r.1)
next_of (Err k) p = refused k
