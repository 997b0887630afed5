-- Two parts of a walk, one after the other.
use Rattle.std.proofs.Common.{◌≡◌, ℕ, MutBor, List, [], ◌∷◌, ◌++◌, refl, ◌∙◌}
use Rattle.reads.specs.Outcome.{Outcome, value, absent, refused, and_then}
use Rattle.fixups.specs.Starts.{joined}
use Rattle.fixups.specs.Tables.{put, puts, told, State, reached, Kept, BothKept}
use Rattle.fixups.specs.declared.table.Lists.{Lists}
use Rattle.fixups.specs.declared.chain.Fixup.{Fixup}
use Rattle.std.specs.Prelude.{Result, Ok, Err}
use Rattle.reads.specs.declared.answer.Question.{Question}

-- One table, then both.
pub same : (t : MutBor (List ℕ)) → Kept t t
same t = record { table = refl; words = refl }

pub same_on : (t u v : MutBor (List ℕ)) → Kept t u → Kept u v → Kept t v
same_on t u v h g = record { table = g.table ∙ h.table; words = g.words ∙ h.words }

pub kept : (l : Lists) → BothKept l l
kept l = record { rebases = same l.rebases; binds = same l.binds }

pub kept_on : (l m n : Lists) → BothKept l m → BothKept m n → BothKept l n
kept_on l m n h g =
    record {
      rebases = same_on l.rebases m.rebases n.rebases h.rebases g.rebases;
      binds = same_on l.binds m.binds n.binds h.binds g.binds;
    }

pub puts_append : (xs ys : List Fixup) (st : State) → puts (xs ++ ys) st ≡ puts ys (puts xs st)
unfolding puts
puts_append [] ys st = refl
puts_append (x ∷ xs) ys st = puts_append xs ys (put x st)

pub told_joined : (x y : Outcome (List Fixup)) (st : State) → told (joined x y) st ≡ and_then (told x st) (told y)
unfolding told joined
told_joined (value xs) (value ys) st = rw (puts_append xs ys st)
told_joined (value xs) (absent r) st = refl
told_joined (value xs) (refused k) st = refl
told_joined (absent r) y st = refl
told_joined (refused k) y st = refl

pub told_none : (st : State) → told (value []) st ≡ value st
unfolding told puts
told_none st = refl

pub told_number : (k : Question) (st : State) → told (refused k) st ≡ refused k
unfolding told
told_number k st = refl

-- What the code sees of the first part: w, with what it leaves in the tables.
module _ (x y : Outcome (List Fixup)) (st : State) (w : Result (Unit {0}) Question) (t : State) (seen : reached w t ≡ told x st) where
  pub then : w ≡ Ok tt → told (joined x y) st ≡ told y t
  then e = told_joined x y st ∙ rw (← seen, e)

  pub stops : (k : Question) → w ≡ Err k → told (joined x y) st ≡ refused k
  stops k e = told_joined x y st ∙ rw (← seen, e)
