-- Entries and slots, by the branches of the code.
use Rattle.std.proofs.Common.{◌≡◌, ℕ, ◌+◌, ◌*◌, ◌/◌, ◌%◌, ◌^◌, List, [], ◌∷◌, length, ap}
use Rattle.reads.specs.Outcome.{Outcome, value, refused, and_then, choose}
use Rattle.macho.specs.Number.{u64_at}
use Rattle.fixups.specs.Chain.{Starts, step_of, entry_of, visit_of, Met, met}
use Rattle.fixups.specs.Tables.{named_row, Part, put_row, put, State, stepped, Stepped}
use Rattle.pointers.specs.declared.table.Rebase as pointers
use Rattle.fixups.specs.declared.chain.Fixups.{Fixups}
use Rattle.fixups.specs.declared.chain.Fixup.{Fixup}
use Rattle.fixups.specs.declared.name.Bound.{Bound}
use Rattle.fixups.specs.declared.chain.Fixup.TheVariants.{Rebase, Bind}
use Rattle.std.specs.Prelude.{Result, Ok, Err, true, false, nat_le}
use Rattle.reads.specs.Answer.{answered}
use Rattle.reads.specs.declared.answer.Question.{Question}
use Rattle.reads.specs.declared.answer.Question.TheVariants.{FixupSlot}

-- A record that is put.
module _ (r b p : Part) where
  pub put_rebase_is : (x : Fixup) (y : pointers.Rebase) → x ≡ Rebase y → p ≡ put_row (y.slot ∷ y.target ∷ []) r → record { rebases = p; binds = b } ≡ put x (record { rebases = r; binds = b })
  unfolding put put_row
  put_rebase_is x y q e = rw q (ap (λ (z : Part). record { rebases = z; binds = b }) e)

  pub put_bind_is : (x : Fixup) (y : Bound) → x ≡ Bind y → p ≡ put_row (named_row y) b → record { rebases = r; binds = p } ≡ put x (record { rebases = r; binds = b })
  unfolding put put_row
  put_bind_is x y q e = rw q (ap (λ (z : Part). record { rebases = r; binds = z }) e)

abbrev pub after : State → Met → Outcome Stepped
after st m = value (stepped m.step (put m.fixup st))

module _ (file body : List ℕ) (f : Fixups) (s : Starts) (at : ℕ) (st : State) where
  pub visit_out : nat_le (s.fileoff + at + 8) (length file) ≡ false → refused FixupSlot ≡ and_then (visit_of file body f s at) (after st)
  unfolding visit_of choose
  visit_out h = rw h

  module _ (w : ℕ) (e : Result Fixup Question) (h : nat_le (s.fileoff + at + 8) (length file) ≡ true) (ew : w ≡ u64_at file (s.fileoff + at)) (ee : answered e ≡ entry_of body f s at w) where
    visit_met : visit_of file body f s at ≡ and_then (answered e) (λ x. value (met x (step_of w)))
    unfolding visit_of choose
    visit_met = rw (ee, ew, h)

    pub visit_not : (k : Question) → e ≡ Err k → refused k ≡ and_then (visit_of file body f s at) (after st)
    visit_not k q = rw (visit_met, q)

    pub visit_put : (x : Fixup) (p : State) → e ≡ Ok x → p ≡ put x st
        → value (stepped (w / 2 ^ 51 % 2 ^ 12 * 4) p) ≡ and_then (visit_of file body f s at) (after st)
    unfolding step_of
    visit_put x p q g = rw (visit_met, q, g)
