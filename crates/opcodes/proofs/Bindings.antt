-- The binds that an opcode makes, by the branches of the code.
use Rattle.std.proofs.Common.{◌≡◌, ℕ, zero, suc, ◌-◌, ◌<◌, ◌≤◌, Bool, true, false, ◌&&◌, Some, None, List, [], ◌∷◌, sym, refl, ap, ◌∙◌, ap₂, arith}
use Rattle.std.specs.List.{slice_get}
use Rattle.reads.specs.Outcome.{Outcome, value, absent, refused, and_then}
use Rattle.fixups.specs.Tables.{named_row, Part, put_row, put_rows}
use Rattle.opcodes.specs.Binding.{further, bound_by, Moved, moved, run, with_segment, with_symbol, in_segment, perform}
use Rattle.opcodes.specs.Tables.{told_at, told_by, ran_of}
use Rattle.opcodes.specs.declared.opcode.Instruction.{Instruction}
use Rattle.opcodes.specs.declared.opcode.Instruction.TheVariants.{Pass, Symbol, Segment, Add, Bind}
use Rattle.opcodes.specs.declared.binding.State.{State}
use Rattle.fixups.specs.declared.name.Name.{Name}
use Rattle.fixups.specs.declared.name.Bound.{Bound}
use Rattle.std.specs.Prelude.{Result, Ok, Err}
use Rattle.reads.specs.Answer.{answered}
use Rattle.reads.specs.declared.answer.Question.{Question}
use Rattle.reads.specs.declared.answer.Question.TheVariants.{FixupData}

and_false : (a : Bool) → (a && false) ≡ false
and_false true = refl
and_false false = refl

-- A run of binds.
then_told : (x : Bound) (o : Outcome Moved) (p : Part)
    → told_by (and_then o (λ m. value (moved (x ∷ m.binds) m.state))) p ≡ told_by o (put_row (named_row x) p)
unfolding told_by put_rows
then_told x (value m) p = refl
then_told x (absent r) p = refl
then_told x (refused k) p = refl

module _ (end left stride : ℕ) (s : State) (p : Part) where
  pub run_none : left ≤ 0 → value (told_at s p) ≡ told_by (run end left stride s) p
  unfolding run told_by put_rows
  run_none h = let e : left ≡ 0 = omega arith in rw e

  module _ (h : 0 < left) (r : Result Bound Question) (seen : answered r ≡ bound_by end s) where
    run_more : run end left stride s
        ≡ and_then (answered r) (λ x. and_then (run end (left - 1) stride (further stride s)) (λ m. value (moved (x ∷ m.binds) m.state)))
    unfolding run
    run_more = let e : left ≡ suc (left - 1) = omega arith in ap (λ (n : ℕ). run end n stride s) e ∙ rw (← seen)

    pub run_refused : (k : Question) → r ≡ Err k → refused k ≡ told_by (run end left stride s) p
    unfolding told_by
    run_refused k e = rw (run_more, e)

    pub run_on : (x : Bound) → r ≡ Ok x → (q : Part) → q ≡ put_row (named_row x) p → (s' : State) → s' ≡ further stride s
        → told_by (run end left stride s) p ≡ told_by (run end (left - 1) stride s') q
    run_on x e q g s' f =
        ap (λ (o : Outcome Moved). told_by o p) (run_more ∙ rw e)
        ∙ then_told x (run end (left - 1) stride (further stride s)) p
        ∙ ap₂ (λ (u : State) (z : Part). told_by (run end (left - 1) stride u) z) (sym f) (sym g)

-- The segment of an index.
pub segment_none : (cmds segs : List ℕ) (index offset : ℕ) (s : State) → None ≡ slice_get segs index → refused FixupData ≡ in_segment cmds segs index offset s
unfolding in_segment
segment_none cmds [] index offset s e = refl
segment_none cmds (a ∷ segs) zero offset s e = let z : ◌≡◌ {A = ℕ} 0 1 = cc in absurd (omega arith)
segment_none cmds (a ∷ segs) (suc index) offset s e = segment_none cmds segs index offset s e

pub segment_at : (cmds segs : List ℕ) (index offset : ℕ) (s : State) (a : ℕ) → Some a ≡ slice_get segs index
    → (t : State) → t ≡ with_segment cmds a offset s → value t ≡ in_segment cmds segs index offset s
unfolding in_segment
segment_at cmds [] index offset s a e t g = let z : ◌≡◌ {A = ℕ} 0 1 = cc in absurd (omega arith)
segment_at cmds (b ∷ segs) zero offset s a e t g = let p : a ≡ b = cc in rw (g, p)
segment_at cmds (b ∷ segs) (suc index) offset s a e t g = segment_at cmds segs index offset s a e t g

-- What an opcode does.
module _ (end : ℕ) (cmds segs : List ℕ) (x : Instruction) (s : State) (p : Part) where
  pub does_pass : x ≡ Pass → value (told_at s p) ≡ told_by (perform end cmds segs x s) p
  unfolding perform told_by put_rows
  does_pass e = rw e

  pub does_symbol : (name : Name) → x ≡ Symbol name → (t : State) → t ≡ with_symbol name s → value (told_at t p) ≡ told_by (perform end cmds segs x s) p
  unfolding perform told_by put_rows
  does_symbol name e t g = rw (e, g)

  pub does_add : (n : ℕ) → x ≡ Add n → (t : State) → t ≡ further n s → value (told_at t p) ≡ told_by (perform end cmds segs x s) p
  unfolding perform told_by put_rows
  does_add n e t g = rw (e, g)

  pub does_bind : (count stride : ℕ) → x ≡ Bind count stride → told_by (run end count stride s) p ≡ told_by (perform end cmds segs x s) p
  unfolding perform
  does_bind count stride e = rw e

  pub does_segment : (index offset : ℕ) → x ≡ Segment index offset → (r : Result State Question) → answered r ≡ in_segment cmds segs index offset s
      → ran_of r p ≡ told_by (perform end cmds segs x s) p
  unfolding perform told_by put_rows
  does_segment index offset e (Ok t) seen = rw e (rw (← seen))
  does_segment index offset e (Err k) seen = rw e (rw (← seen))
