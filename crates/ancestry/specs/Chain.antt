-- The chain of classes above a class (note 9), over any step `up`: a value is the address of the class above, absent the end of the chain,
-- refused a lookup that was refused.
use Rattle.std.specs.Prelude.{ℕ, zero, suc, ◌≡◌}
use Rattle.reads.specs.Outcome.{Outcome, value, absent, refused, and_then}
use Rattle.reads.specs.declared.answer.Question.{Question}
use Rattle.reads.specs.declared.answer.Reason.{Reason}
use Rattle.ancestry.specs.declared.class_chain.Ancestry.{Ancestry}
use Rattle.ancestry.specs.declared.class_chain.Ancestry.TheVariants as ancestry

-- The class k steps up.
unfoldable pub above : (ℕ → Outcome ℕ) → ℕ → ℕ → Outcome ℕ
above up zero a = value a
above up (suc k) a = and_then (up a) (above up k)

-- A class meets itself going up.
pub record Meets (up : ℕ → Outcome ℕ) (a : ℕ) : Type 0 where
  pub round : ℕ
  pub back : above up (suc round) a ≡ value a

-- A class that meets itself, or leads into one that does.
pub record Loops (up : ℕ → Outcome ℕ) (a : ℕ) : Type 0 where
  pub steps : ℕ
  pub into : ℕ
  pub leads : above up steps a ≡ value into
  pub meets : Meets up into

-- The chain ends, `count` classes up, at `top`.
pub record Ends (up : ℕ → Outcome ℕ) (a count top : ℕ) : Type 0 where
  pub leads : above up count a ≡ value top
  pub why : Reason
  pub stops : up top ≡ absent why

-- What is told of a class: the count of the classes above it and the address of the last (0 if none); or that it loops.
abbrev pub ended : ℕ → ℕ → Ancestry
ended count last = ancestry.Ended count last

abbrev pub looping : Ancestry
looping = ancestry.Looping

-- The address of the last of `count` classes above, if there is one.
abbrev pub last_at : ℕ → ℕ → ℕ → ℕ
last_at zero last top = last
last_at (suc k) last top = top

-- All that can be told of a class, without a walk: its chain ends; it loops; or a lookup on its way is refused.
pub data Says (up : ℕ → Outcome ℕ) (a : ℕ) : Outcome Ancestry → Type 0 where
  says_ended : (count top : ℕ) → Ends up a count top → Says up a (value (ended count (last_at count 0 top)))
  says_looping : Loops up a → Says up a (value looping)
  says_refused : (count top : ℕ) (k : Question) → above up count a ≡ value top → up top ≡ refused k → Says up a (refused k)

-- As the code goes on: a step up, or the end.
abbrev pub onward : {A : Type 0} → Outcome ℕ → Outcome A → (ℕ → Outcome A) → Outcome A
onward (value b) end f = f b
onward (absent r) end f = end
onward (refused k) end f = refused k

-- One class alone: going up, at most `steps` times, with `count` classes behind and the address of the last of them.
unfoldable pub climb : (ℕ → Outcome ℕ) → ℕ → ℕ → ℕ → ℕ → Outcome Ancestry
climb up zero a count last = value looping
climb up (suc steps) a count last = onward (up a) (value (ended count last)) (λ b. climb up steps b (suc count) b)
