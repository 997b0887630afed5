-- What the code keeps of a state, part by part, and what comes after a type.
use Prim.Native.Nat.{ℕ, ◌-◌, ◌<◌}
use mathlib.Core.Path.{◌≡◌, ap, sym, ◌∙◌}
use mathlib.Core.List.{List, [], ◌∷◌}
use lib.ListN.{get_or}
use Rattle.reads.specs.Outcome.{Outcome, value}
use Rattle.encodings.specs.Parser.{Kept, kept, closer_of, levels_in, levels_of, kept_in, begun, inside, followed, step_as, end_of, finish_as}
use Rattle.encodings.specs.Machine.{outside}
use Rattle.encodings.specs.declared.bytes.Class.{Class}
use Rattle.encodings.specs.declared.kept.Level.TheVariants as level
use Rattle.encodings.specs.declared.kept.Mode.{Mode}
use Rattle.encodings.specs.declared.kept.Parser.{Parser}
use Rattle.encodings.proofs.Levels.{levels_none, levels_top}

module _ {m m' : Mode} {ls ls' : List ℕ} {s s' : ℕ} (e : kept m ls s ≡ kept m' ls' s') where
  pub kept_start : s ≡ s'
  kept_start = cc

  pub kept_mode : m ≡ m'
  kept_mode = cc

abbrev followed_from : Kept → ℕ → ℕ → Outcome Kept
followed_from (kept m ls s) b i = followed ls s b i

abbrev end_from : Kept → Outcome (Unit {0})
end_from (kept m ls s) = end_of ls

-- q is a parser without its innermost pointers: ls are the levels that are left.
module _ (q : Parser) {m : Mode} {ls : List ℕ} {s : ℕ} (e : kept_in q ≡ kept m ls s) where
  none_left : q.depth ≡ 0 → levels_of q ≡ []
  none_left h = levels_none q.depth q.levels h

  some_left : 0 < q.depth → levels_of q ≡ closer_of (get_or q.levels (q.depth - 1) level.Pointer) ∷ levels_in (q.depth - 1) q.levels
  some_left h = levels_top q.depth q.levels h

  pub followed_outer : (b i : ℕ) → q.depth ≡ 0 → followed [] q.start b i ≡ followed ls s b i
  followed_outer b i h =
      ap (λ (x : List ℕ). followed x q.start b i) (sym (none_left h)) ∙ ap (λ (x : Kept). followed_from x b i) e

  pub followed_inner : (b i : ℕ) → 0 < q.depth → inside (levels_of q) q.start b ≡ followed ls s b i
  followed_inner b i h = inner _ _ _ (some_left h) ∙ ap (λ (x : Kept). followed_from x b i) e
    where
      inner : (l : List ℕ) (t : ℕ) (l' : List ℕ) → l ≡ t ∷ l'
          → inside l q.start b ≡ followed l q.start b i
      inner l t l' d = rw d

  pub end_outer : q.depth ≡ 0 → value tt ≡ end_of ls
  end_outer h = ap (λ (x : List ℕ). end_of x) (sym (none_left h)) ∙ ap end_from e

  pub end_inner : 0 < q.depth → outside ≡ end_of ls
  end_inner h = ap (λ (x : List ℕ). end_of x) (sym (some_left h)) ∙ ap end_from e

-- A byte that changes nothing.
pub stays : (p : Parser) {k : Mode} → p.mode ≡ k → value (kept_in p) ≡ value (kept k (levels_of p) p.start)
stays p e = ap (λ (m : Mode). value (kept m (levels_of p) p.start)) e

-- What a function promises in one mode, or for one class of byte, is what `step`, `finish` and `begin` promise in it.
pub in_mode : (p : Parser) (b i : ℕ) {m k : Mode} {o : Outcome Kept} → m ≡ k → o ≡ step_as k p b i → o ≡ step_as m p b i
in_mode p b i e h = h ∙ ap (λ (m : Mode). step_as m p b i) (sym e)

pub finish_in_lem : (p : Parser) {m k : Mode} {o : Outcome (Unit {0})} → m ≡ k → o ≡ finish_as k p → o ≡ finish_as m p
finish_in_lem p e h = h ∙ ap (λ (m : Mode). finish_as m p) (sym e)

pub begin_of : (p : Parser) {c k d : Class} {o : Outcome Kept} → k ≡ c → k ≡ d → o ≡ begun (levels_of p) p.start c
    → o ≡ begun (levels_of p) p.start d
begin_of p e q h = h ∙ ap (λ (x : Class). begun (levels_of p) p.start x) (sym e ∙ q)
