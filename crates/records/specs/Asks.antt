-- The questions that a definition asks of tables, and the definitions that are run within it (document 02, notes 12 and 13).
use Rattle.std.specs.Prelude.{◌≡◌, Bool, true, false, List, [], ◌∷◌, ◌++◌}
use Rattle.reads.specs.Outcome.{Outcome, value, absent, refused, choose}
use Rattle.reads.specs.declared.answer.Reason.{Reason}
use Rattle.pointers.specs.Tables.{Tables}
use Rattle.records.specs.Ask.{Ask}
use Rattle.records.specs.Decode.{Decode, made, asked, after, either, either_first, chosen, trial, Tried, run}

-- What comes after a value, and what where there is none: not asked otherwise.
abbrev pub if_value : {A B : Type 0} → Outcome A → (A → List B) → List B
if_value (value a) f = f a
if_value (absent r) f = []
if_value (refused k) f = []

abbrev pub if_absent : {A B : Type 0} → Outcome A → List B → List B
if_absent (value a) qs = []
if_absent (absent r) qs = qs
if_absent (refused k) qs = []

-- In order, until an answer ends the definition.
unfoldable pub asks : {A : Type 0} → Tables → Decode A → List Ask
asks t (made a) = []
asks t (asked q) = q ∷ []
asks t (after d f) = asks t d ++ if_value (run t d) (λ a. asks t (f a))
asks t (either d e) = asks t d ++ if_absent (run t d) (asks t e)
asks t (either_first d e) = asks t d ++ if_absent (run t d) (asks t e)
asks t (chosen b d e) = choose b (asks t d) (asks t e)
asks t (trial d) = asks t d

-- A definition that is run where another is, over tables: that one itself, or within one of its parts that is reached.
pub data Within (t : Tables) {A : Type 0} (d : Decode A) : (B : Type 0) → Decode B → Type 1 where
  itself : Within t d A d
  in_first : {B C : Type 0} {e : Decode B} (f : B → Decode C) → Within t d B e → Within t d C (after e f)
  in_next : {B C : Type 0} {e : Decode B} {f : B → Decode C} {b : B} → run t e ≡ value b → Within t d C (f b) → Within t d C (after e f)
  in_either : {B : Type 0} {e : Decode B} (other : Decode B) → Within t d B e → Within t d B (either e other)
  in_other : {B : Type 0} {e other : Decode B} {r : Reason} → run t e ≡ absent r → Within t d B other → Within t d B (either e other)
  in_either_first : {B : Type 0} {e : Decode B} (other : Decode B) → Within t d B e → Within t d B (either_first e other)
  in_other_first : {B : Type 0} {e other : Decode B} {r : Reason} → run t e ≡ absent r → Within t d B other → Within t d B (either_first e other)
  in_chosen : {B : Type 0} {e : Decode B} {b : Bool} (other : Decode B) → b ≡ true → Within t d B e → Within t d B (chosen b e other)
  in_rejected : {B : Type 0} {e other : Decode B} {b : Bool} → b ≡ false → Within t d B other → Within t d B (chosen b e other)
  in_trial : {B : Type 0} {e : Decode B} → Within t d B e → Within t d (Tried B) (trial e)

-- Something holds of each of a list.
abbrev pub Each : {A : Type 0} → (A → Type 0) → List A → Type 0
Each P [] = Unit {0}
Each P (a ∷ rest) = P a × Each P rest
