-- Lists that outcomes give, one after the other. A number is never left out: the first one is the outcome of the whole.
use Rattle.std.specs.Prelude.{List, [], ◌∷◌, ◌++◌, map}
use Rattle.reads.specs.Outcome.{Outcome, value, absent, refused, and_then}

abbrev pub joined : {A : Type 0} → Outcome (List A) → Outcome (List A) → Outcome (List A)
joined o p = and_then o (λ xs. and_then p (λ ys. value (xs ++ ys)))

-- What each of a list gives.
unfoldable pub gather : {A B : Type 0} → (A → Outcome (List B)) → List A → Outcome (List B)
gather f [] = value []
gather f (a ∷ rest) = joined (f a) (gather f rest)

-- What a value gives; what is absent gives nothing.
abbrev pub of_value : {A B : Type 0} → Outcome A → (A → Outcome (List B)) → Outcome (List B)
of_value (value a) f = f a
of_value (absent r) f = value []
of_value (refused k) f = refused k

-- A value alone; what is absent gives none.
abbrev pub present : {A : Type 0} → Outcome A → Outcome (List A)
present o = of_value o (λ a. value (a ∷ []))

-- Each of a list, by a function.
abbrev pub as_each : {A B : Type 0} → (A → B) → Outcome (List A) → Outcome (List B)
as_each f o = and_then o (λ xs. value (map f xs))
