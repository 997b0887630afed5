-- Members of what a list's parts give.
use mathlib.Core.List.Memᴰ
use mathlib.Core.List.{List, [], ◌∷◌, flat_map, Memᴰ}
use mathlib.Core.Logic.{⊎_elim}

pub in_flat : {B C : Type 0} (g : B → List C) {c : C} {x : B} (xs : List B) → Memᴰ x xs → Memᴰ c (g x) → Memᴰ c (flat_map g xs)
unfolding flat_map
in_flat g [] m n = absurd (Memᴰ.not-nil m)
in_flat g {c} {x} (y ∷ ys) m n =
    ⊎_elim (λ e. Memᴰ.append_left (flat_map g ys) (rw e at n)) (λ m'. Memᴰ.append_right (g y) (in_flat g ys m' n)) (Memᴰ.cases_cons m)
