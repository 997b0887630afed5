-- The least of two numbers that may be there, by an iterator over both.
use Rattle.std.proofs.Common.{◌≡◌, ℕ, List, ◌∷◌, ◌++◌, length, Option, Some, None, sym, refl, ap, ap₂, ◌∙◌}
use Rattle.std.specs.Prelude.{min}
use Rattle.std.specs.List.{reduce}
use Rattle.std.specs.Option.{option_to_list}
use Rattle.std.specs.Iterator.Adapters.{once_item, once_steps}
use Rattle.std.specs.declared.iter.Once.{Once}
use Rattle.std.proofs.lemmas.Iterator.{YieldsList}
use Rattle.std.proofs.lemmas.Iterator.Consumers.{YieldsList-from_shown}
use Rattle.opcodes.specs.DyldInfo.{earlier}

abbrev items : Once ℕ → List ℕ
items s = option_to_list (once_item s)

pub once_yields : (s : Once ℕ) → YieldsList once_steps (λ x. x) s (items s)
once_yields s =
    YieldsList-from_shown once_steps (λ x. x) items (λ s t h. ap (λ (o : Option ℕ). length (option_to_list o)) (sym h.0))
    (λ s x t h. ap option_to_list (sym h.0) ∙ ap (λ (o : Option ℕ). x ∷ option_to_list o) (sym h.1)) s

earlier_by : (x y : Option ℕ) → reduce min (option_to_list x ++ option_to_list y) ≡ earlier x y
unfolding earlier
earlier_by None None = refl
earlier_by None (Some b) = refl
earlier_by (Some a) None = refl
earlier_by (Some a) (Some b) = refl

pub least : (s t : Once ℕ) (x y : Option ℕ) → once_item s ≡ x → once_item t ≡ y → reduce min (items s ++ items t) ≡ earlier x y
least s t x y e f = ap₂ (λ i j. reduce min (option_to_list i ++ option_to_list j)) e f ∙ earlier_by x y
