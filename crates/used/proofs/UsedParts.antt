-- The bytes that a definition uses are those of its parts that are run.
use mathlib.Core.Path.{◌≡◌, refl, sym, ap, ◌∙◌}
use mathlib.Core.Bool.{Bool, true, false}
use mathlib.Core.List.{List, [], ◌∷◌, ◌++◌, flat_map, append_assoc, append-nil}
use Rattle.reads.specs.Outcome.{Outcome, value, absent, refused, choose}
use Rattle.pointers.specs.Tables.{Tables}
use Rattle.records.specs.Ask.{Ask}
use Rattle.records.specs.Asks.{if_value, if_absent, asks}
use Rattle.records.specs.Decode.{Decode, asked, run, done, then, else, else_first, when, tried}
use Rattle.ranges.specs.Range.{Range}
use Rattle.used.specs.Used.{uses, used}

flat_append : {A B : Type 0} (f : A → List B) (xs ys : List A) → flat_map f (xs ++ ys) ≡ flat_map f xs ++ flat_map f ys
unfolding flat_map
flat_append f [] ys = refl
flat_append f (x ∷ xs) ys = ap (λ l. f x ++ l) (flat_append f xs ys) ∙ sym (append_assoc (f x) (flat_map f xs) (flat_map f ys))

module _ (t : Tables) where
  in_value : {A : Type 0} (o : Outcome A) (f : A → List Ask) → flat_map (uses t) (if_value o f) ≡ if_value o (λ a. flat_map (uses t) (f a))
  unfolding flat_map
  in_value (value a) f = refl
  in_value (absent r) f = refl
  in_value (refused k) f = refl

  in_absent : {A : Type 0} (o : Outcome A) (qs : List Ask) → flat_map (uses t) (if_absent o qs) ≡ if_absent o (flat_map (uses t) qs)
  unfolding flat_map
  in_absent (value a) qs = refl
  in_absent (absent r) qs = refl
  in_absent (refused k) qs = refl

  in_chosen : (b : Bool) (qs rs : List Ask) → flat_map (uses t) (choose b qs rs) ≡ choose b (flat_map (uses t) qs) (flat_map (uses t) rs)
  unfolding choose
  in_chosen true qs rs = refl
  in_chosen false qs rs = refl

  pub used_done : {A : Type 0} (a : A) → used t (done a) ≡ []
  unfolding asks flat_map
  used_done a = refl

  pub used_asked : (q : Ask) → used t (asked q) ≡ uses t q
  unfolding asks flat_map
  used_asked q = append-nil (uses t q)

  pub used_then : {A B : Type 0} (d : Decode A) (f : A → Decode B) → used t (then d f) ≡ used t d ++ if_value (run t d) (λ a. used t (f a))
  unfolding asks
  used_then d f = flat_append (uses t) (asks t d) _ ∙ ap (λ l. used t d ++ l) (in_value (run t d) (λ a. asks t (f a)))

  pub used_else : {A : Type 0} (d e : Decode A) → used t (else d e) ≡ used t d ++ if_absent (run t d) (used t e)
  unfolding asks
  used_else d e = flat_append (uses t) (asks t d) _ ∙ ap (λ l. used t d ++ l) (in_absent (run t d) (asks t e))

  pub used_else_first : {A : Type 0} (d e : Decode A) → used t (else_first d e) ≡ used t d ++ if_absent (run t d) (used t e)
  unfolding asks
  used_else_first d e = flat_append (uses t) (asks t d) _ ∙ ap (λ l. used t d ++ l) (in_absent (run t d) (asks t e))

  pub used_when : {A : Type 0} (b : Bool) (d e : Decode A) → used t (when b d e) ≡ choose b (used t d) (used t e)
  unfolding asks
  used_when b d e = in_chosen b (asks t d) (asks t e)

  pub used_tried : {A : Type 0} (d : Decode A) → used t (tried d) ≡ used t d
  unfolding asks
  used_tried d = refl

  -- Where the first part gives a value, in any of the forms of DecodeListing.antt.
  pub then_uses : {A B : Type 0} (d : Decode A) (f : A → Decode B) {a : A} {rs ss : List Range} → used t d ≡ rs → run t d ≡ value a → used t (f a) ≡ ss
      → used t (then d f) ≡ rs ++ ss
  then_uses d f e v g = used_then d f ∙ rw (e, v, g) refl
