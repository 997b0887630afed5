-- Which entries of a list are readable is a test, and uses nothing.
use Prim.Native.Nat.{ℕ, zero, suc, ◌^◌}
use mathlib.Core.Path.{◌≡◌, refl, ◌∙◌}
use mathlib.Core.Bool.{Bool, true, false}
use mathlib.Core.List.{List, [], ◌∷◌, ◌++◌, flat_map}
use lib.Dec.{ltb}
use Rattle.reads.specs.Outcome.{Outcome, value, absent, refused, choose}
use Rattle.reads.specs.declared.place.Place.{Place}
use Rattle.pointers.specs.Tables.{Tables, image_in}
use Rattle.records.specs.Asks.{asks, if_value}
use Rattle.records.specs.Decode.{Decode, Tried, given, lacking, run, done, then, tried, readable}
use Rattle.records.specs.List.{least, entry_address}
use Rattle.records.specs.Search.{readables}
use Rattle.records.specs.declared.list.Layout.{Layout}
use Rattle.listing.specs.DecodeListing.{of_value, or_nothing, decode_index, decode_indices, decode_readables}
use Rattle.listing.proofs.DecodedListing.{readables_run}
use Rattle.ranges.specs.Range.{Range}
use Rattle.used.specs.Used.{used}
use Rattle.used.proofs.UsedParts.{used_done, used_then, used_when}

-- What uses nothing, and is followed by what uses nothing.
none_of : {A : Type 0} (o : Outcome A) (us : A → List Range) → ((a : A) → us a ≡ []) → if_value o us ≡ []
none_of (value a) us h = h a
none_of (absent r) us h = refl
none_of (refused k) us h = refl

none_then : {A B : Type 0} (t : Tables) (d : Decode A) (f : A → Decode B) → used t d ≡ [] → ((a : A) → used t (f a) ≡ []) → used t (then d f) ≡ []
none_then t d f e h = used_then t d f ∙ rw e (none_of (run t d) (λ a. used t (f a)) h)

module _ (t : Tables) (h : Layout) where
  index_uses : (i : ℕ) → used t (decode_index h i) ≡ []
  unfolding decode_index
  index_uses i =
      used_when t _ (of_value (readable (entry_address h i) (least h.kind)) (λ p. done (i ∷ []))) (done [])
      ∙ go (ltb (entry_address h i) (2 ^ 64))
    where
      by_trial : (x : Tried Place) → used t (or_nothing (λ p. done (i ∷ [])) x) ≡ []
      by_trial (given p) = used_done t (i ∷ [])
      by_trial (lacking r) = used_done t []

      go : (b : Bool) → choose b (used t (of_value (readable (entry_address h i) (least h.kind)) (λ p. done (i ∷ [])))) (used {A = List ℕ} t (done [])) ≡ []
      go true = unfold choose in none_then t (tried (readable (entry_address h i) (least h.kind))) (or_nothing (λ p. done (i ∷ []))) (unfold asks flat_map in refl) by_trial
      go false = unfold choose in used_done t []

  indices_use : (k i : ℕ) → used t (decode_indices h k i) ≡ []
  unfolding decode_indices
  indices_use zero i = used_done t []
  indices_use (suc k) i =
      none_then t (decode_index h i) (λ xs. then (decode_indices h k (suc i)) (λ ys. done (xs ++ ys))) (index_uses i) (λ xs.
      none_then t (decode_indices h k (suc i)) (λ ys. done (xs ++ ys)) (indices_use k (suc i)) (λ ys. used_done t (xs ++ ys)))

  -- What is made of the entries that are readable.
  pub readables_use : {A : Type 0} (f : List ℕ → Decode A) → used t (then (decode_readables h) f) ≡ used t (f (readables (image_in t) h))
  readables_use f = used_then t (decode_readables h) f ∙ rw (indices_use h.count 0, readables_run t h) refl
