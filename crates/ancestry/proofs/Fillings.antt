-- The result buffer while records are written: what is left to write, written from here, is the whole written from the start.
use Prim.Native.Nat.{ℕ, suc, ◌+◌, ◌-◌, ◌*◌, ◌≤◌, ◌<◌}
use mathlib.Core.Path.{◌≡◌, refl, sym, ap, ◌∙◌}
use mathlib.Core.List.{List, [], ◌∷◌, ◌++◌, append_assoc, flat_map}
use native.Mathlib.Omega.{arith}
use lib.ListN.{length, get_or, set, take, drop, length-take}
use borrow.Rule.Slice.PartMut.{put_mid}
use lib.Seq.{take_all, drop-drop, sets, length-sets, sets-eq}
use Rattle.std.specs.Prelude.{Result, Ok, Err, Option}
use Rattle.std.specs.List.{filter_map, cons_option, enumerate_from}
use Rattle.std.specs.Result.{result_ok}
use Rattle.std.proofs.lemmas.List.{take_more}
use Rattle.std.proofs.lemmas.List.FromFn.{length-enumerate_from, get_or-enumerate_from}
use Rattle.std.proofs.lemmas.Grind.{flat_map-append}
use Rattle.reads.specs.Outcome.{Outcome, value, absent, refused, and_then}
use Rattle.reads.specs.Answer.{outcome}
use Rattle.reads.specs.declared.answer.Missing.{Missing}
use Rattle.reads.specs.declared.answer.Missing.TheVariants.{Absent, Refused}
use Rattle.reads.proofs.Outcomes.{then_came}
use Rattle.reads.proofs.Parts.{sets_append}
use Rattle.walks.specs.Gather.{gather, present}
use Rattle.ancestry.specs.Ancestry.{row_words}
use Rattle.ancestry.specs.Filling.{through, found, put, rows_left, Fits}
use Rattle.ancestry.specs.declared.class_chain.Row.{Row}
use Rattle.ancestry.proofs.Chain.{number_value}

abbrev records : List Row → List ℕ
records xs = flat_map row_words xs

pub length_records : (xs : List Row) → length (flat_map row_words xs) ≡ length xs * 3
unfolding flat_map
length_records [] = refl
length_records (x ∷ xs) = omega (arith, length_records xs)

-- The first record is put, then the others.
sets_more : (out : List ℕ) (at : ℕ) (x : Row) (xs : List Row) → sets out at (records (x ∷ xs)) ≡ sets (put out at x) (at + 3) (records xs)
unfolding flat_map put
sets_more out at x xs = let e : at + 3 ≡ suc (suc (suc at)) = omega arith in rw e

sets_all : (out : List ℕ) (xs : List Row) → length xs * 3 ≤ length out → sets out 0 (records xs) ≡ records xs ++ drop (length xs * 3) out
sets_all out xs h =
    let size = length_records xs in
    let nought : 0 + length (records xs) ≡ length xs * 3 = omega arith in
    sets-eq (records xs) out 0 (omega arith) ∙ rw nought

pub length_put : (out : List ℕ) (at : ℕ) (x : Row) → length (put out at x) ≡ length out
unfolding put
length_put out at x = length-sets out at (row_words x)

-- A record put, word by word.
pub put_sets : (out : List ℕ) (at : ℕ) (x : Row) → put out at x ≡ set (set (set out at x.first) (at + 1) x.second) (at + 2) x.third
unfolding put
put_sets out at x =
    let one : at + 1 ≡ suc at = omega arith in
    let two : at + 2 ≡ suc (suc at) = omega arith in
    rw (one, two)

-- Words copied into the buffer, as those of a record are.
copied : (out : List ℕ) (at n : ℕ) (ws : List ℕ) → n ≡ length ws → at + length ws ≤ length out → put_mid at n out ws ≡ sets out at ws
copied out at n ws e h = rw (e, drop-drop, ← append_assoc) (sym (sets-eq ws out at h))

pub put_words : (out : List ℕ) (at : ℕ) (a : Row) → at + 3 ≤ length out → {ws : List ℕ} → ws ≡ row_words a → put_mid at (at + 3 - at) out ws ≡ put out at a
unfolding put
put_words out at a h e = rw e (copied out at (at + 3 - at) (row_words a) (omega arith) h)

-- What is found of an answer.
pub outcome_found : (r : Result Row Missing) (o : Outcome Row) → outcome r ≡ o → {f : Option Row} → f ≡ result_ok r → f ≡ found o
outcome_found (Ok a) o e g = rw (← e) g
outcome_found (Err (Absent r)) o e g = rw (← e) g
outcome_found (Err (Refused k)) o e g = rw (← e) g

-- Where none is refused, the records are what is found.
through_found : (one : ℕ → Outcome Row) (addresses : List ℕ) (all : List Row) → through one addresses ≡ value all
    → filter_map (λ a. found (one a)) addresses ≡ all
unfolding gather
through_found one [] all e = let g : [] ≡ all = cc in g
through_found one (a ∷ rest) all e = go (one a) (through_found one rest) e
  where
    go : (o : Outcome Row) → ((ys : List Row) → through one rest ≡ value ys → filter_map (λ a. found (one a)) rest ≡ ys)
        → and_then (present o) (λ xs. and_then (through one rest) (λ ys. value (xs ++ ys))) ≡ value all
        → cons_option (found o) (filter_map (λ a. found (one a)) rest) ≡ all
    go (value x) later f =
        let r = then_came (through one rest) (λ ys. value (x ∷ ys)) all f in
        let g : x ∷ r.0 ≡ all = cc in
        ap (λ ys. x ∷ ys) (later r.0 r.1) ∙ g
    go (absent r) later f =
        let r = then_came (through one rest) (λ ys. value ([] ++ ys)) all f in
        let g : r.0 ≡ all = cc in
        later r.0 r.1 ∙ g
    go (refused k) later f = number_value f

-- The buffer with the first n of the records that are found.
abbrev pub found_all : (ℕ → Outcome Row) → List ℕ → List Row
found_all one addresses = filter_map (λ a. found (one a)) addresses

abbrev pub written_to : (ℕ → Outcome Row) → List ℕ → List ℕ → ℕ → List ℕ
written_to one addresses out₀ n = sets out₀ 0 (records (take n (found_all one addresses)))

pub filled_none : (one : ℕ → Outcome Row) (addresses out₀ : List ℕ) → out₀ ≡ written_to one addresses out₀ 0
unfolding flat_map
filled_none one addresses out₀ = refl

-- The next of the records, and its number.
abbrev pub Turn : (ℕ → Outcome Row) → List ℕ → ℕ → ℕ → Row → Type 0
Turn one addresses n k a =
    let all = enumerate_from 0 (found_all one addresses) in
    (n < length all) × ((k, a) ≡ get_or all n (k, a))

turned : (one : ℕ → Outcome Row) (addresses : List ℕ) (n k : ℕ) (a : Row) → Turn one addresses n k a
    → (n < length (found_all one addresses)) × (k ≡ n) × (a ≡ get_or (found_all one addresses) n a)
turned one addresses n k a t =
    let all = found_all one addresses in
    let h : n < length all = omega (arith, t.0, length-enumerate_from 0 all) in
    let e : (k, a) ≡ (0 + n, get_or all n a) = t.1 ∙ get_or-enumerate_from 0 all n (k, a) h in
    let number : k ≡ 0 + n = ap (λ p. p.0) e in
    (h, omega arith, ap (λ p. p.1) e)

module _ (one : ℕ → Outcome Row) (addresses out₀ : List ℕ) (f : Fits one addresses out₀) where
  same_found : found_all one addresses ≡ f.all
  same_found = through_found one addresses f.all f.told

  pub filled_room : (n k : ℕ) (a : Row) (out : List ℕ) → Turn one addresses n k a → out ≡ written_to one addresses out₀ n → k * 3 + 3 ≤ length out
  filled_room n k a out t w =
      let size = ap length w ∙ length-sets out₀ 0 (records (take n (found_all one addresses))) in
      let h = turned one addresses n k a t in
      omega (arith, h, f.room, ap length same_found)

  pub filled_end : (n : ℕ) (out : List ℕ) → n ≡ length (enumerate_from 0 (found_all one addresses)) → out ≡ written_to one addresses out₀ n
      → out ≡ rows_left (through one addresses) out₀
  filled_end n out e w =
      let all = found_all one addresses in
      let whole : take n all ≡ f.all = take_all n all (omega (arith, length-enumerate_from 0 all)) ∙ same_found in
      rw f.told (w ∙ ap (λ (xs : List Row). sets out₀ 0 (records xs)) whole ∙ sets_all out₀ f.all f.room)

pub filled_more : (one : ℕ → Outcome Row) (addresses out₀ : List ℕ) (n k : ℕ) (a : Row) (out : List ℕ) → Turn one addresses n k a
    → out ≡ written_to one addresses out₀ n → (m : ℕ) → m ≡ n + 1 → put out (k * 3) a ≡ written_to one addresses out₀ m
unfolding put flat_map
filled_more one addresses out₀ n k a out t w m e =
    let all = found_all one addresses in
    let h = turned one addresses n k a t in
    let more : take (n + 1) all ≡ take n all ++ a ∷ [] = take_more all n a h.0 ∙ ap (λ y. take n all ++ y ∷ []) (sym h.2) in
    let at : k * 3 ≡ 0 + length (records (take n all)) = omega (arith, h.0, h.1, length_records (take n all), length-take n all) in
    rw (w, at, e) (sym (sets_append out₀ (records (take n all)) (row_words a) 0)
    ∙ ap (sets out₀ 0) (sym (ap records more ∙ flat_map-append row_words (take n all) (a ∷ []))))
