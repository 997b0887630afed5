-- The parts of a text, its items with their values as bytes; of parts that are joined they are these parts.
use Prim.Native.Nat.{ℕ, zero, suc, ◌+◌, ◌≤◌, ◌<◌}
use mathlib.Core.Path.{◌≡◌, refl, ap, ◌∙◌}
use mathlib.Core.Bool.{Bool, true, false}
use mathlib.Core.List.{List, [], ◌∷◌, ◌++◌, map}
use native.Mathlib.Omega.{arith}
use lib.Dec.{eqb, ltb}
use lib.ListN.{length, take, drop, length-append, length-drop, get_or-append}
use lib.Seq.{drop-drop, take-append-le, take-append_seam, drop-append-add, get_or-append_seam}
use borrow.Author.Tests.{lt-ltb, eqb-true, eqb-false}
use Rattle.reads.specs.Outcome.{choose}
use Rattle.reads.proofs.Tests.{choose_true}
use Rattle.attributes.specs.Attributes.{splits, first, value_length, item_of, items_from, items}
use Rattle.attributes.specs.Written.{Part, bytes_of, part_of, following, joined}
use Rattle.attributes.specs.RoundTrip.{Closed, Each}
use Rattle.attributes.proofs.ValueEnds.{first_hit, first_miss}

unfoldable pub parts_from : ℕ → List ℕ → List Part
parts_from zero s = []
parts_from (suc n) [] = []
parts_from (suc n) (key ∷ s) =
    record { key = key; value = choose (ltb key 0x80) (take (value_length s) s) [] } ∷ parts_from n (drop (value_length s + 1) s)

-- The first item's value, wherever it stands.
item_part : (text : List ℕ) (at key n : ℕ) (s : List ℕ) → s ≡ drop at text
    → part_of text (item_of key at n) ≡ record { key = key; value = choose (ltb key 0x80) (take n s) [] }
unfolding item_of bytes_of
item_part text at key n s e = rw (← e) (ap (λ (v : List ℕ). record { key = key; value = v }) (go (ltb key 0x80)))
  where
    go : (t : Bool) → take (choose t n 0) s ≡ choose t (take n s) []
    go true = unfold choose in refl
    go false = unfold choose in refl

parts_from_lem : (text : List ℕ) (n at : ℕ) (s : List ℕ) → s ≡ drop at text → map (part_of text) (items_from n at s) ≡ parts_from n s
unfolding items_from parts_from
parts_from_lem text zero at s e = refl
parts_from_lem text (suc n) at [] e = refl
parts_from_lem text (suc n) at (key ∷ s) e =
    let value : s ≡ drop (at + 1) text = ap (drop 1) e ∙ drop-drop 1 at text in
    let sum : at + 1 + (value_length s + 1) ≡ at + 1 + value_length s + 1 = omega arith in
    let rest : drop (value_length s + 1) s ≡ drop (at + 1 + value_length s + 1) text =
    ap (drop (value_length s + 1)) value ∙ drop-drop (value_length s + 1) (at + 1) text ∙ ap (λ (k : ℕ). drop k text) sum in
    rw (item_part text (at + 1) key (value_length s) s value, parts_from_lem text n (at + 1 + value_length s + 1) (drop (value_length s + 1) s) rest)

pub items_parts : (text : List ℕ) → map (part_of text) (items text) ≡ parts_from (length text) text
unfolding items
items_parts text = parts_from_lem text (length text) 0 text refl

-- The first of n numbers that passes a test, if it is k.
first_is : (test : ℕ → Bool) (n i k : ℕ) → i ≤ k → k ≤ i + n → ((p : ℕ) → i ≤ p → p < k → test p ≡ false) → (k < i + n → test k ≡ true)
    → first test n i ≡ k
first_is test zero i k a b f g = unfold first in omega arith
first_is test (suc n) i k a b f g =
    go (eqb i k) refl (λ h. first_is test n (suc i) k (omega arith) (omega arith) (λ p l. f p (omega arith)) (λ l. g (omega arith)))
  where
    go : (t : Bool) → eqb i k ≡ t → (i < k → first test n (suc i) ≡ k) → first test (suc n) i ≡ k
    go true e more =
        let here : i ≡ k = eqb-true i k e in
        first_hit test n i (ap test here ∙ g (omega arith)) ∙ here
    go false e more =
        let less : i < k = omega (arith, eqb-false i k e) in
        first_miss test n i (f i (omega arith) less) ∙ more less

value_is : (s : List ℕ) (k : ℕ) → k ≤ length s → ((p : ℕ) → p < k → splits s p ≡ false) → (k < length s → splits s k ≡ true)
    → value_length s ≡ k
unfolding value_length
value_is s k h f g = first_is (splits s) (length s) 0 k (omega arith) (omega arith) (λ p l. f p) (λ l. g (omega arith))

-- A closed value, with other parts behind it.
module _ (v : List ℕ) (closed : Closed v) where
  splits_front : (s : List ℕ) (p : ℕ) → p < length v → splits (v ++ s) p ≡ false
  unfolding splits
  splits_front s p h =
      let inner : p ≤ length v = omega arith in
      rw (get_or-append v s 0 p h, take-append-le p v s inner) (unfold splits in closed.commas p h)

  splits_behind : (s : List ℕ) → splits (v ++ (0x2C ∷ s)) (length v) ≡ true
  unfolding splits
  splits_behind s = rw (get_or-append_seam v 0x2C s 0, take-append_seam v (0x2C ∷ s), closed.pairs)

  pub value_whole : (ps : List Part) → value_length (v ++ following ps) ≡ length v
  unfolding following
  value_whole [] =
      let size = length-append v [] in
      value_is (v ++ []) (length v) (omega arith) (splits_front []) (λ l. absurd (omega arith))
  value_whole (p ∷ ps) =
      let rest : List ℕ = 0x2C ∷ p.key ∷ (p.value ++ following ps) in
      let size = length-append v rest in
      value_is (v ++ rest) (length v) (omega arith) (splits_front rest) (λ l. splits_behind (p.key ∷ (p.value ++ following ps)))

past_value : (v : List ℕ) (ps : List Part) → drop (length v + 1) (v ++ following ps) ≡ joined ps
unfolding following joined
past_value v [] = drop-append-add v [] 1
past_value v (p ∷ ps) = drop-append-add v (0x2C ∷ p.key ∷ (p.value ++ following ps)) 1

-- The text of parts that can be told apart again has these parts.
pub parts_joined : (n : ℕ) (ps : List Part) → length (joined ps) ≤ n → Each (λ p. p.key < 0x80) ps → Each (λ p. Closed p.value) ps
    → parts_from n (joined ps) ≡ ps
unfolding parts_from joined
parts_joined zero [] h a c = refl
parts_joined (suc n) [] h a c = refl
parts_joined zero (p ∷ ps) h a c = absurd (omega arith)
parts_joined (suc n) (p ∷ ps) h a c =
    let s = p.value ++ following ps in
    let rest = past_value p.value ps in
    let short = ap length rest in
    let size = length-drop (length p.value + 1) s in
    rw (
      value_whole p.value c.0 ps,
      choose_true (take (length p.value) s) [] (lt-ltb p.key 0x80 a.0),
      take-append_seam p.value (following ps),
      rest,
      parts_joined n ps (omega arith) a.1 c.1,
    )
