-- The items of a text, one after another, and those of them that are handed out.
use Prim.Native.Nat.{ℕ, zero, suc, ◌+◌, ◌-◌, ◌≤◌, ◌<◌}
use mathlib.Core.Path.{◌≡◌, refl, ap, sym, subst, ◌∙◌}
use mathlib.Core.Bool.{Bool, true, false, not, ◌&&◌}
use mathlib.Core.List.{List, [], ◌∷◌}
use native.Mathlib.Omega.{arith}
use native.Mathlib.Numerals.{add-one}
use denote.Ref.{Bor}
use denote.Param.Members.{Mut}
use Rattle.std.proofs.Common.{Option, Some, cond}
use Rattle.std.specs.Bool.{⊤}
use Rattle.std.specs.Fn.{CalledAt}
use Rattle.std.specs.Iterator.{YieldsFirst, item_count, Yields, YieldsThen, MakesProgress}
use Rattle.std.specs.List.{find, FoldsTo}
use Rattle.std.specs.Option.{MatchOption}
use lib.Dec.{eqb, ltb, leb}
use lib.ListN.{length, get_or, drop, length-drop, drop_of_length-le}
use lib.Seq.{drop-drop, drop-cons}
use Rattle.reads.specs.Outcome.{choose}
use Rattle.attributes.specs.Attributes.{value_length, item_of, items_from, items, is_type, type_among}
use Rattle.attributes.specs.Property.{letters, among, unknowns, first_value}
use Rattle.attributes.specs.Pass.{items_at, wanted, chosen}
use Rattle.attributes.specs.declared.pass.Which.{Which}
use Rattle.attributes.specs.declared.items.Item.{Item}
use Rattle.attributes.specs.declared.items.Value.{Value}
use Rattle.attributes.specs.declared.pass.Which.TheVariants.{All, Unknown}
use Rattle.std.specs.Prelude.{None}

-- An item takes a byte at least, so as many items as bytes are enough.
pub items_enough : (n m at : ℕ) (s : List ℕ) → length s ≤ n → length s ≤ m → items_from n at s ≡ items_from m at s
unfolding items_from
items_enough zero zero at s h g = refl
items_enough zero (suc m) at [] h g = refl
items_enough zero (suc m) at (key ∷ s) h g = absurd (omega arith)
items_enough (suc n) zero at [] h g = refl
items_enough (suc n) zero at (key ∷ s) h g = absurd (omega arith)
items_enough (suc n) (suc m) at [] h g = refl
items_enough (suc n) (suc m) at (key ∷ s) h g =
    let short = length-drop (value_length s + 1) s in
    ap (λ (is : List Item). item_of key (at + 1) (value_length s) ∷ is)
    (items_enough n m (at + 1 + value_length s + 1) (drop (value_length s + 1) s) (omega arith) (omega arith))

-- The first item, and the others from one past the comma that ends it.
items_step : (n at key : ℕ) (s : List ℕ) → length s < n
    → items_from n at (key ∷ s)
    ≡ item_of key (at + 1) (value_length s) ∷ items_from n (at + 1 + value_length s + 1) (drop (value_length s + 1) s)
unfolding items_from
items_step zero at key s h = absurd (omega arith)
items_step (suc n) at key s h =
    let short = length-drop (value_length s + 1) s in
    ap (λ (is : List Item). item_of key (at + 1) (value_length s) ∷ is)
    (items_enough n (suc n) (at + 1 + value_length s + 1) (drop (value_length s + 1) s) (omega arith) (omega arith))

items_from_few : (n at : ℕ) (s : List ℕ) → length (items_from n at s) ≤ n
unfolding items_from
items_from_few zero at s = omega arith
items_from_few (suc n) at [] = omega arith
items_from_few (suc n) at (key ∷ s) = omega (arith, items_from_few n (at + 1 + value_length s + 1) (drop (value_length s + 1) s))

module _ (text : List ℕ) where
  items_few : (i : ℕ) → length (items_at text i) ≤ length text
  unfolding items_at
  items_few i = items_from_few (length text) i (drop i text)

  pub items_start : items_at text 0 ≡ items text
  unfolding items items_at
  items_start = refl

  pub items_end : (i : ℕ) → length text ≤ i → items_at text i ≡ []
  unfolding items_at
  items_end i h = rw (drop_of_length-le text h) (none (length text))
    where
      none : (n : ℕ) → items_from n i [] ≡ []
      none zero = unfold items_from in refl
      none (suc n) = unfold items_from in refl

  pub items_next : (i end : ℕ) → i < length text → end ≡ i + 1 + value_length (drop (i + 1) text)
      → items_at text i ≡ item_of (get_or text i 0) (i + 1) (end - (i + 1)) ∷ items_at text (end + 1)
  unfolding items_at
  items_next i end h e =
      let s = drop (i + 1) text in
      let cut : drop i text ≡ get_or text i 0 ∷ s = rw (add-one, drop-cons text i 0) in
      let past : end - (i + 1) ≡ value_length s = omega arith in
      let on : i + 1 + (value_length s + 1) ≡ end + 1 = omega arith in
      let rest : drop (value_length s + 1) s ≡ drop (end + 1) text =
      drop-drop (value_length s + 1) (i + 1) text ∙ ap (λ (k : ℕ). drop k text) on in
      rw (cut, past, ← rest, e) (items_step (length text) i (get_or text i 0) s (omega (arith, length-drop (i + 1) text)))

-- All items are chosen, or those of unknown letters.
-- No more items are handed out than there are.
chosen_fewer : (which : Which) (is : List Item) → length (chosen which is) ≤ length is
chosen_fewer which [] = omega arith
chosen_fewer which (i ∷ is) = go (wanted which i.key) (chosen_fewer which is)
  where
    go : (t : Bool) → length (chosen which is) ≤ length is → length (cond t (i ∷ chosen which is) (chosen which is)) ≤ suc (length is)
    go true h = omega arith
    go false h = omega arith

pub chosen_few : (which : Which) (text : List ℕ) (i : ℕ) → length (chosen which (items_at text i)) ≤ length text
chosen_few which text i = omega (arith, chosen_fewer which (items_at text i), items_few text i)

pub chosen_all : (is : List Item) → chosen All is ≡ is
chosen_all [] = refl
chosen_all (i ∷ is) = ap (λ (l : List Item). i ∷ l) (chosen_all is)

pub chosen_unknown : (is : List Item) → chosen Unknown is ≡ unknowns is
unfolding unknowns
chosen_unknown [] = refl
chosen_unknown (i ∷ is) = go (among letters i.key) (chosen_unknown is)
  where
    go : (t : Bool) → chosen Unknown is ≡ unknowns is
        → cond (not t) (i ∷ chosen Unknown is) (chosen Unknown is) ≡ choose t (unknowns is) (i ∷ unknowns is)
    go true e = unfold choose in e
    go false e = unfold choose in ap (λ (l : List Item). i ∷ l) e

-- The first chosen item, and the chosen ones behind it.
module _ (which : Which) {S F : Type 0} (rest : S → List Item) {g : Mut F (Bor Item × Unit {0}) Bool} {f : F}
    (calls : (x : Item) (b : Bool) (q : F) → CalledAt g f x b q → (q ≡ f) × (b ≡ wanted which x.key)) where
  passed_over : (s t : S) (xs : List Item) (j : F) → Yields (YieldsFirst rest) s xs t → FoldsTo (λ p x q. CalledAt g p x false q) f xs j
      → (j ≡ f) × (chosen which (rest s) ≡ chosen which (rest t))
  passed_over s t [] j y k = (sym k, ap (λ (z : S). chosen which (rest z)) y)
  passed_over s t (x ∷ xs) j (m, e, y) (p, c, k) =
      let h = calls x false p c in
      let more = passed_over m t xs j y (subst (λ (z : F). FoldsTo (λ p x q. CalledAt g p x false q) z xs j) h.0 k) in
      let past : chosen which (x ∷ rest m) ≡ chosen which (rest m) =
      ap (λ (b : Bool). cond b (x ∷ chosen which (rest m)) (chosen which (rest m))) (sym h.1) in
      (more.0, ap (chosen which) e ∙ past ∙ more.1)

  pub chosen_first : {s : S} (u : S) (r : Option Item)
      → (xs : List Item) × (j : F) × YieldsThen (YieldsFirst rest) s xs r u × FoldsTo (λ p x q. CalledAt g p x false q) f xs j × MatchOption r ⊤ (λ x. (h : F) × CalledAt g j x true h)
      → YieldsFirst (λ z. chosen which (rest z)) s r u
  chosen_first {s} u None (xs, j, (t, y, n), k, d) =
      let over = passed_over s t xs j y k in
      (over.1 ∙ ap (chosen which) n.0, ap (chosen which) n.1)
  chosen_first {s} u (Some x) (xs, j, (t, y, n), k, (h, d)) =
      let over = passed_over s t xs j y k in
      let c = calls x true h (subst (λ (z : F). CalledAt g z x true h) over.0 d) in
      over.1 ∙ ap (chosen which) n ∙ ap (λ (b : Bool). cond b (x ∷ chosen which (rest u)) (chosen which (rest u))) (sym c.1)

-- A step over what is left goes on to fewer items.
pub first_goes : {S : Type 0} {can : S → Type 0} (rest : S → List Item) {s t : S} (r : Option Item) → can t → YieldsFirst rest s r t
    → MakesProgress can (item_count rest) s r t
first_goes rest None c y = record { on = λ f. tt; keeps = tt; rests = λ f. tt }
first_goes rest (Some x) c y = record { on = λ f. (c, tt, omega (arith, ap length y)); keeps = c; rests = λ f. tt }

-- The first value of a letter is that of the first item that has it.
abbrev pub value_in : Option Item → Option Value
value_in None = None
value_in (Some i) = Some i.value

pub value_found : (letter least : ℕ) (is : List Item)
    → value_in (find (λ i. eqb i.key letter && leb least i.value.len) is) ≡ first_value letter least is
unfolding first_value
value_found letter least [] = refl
value_found letter least (i ∷ is) = go (eqb i.key letter && leb least i.value.len) (value_found letter least is)
  where
    go : (t : Bool) → value_in (find (λ i. eqb i.key letter && leb least i.value.len) is) ≡ first_value letter least is
        → value_in (cond t (Some i) (find (λ i. eqb i.key letter && leb least i.value.len) is)) ≡ choose t (Some i.value) (first_value letter least is)
    go true e = unfold choose in refl
    go false e = unfold choose in e

-- The type is the first T value of one byte or more.
pub type_first : (is : List Item) → first_value 0x54 1 is ≡ type_among is
unfolding first_value type_among is_type
type_first [] = refl
type_first (i ∷ is) = ap (choose (eqb i.key 0x54 && ltb 0 i.value.len) (Some i.value)) (type_first is)
