-- A declared property gathered from parts; from its own parts in order it is gathered again.
use Prim.Native.Nat.{ℕ, suc}
use mathlib.Core.Path.{◌≡◌, refl, ap, sym, ◌∙◌}
use mathlib.Core.Bool.{Bool, true, false, not, ◌&&◌, ◌||◌, true≢false}
use mathlib.Core.List.{List, [], ◌∷◌, ◌++◌, map, append_assoc, append-nil}
use native.Mathlib.Omega.{arith}
use lib.Dec.{eqb}
use lib.ListN.{length}
use lib.Seq.{append_snoc}
use borrow.Author.Tests.{eq-eqb, ne_eqb, eqb-false, le-leb, not-true}
use Rattle.reads.specs.Outcome.{choose}
use Rattle.reads.proofs.Rows.{all}
use Rattle.reads.proofs.Tests.{both_true, choose_true, choose_false, by_choose}
use Rattle.attributes.specs.Attributes.{items}
use Rattle.attributes.specs.Property.{letters, among, unknowns, first_value, declared}
use Rattle.attributes.specs.Written.{Part, Declaration, front_letters, back_letters, bytes_of, bytes_given, part_of, declaration_in, declaration, given, in_order}
use Rattle.attributes.specs.RoundTrip.{Each, Shaped}
use Rattle.attributes.specs.declared.items.Item.{Item}
use Rattle.std.specs.Prelude.{Some, Option, None}
use Rattle.reads.proofs.Options.{none_not_some}

unfoldable pub first_part : ℕ → List Part → Option (List ℕ)
first_part letter [] = None
first_part letter (p ∷ ps) = choose (eqb p.key letter) (Some p.value) (first_part letter ps)

unfoldable pub first_parts : List ℕ → List Part → List (Option (List ℕ))
first_parts [] ps = []
first_parts (l ∷ ls) ps = first_part l ps ∷ first_parts ls ps

unfoldable pub unknown_parts : List Part → List Part
unknown_parts [] = []
unknown_parts (p ∷ ps) = choose (among letters p.key) (unknown_parts ps) (p ∷ unknown_parts ps)

unfoldable pub gathered : List Part → Declaration
gathered ps = record { front = first_parts front_letters ps; unknown = unknown_parts ps; variable = first_part 0x56 ps }

-- The property that a text declares is gathered from its parts.
module _ (text : List ℕ) where
  first_bytes : (letter : ℕ) (is : List Item) → bytes_given text (first_value letter 0 is) ≡ first_part letter (map (part_of text) is)
  unfolding first_value first_part
  first_bytes letter [] = refl
  first_bytes letter (i ∷ is) = rw (le-leb 0 i.value.len (omega arith)) (go (eqb i.key letter) (first_bytes letter is))
    where
      go : (t : Bool) → bytes_given text (first_value letter 0 is) ≡ first_part letter (map (part_of text) is)
          → bytes_given text (choose (t && true) (Some i.value) (first_value letter 0 is))
          ≡ choose t (Some (bytes_of text i.value)) (first_part letter (map (part_of text) is))
      go true e = unfold choose in refl
      go false e = unfold choose in e

  unknown_bytes : (is : List Item) → map (part_of text) (unknowns is) ≡ unknown_parts (map (part_of text) is)
  unfolding unknowns unknown_parts
  unknown_bytes [] = refl
  unknown_bytes (i ∷ is) = go (among letters i.key) (unknown_bytes is)
    where
      go : (t : Bool) → map (part_of text) (unknowns is) ≡ unknown_parts (map (part_of text) is)
          → map (part_of text) (choose t (unknowns is) (i ∷ unknowns is))
          ≡ choose t (unknown_parts (map (part_of text) is)) (part_of text i ∷ unknown_parts (map (part_of text) is))
      go true e = unfold choose in e
      go false e = unfold choose in ap (λ (ps : List Part). part_of text i ∷ ps) e

  pub declaration_gathered : declaration text ≡ gathered (map (part_of text) (items text))
  unfolding declaration declaration_in declared gathered first_parts
  declaration_gathered = simp (first_bytes, unknown_bytes)

-- No part has the letter.
abbrev NoPart : ℕ → List Part → Type 0
NoPart l ps = first_part l ps ≡ None

neither : (a b : Bool) → (a || b) ≡ false → (a ≡ false) × (b ≡ false)
neither true b e = (cc, cc)
neither false b e = (refl, e)

none_then : (l : ℕ) (ps qs : List Part) → NoPart l ps → first_part l (ps ++ qs) ≡ first_part l qs
unfolding first_part
none_then l [] qs e = refl
none_then l (p ∷ ps) qs e = go (eqb p.key l) e (none_then l ps qs)
  where
    go : (t : Bool) → choose t (Some p.value) (first_part l ps) ≡ None → (NoPart l ps → first_part l (ps ++ qs) ≡ first_part l qs)
        → choose t (Some p.value) (first_part l (ps ++ qs)) ≡ first_part l qs
    go true f more = absurd (none_not_some p.value (sym (unfold choose in f)))
    go false f more = unfold choose in more (unfold choose in f)

-- Among given letters there is no other one.
none_given : (l : ℕ) (ls : List ℕ) (vs : List (Option (List ℕ))) → among ls l ≡ false → NoPart l (given ls vs)
unfolding first_part given among
none_given l [] vs e = refl
none_given l (x ∷ ls) [] e = refl
none_given l (x ∷ ls) (None ∷ vs) e = none_given l ls vs (neither (eqb x l) (among ls l) e).1
none_given l (x ∷ ls) (Some v ∷ vs) e =
    let n = neither (eqb x l) (among ls l) e in
    choose_false (Some v) (first_part l (given ls vs)) n.0 ∙ none_given l ls vs n.1

-- No part has one of the letters.
abbrev NoneOf : List ℕ → List Part → Type 0
NoneOf [] ps = Unit {0}
NoneOf (l ∷ ls) ps = NoPart l ps × NoneOf ls ps

none_of_none : (ls : List ℕ) → NoneOf ls []
unfolding first_part
none_of_none [] = tt
none_of_none (l ∷ ls) = (refl, none_of_none ls)

none_of_both : (ls : List ℕ) (ps qs : List Part) → NoneOf ls ps → NoneOf ls qs → NoneOf ls (ps ++ qs)
none_of_both [] ps qs a b = tt
none_of_both (l ∷ ls) ps qs a b = (none_then l ps qs a.0 ∙ b.0, none_of_both ls ps qs a.1 b.1)

none_of_one : (ls : List ℕ) (p : Part) → among ls p.key ≡ false → NoneOf ls (p ∷ [])
unfolding first_part among
none_of_one [] p e = tt
none_of_one (l ∷ ls) p e =
    let n = neither (eqb l p.key) (among ls p.key) e in
    let other : eqb p.key l ≡ false = ne_eqb p.key l (λ f. eqb-false l p.key n.0 (sym f)) in
    (choose_false (Some p.value) None other, none_of_one ls p n.1)

distinct : List ℕ → Bool
distinct [] = true
distinct (l ∷ ls) = not (among ls l) && distinct ls

-- Each letter's value is the first of its own part.
firsts_given : (ls : List ℕ) (vs : List (Option (List ℕ))) (ps qs : List Part) → distinct ls ≡ true → length vs ≡ length ls
    → NoneOf ls ps → NoneOf ls qs → first_parts ls (ps ++ (given ls vs ++ qs)) ≡ vs
unfolding first_parts given distinct
firsts_given [] [] ps qs d e a b = refl
firsts_given [] (v ∷ vs) ps qs d e a b = absurd (omega arith)
firsts_given (l ∷ ls) [] ps qs d e a b = absurd (omega arith)
firsts_given (l ∷ ls) (None ∷ vs) ps qs d e a b =
    let t = both_true (not (among ls l)) (distinct ls) d in
    rw (
      none_then l ps (given ls vs ++ qs) a.0,
      none_then l (given ls vs) qs (none_given l ls vs (not-true (among ls l) t.0)),
      b.0,
      firsts_given ls vs ps qs t.1 (omega arith) a.1 b.1,
    )
firsts_given (l ∷ ls) (Some v ∷ vs) ps qs d e a b =
    let t = both_true (not (among ls l)) (distinct ls) d in
    let p : Part = record { key = l; value = v } in
    let here : first_part l (ps ++ (p ∷ (given ls vs ++ qs))) ≡ Some v =
    none_then l ps (p ∷ (given ls vs ++ qs)) a.0 ∙ unfold first_part in choose_true (Some v) _ (eq-eqb l l refl) in
    let more = firsts_given ls vs (ps ++ (p ∷ [])) qs t.1 (omega arith)
    (none_of_both ls ps (p ∷ []) a.1 (none_of_one ls p (not-true (among ls l) t.0))) b.1 in
    rw here (ap (λ (r : List (Option (List ℕ))). Some v ∷ r) (ap (first_parts ls) (sym (append_snoc ps p (given ls vs ++ qs))) ∙ more))

none_of_given : (ls ks : List ℕ) (vs : List (Option (List ℕ))) → all (λ l. not (among ks l)) ls ≡ true → NoneOf ls (given ks vs)
none_of_given [] ks vs e = tt
none_of_given (l ∷ ls) ks vs e =
    let b = both_true (not (among ks l)) (all (λ x. not (among ks x)) ls) e in
    (none_given l ks vs (not-true (among ks l) b.0), none_of_given ls ks vs b.1)

-- Unknown letters are none of Apple's.
abbrev Unknown : List Part → Type 0
Unknown ps = Each (λ p. among letters p.key ≡ false) ps

none_unknown : (l : ℕ) (ps : List Part) → among letters l ≡ true → Unknown ps → NoPart l ps
unfolding first_part
none_unknown l [] e u = refl
none_unknown l (p ∷ ps) e u =
    let other : eqb p.key l ≡ false =
    ne_eqb p.key l (λ f. true≢false (sym e ∙ ap (among letters) (sym f) ∙ u.0)) in
    choose_false (Some p.value) (first_part l ps) other ∙ none_unknown l ps e u.1

none_of_unknown : (ls : List ℕ) (ps : List Part) → all (among letters) ls ≡ true → Unknown ps → NoneOf ls ps
none_of_unknown [] ps e u = tt
none_of_unknown (l ∷ ls) ps e u =
    let b = both_true (among letters l) (all (among letters) ls) e in
    (none_unknown l ps b.0 u, none_of_unknown ls ps b.1 u)

unknown_both : (ps qs : List Part) → unknown_parts (ps ++ qs) ≡ unknown_parts ps ++ unknown_parts qs
unfolding unknown_parts
unknown_both [] qs = refl
unknown_both (p ∷ ps) qs = go (among letters p.key) (unknown_both ps qs)
  where
    go : (t : Bool) → unknown_parts (ps ++ qs) ≡ unknown_parts ps ++ unknown_parts qs
        → choose t (unknown_parts (ps ++ qs)) (p ∷ unknown_parts (ps ++ qs)) ≡ choose t (unknown_parts ps) (p ∷ unknown_parts ps) ++ unknown_parts qs
    go true e = unfold choose in e
    go false e = unfold choose in ap (λ (r : List Part). p ∷ r) e

unknown_given : (ls : List ℕ) (vs : List (Option (List ℕ))) → all (among letters) ls ≡ true → unknown_parts (given ls vs) ≡ []
unfolding unknown_parts given
unknown_given [] vs e = refl
unknown_given (l ∷ ls) [] e = refl
unknown_given (l ∷ ls) (None ∷ vs) e = unknown_given ls vs (both_true (among letters l) (all (among letters) ls) e).1
unknown_given (l ∷ ls) (Some v ∷ vs) e =
    let b = both_true (among letters l) (all (among letters) ls) e in
    choose_true (unknown_parts (given ls vs)) _ b.0 ∙ unknown_given ls vs b.1

unknown_all : (ps : List Part) → Unknown ps → unknown_parts ps ≡ ps
unfolding unknown_parts
unknown_all [] u = refl
unknown_all (p ∷ ps) u = choose_false (unknown_parts ps) _ u.0 ∙ ap (λ (r : List Part). p ∷ r) (unknown_all ps u.1)

-- The parts in order: what is gathered of them.
module _ (d : Declaration) (s : Shaped d) where
  front : List Part
  front = given front_letters d.front

  back : List Part
  back = given back_letters (d.variable ∷ [])

  front_again : first_parts front_letters (front ++ (d.unknown ++ back)) ≡ d.front
  unfolding front back
  front_again =
      firsts_given front_letters d.front [] (d.unknown ++ back) (unfold distinct among in refl) s.front (none_of_none front_letters)
      (none_of_both front_letters d.unknown back
      (none_of_unknown front_letters d.unknown (unfold among in refl) s.unknown)
      (none_of_given front_letters back_letters (d.variable ∷ []) (unfold among in refl)))

  unknown_again : unknown_parts (front ++ (d.unknown ++ back)) ≡ d.unknown
  unfolding front back
  unknown_again =
      unknown_both front (d.unknown ++ back)
      ∙ rw (
        unknown_given front_letters d.front (unfold among in refl),
        unknown_both d.unknown back,
        unknown_all d.unknown s.unknown,
        unknown_given back_letters (d.variable ∷ []) (unfold among in refl),
        append-nil d.unknown,
      )

  back_again : first_parts back_letters (front ++ (d.unknown ++ back)) ≡ d.variable ∷ []
  unfolding front back
  back_again =
      ap (first_parts back_letters)
      (sym (append_assoc front d.unknown back) ∙ ap (λ (r : List Part). (front ++ d.unknown) ++ r) (sym (append-nil back)))
      ∙ firsts_given back_letters (d.variable ∷ []) (front ++ d.unknown) [] (unfold distinct among in refl) refl
      (none_of_both back_letters front d.unknown
      (none_of_given back_letters front_letters d.front (unfold among in refl))
      (none_of_unknown back_letters d.unknown (unfold among in refl) s.unknown))
      (none_of_none back_letters)

  pub gathered_in_order : gathered (in_order d) ≡ d
  unfolding gathered in_order front back first_parts
  gathered_in_order =
      let variable : first_part 0x56 (front ++ (d.unknown ++ back)) ≡ d.variable = cc back_again in
      rw (front_again, unknown_again, variable)

-- What is gathered of any parts has this shape.
length_firsts : (ls : List ℕ) (ps : List Part) → length (first_parts ls ps) ≡ length ls
unfolding first_parts
length_firsts [] ps = refl
length_firsts (l ∷ ls) ps = ap suc (length_firsts ls ps)

gathered_unknown : (ps : List Part) → Unknown (unknown_parts ps)
unfolding unknown_parts
gathered_unknown [] = tt
gathered_unknown (p ∷ ps) = by_choose Unknown (λ e. gathered_unknown ps) (λ e. (e, gathered_unknown ps))

pub gathered_shaped : (ps : List Part) → Shaped (gathered ps)
unfolding gathered
gathered_shaped ps = record { front = length_firsts front_letters ps; unknown = gathered_unknown ps }
