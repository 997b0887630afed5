-- What the definitions say of a class: it loops exactly if it meets itself going up or leads into a class that does, whatever the bound
-- of the climb; else its chain ends or a lookup was refused.
use Prim.Native.Nat.{ℕ, zero, suc}
use mathlib.Core.Path.{◌≡◌, refl, ap, ◌∙◌}
use mathlib.Core.Bool.{Bool, false}
use mathlib.Core.List.{Memᴰ}
use Rattle.reads.specs.Outcome.{Outcome, value, absent, refused, and_then, nonzero}
use Rattle.reads.proofs.Outcomes.{then_came}
use Rattle.pointers.specs.Tables.{Tables}
use Rattle.records.specs.Class.{class_at}
use Rattle.records.specs.declared.class.ObjcClass.{ObjcClass}
use Rattle.ancestry.specs.Chain.{Says, says_ended, says_looping, says_refused, above, Loops, Ends, ended, looping, last_at}
use Rattle.ancestry.specs.Ancestry.{super_at, up_in, class_above, limit, ancestry_of}
use Rattle.ancestry.proofs.Known.{known, length_known, class_known, class_of}
use Rattle.ancestry.specs.declared.class_chain.Ancestry.{Ancestry}
use Rattle.ancestry.proofs.Chain.{Way, ends, refusing, goes, way, climb_loops}
use Rattle.ancestry.proofs.Meaning.{loops_told, told_looping, ends_told, refused_told}
use Rattle.reads.specs.declared.answer.Question.{Question}

module _ (t : Tables) where
  -- One step up from a class that is decoded.
  pub up_of : (a : ℕ) (c : ObjcClass) → class_at t a false ≡ value c → up_in t a ≡ and_then (super_at t c) (λ d. value d.address)
  unfolding up_in
  up_of a c e = rw e

  pub at_address : (a : ℕ) (m : Bool) (d : ObjcClass) → m ≡ false → class_at t a m ≡ value d → class_at t d.address false ≡ value d
  at_address a m d e f = let g : class_at t a false ≡ value d = rw e at f in ap (λ (x : ℕ). class_at t x false) (class_of t a false d g).address ∙ g

  -- A superclass is the class at its address.
  pub super_class : (a : ℕ) (c d : ObjcClass) → class_at t a false ≡ value c → super_at t c ≡ value d → class_at t d.address false ≡ value d
  unfolding super_at
  super_class a c d e s =
      let n = then_came (nonzero c.superclass_address) _ d s in
      at_address n.0 c.is_meta d (class_of t a false c e).kind n.2

  -- The steps of a page are the steps of the chain.
  pub class_above_lem : (k a : ℕ) (c : ObjcClass) → class_at t a false ≡ value c → and_then (class_above t k c) (λ d. value d.address) ≡ above (up_in t) k a
  unfolding class_above above
  class_above_lem zero a c e = ap value (class_of t a false c e).address
  class_above_lem (suc k) a c e = rw (up_of a c e) (go (super_at t c) refl (λ d f. class_above_lem k d.address d (super_class a c d e f)))
    where
      go : (o : Outcome ObjcClass) → super_at t c ≡ o
          → ((d : ObjcClass) → super_at t c ≡ value d → and_then (class_above t k d) (λ d. value d.address) ≡ above (up_in t) k d.address)
          → and_then (and_then o (class_above t k)) (λ d. value d.address) ≡ and_then (and_then o (λ d. value d.address)) (above (up_in t) k)
      go (value d) f later = later d f
      go (absent r) f later = refl
      go (refused j) f later = refl

  -- A step up leads to a class that decodes,
  pub up_decodes : (x y : ℕ) → up_in t x ≡ value y → (d : ObjcClass) × (class_at t y false ≡ value d)
  unfolding up_in
  up_decodes x y e =
      let c = then_came (class_at t x false) _ y e in
      let d = then_came (super_at t c.0) _ y c.2 in
      let same : d.0.address ≡ y = address d.2 in
      (d.0, rw same at (super_class x c.0 d.0 c.1 d.1))
    where
      address : {x : ℕ} → value x ≡ value y → x ≡ y
      address f = cc

  -- from one that does.
  pub up_from : (x y : ℕ) → up_in t x ≡ value y → (c : ObjcClass) × (class_at t x false ≡ value c)
  unfolding up_in
  up_from x y e = let c = then_came (class_at t x false) _ y e in (c.0, c.1)

  pub up_known : (x y : ℕ) → up_in t x ≡ value y → Memᴰ y (known t)
  up_known x y e = let d = up_decodes x y e in class_known t y false d.0 d.1

  -- A class that loops decodes: it has a class above it.
  loops_decodes : (a : ℕ) → Loops (up_in t) a → (c : ObjcClass) × (class_at t a false ≡ value c)
  loops_decodes a l = go l.steps l.leads
    where
      first : (k b x : ℕ) → above (up_in t) (suc k) x ≡ value b → (c : ObjcClass) × (class_at t x false ≡ value c)
      first k b x e = unfold above in let s = then_came (up_in t x) (above (up_in t) k) b e in up_from x s.0 s.1

      go : (k : ℕ) → above (up_in t) k a ≡ value l.into → (c : ObjcClass) × (class_at t a false ≡ value c)
      go zero e = unfold above in
          let same : a ≡ l.into = cc in
          rw same (first l.meets.round l.into l.into l.meets.back)
      go (suc k) e = first k l.into a e

  -- Looping exactly if the class meets itself going up, or leads into such a class.
  pub loops_looping : (a : ℕ) → Loops (up_in t) a → ancestry_of t a ≡ value looping
  unfolding ancestry_of
  loops_looping a l = let c = loops_decodes a l in rw c.1 (loops_told (up_in t) (limit t) a l)

  pub looping_loops : (a : ℕ) → ancestry_of t a ≡ value looping → Loops (up_in t) a
  unfolding ancestry_of
  looping_loops a e =
      let c = then_came (class_at t a false) _ looping e in
      told_looping (up_in t) (known t) up_known a (class_known t a false c.0 c.1)
      (rw (length_known t) c.2)

  pub loops_exactly : (a : ℕ) → (ancestry_of t a ≡ value looping → Loops (up_in t) a) × (Loops (up_in t) a → ancestry_of t a ≡ value looping)
  loops_exactly a = (looping_loops a, loops_looping a)

  -- A chain that ends: the count of the classes above, and the address of the last.
  pub ends_counted : (a k top : ℕ) (c : ObjcClass) → class_at t a false ≡ value c → Ends (up_in t) a k top
      → ancestry_of t a ≡ value (ended k (last_at k 0 top))
  unfolding ancestry_of
  ends_counted a k top c e w =
      rw (e, ← length_known t) (ends_told (up_in t) (known t) up_known a k top (class_known t a false c e) w)

  -- A lookup that is refused on the way refuses the class.
  pub refused_above : (a k top : ℕ) (j : Question) (c : ObjcClass) → class_at t a false ≡ value c → above (up_in t) k a ≡ value top → up_in t top ≡ refused j
      → ancestry_of t a ≡ refused j
  unfolding ancestry_of
  refused_above a k top j c e l r =
      rw (e, ← length_known t) (refused_told (up_in t) (known t) up_known a k top j (class_known t a false c e) l r)

  -- Of a class that decodes exactly what can be told is told.
  module _ (a : ℕ) (c : ObjcClass) (e : class_at t a false ≡ value c) where
    pub says_told : {x : Outcome Ancestry} → Says (up_in t) a x → ancestry_of t a ≡ x
    says_told (says_ended count top w) = ends_counted a count top c e w
    says_told (says_looping l) = loops_looping a l
    says_told (says_refused count top k l r) = refused_above a count top k c e l r

    pub told_says : Says (up_in t) a (ancestry_of t a)
    told_says = go (way (up_in t) (limit t) a)
      where
        go : Way (up_in t) (limit t) a → Says (up_in t) a (ancestry_of t a)
        go (ends k top h w) = rw (ends_counted a k top c e w) (says_ended k top w)
        go (refusing k top j h l r) = rw (refused_above a k top j c e l r) (says_refused k top j l r)
        go (goes b l) = let far : ancestry_of t a ≡ value looping = alone b l in rw far (says_looping (looping_loops a far))
          where
            alone : (b : ℕ) → above (up_in t) (limit t) a ≡ value b → ancestry_of t a ≡ value looping
            alone b l = unfold ancestry_of in rw e (climb_loops (up_in t) (limit t) a 0 0 b l)
