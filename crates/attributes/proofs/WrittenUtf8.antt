-- The written text of a property decoded from UTF-8, its unknown letters ASCII, is UTF-8 (note 1).
use Prim.Native.Nat.{ℕ, ◌<◌}
use mathlib.Core.Path.{◌≡◌, refl, ap, sym, subst, ◌∙◌}
use mathlib.Core.Bool.{Bool, true, false, false≢true}
use mathlib.Core.List.{List, [], ◌∷◌, ◌++◌}
use native.Mathlib.Omega.{arith}
use lib.Dec.{eqb}
use lib.ListN.{length}
use borrow.Author.Tests.{eqb-true}
use Rattle.reads.specs.Outcome.{choose}
use Rattle.reads.specs.Utf8.{Verdict, verdict, is_good, utf8}
use Rattle.reads.proofs.Tests.{by_choose}
use Rattle.reads.proofs.Grammar.{accepts, utf8_accepts}
use Rattle.attributes.specs.Written.{Part, Declaration, front_letters, back_letters, declaration, given, in_order, following, joined, written}
use Rattle.attributes.specs.RoundTrip.{Each}
use Rattle.attributes.proofs.Parts.{parts_from, items_parts}
use Rattle.attributes.proofs.Gathers.{first_part, first_parts, unknown_parts, gathered, declaration_gathered}
use Rattle.attributes.proofs.RoundTrip.{each_both, ascii_in_order}
use Rattle.attributes.proofs.Utf8Cuts.{accepts_ascii, accepts_both, parts_utf8}
use Rattle.reads.proofs.Options.{none_not_some, some_same}
use Rattle.std.specs.Prelude.{Option, None, Some, Ok, Err}

-- What is gathered from parts consists of these parts.
module _ (P : Part → Type 0) where
  each_first : (l : ℕ) (ps : List Part) (v : List ℕ) → Each P ps → first_part l ps ≡ Some v → P (record { key = l; value = v })
  unfolding first_part
  each_first l [] v a e = absurd (none_not_some v e)
  each_first l (p ∷ ps) v a e = go (eqb p.key l) refl e (each_first l ps v a.1)
    where
      go : (t : Bool) → eqb p.key l ≡ t → choose t (Some p.value) (first_part l ps) ≡ Some v
          → (first_part l ps ≡ Some v → P (record { key = l; value = v })) → P (record { key = l; value = v })
      go true f q more =
          let key = eqb-true p.key l f in
          let value = some_same p.value v (unfold choose in q) in
          subst (λ (x : List ℕ). P (record { key = l; value = x })) value
          (subst (λ (k : ℕ). P (record { key = k; value = p.value })) key a.0)
      go false f q more = more (unfold choose in q)

  each_given : (ls : List ℕ) (ps : List Part) → Each P ps → Each P (given ls (first_parts ls ps))
  unfolding given first_parts
  each_given [] ps a = tt
  each_given (l ∷ ls) ps a = go (first_part l ps) refl (each_given ls ps a)
    where
      go : (o : Option (List ℕ)) → first_part l ps ≡ o → Each P (given ls (first_parts ls ps)) → Each P (given (l ∷ ls) (o ∷ first_parts ls ps))
      go None e more = unfold given in more
      go (Some v) e more = unfold given in (each_first l ps v a e, more)

  each_unknown : (ps : List Part) → Each P ps → Each P (unknown_parts ps)
  unfolding unknown_parts
  each_unknown [] a = tt
  each_unknown (p ∷ ps) a = by_choose (Each P) (λ e. each_unknown ps a.1) (λ e. (a.0, each_unknown ps a.1))

  each_in_order : (ps : List Part) → Each P ps → Each P (in_order (gathered ps))
  unfolding in_order gathered first_parts
  each_in_order ps a =
      each_both P (given front_letters (first_parts front_letters ps)) (unknown_parts ps ++ given back_letters (first_parts back_letters ps))
      (each_given front_letters ps a)
      (each_both P (unknown_parts ps) (given back_letters (first_parts back_letters ps)) (each_unknown ps a) (each_given back_letters ps a))

-- Parts with ASCII keys and UTF-8 values make a UTF-8 text.
abbrev Utf8Values : List Part → Type 0
Utf8Values ps = Each (λ p. p.key < 0x80 → accepts [] p.value ≡ true) ps

accepts_following : (ps : List Part) → Each (λ p. p.key < 0x80) ps → Utf8Values ps → accepts [] (following ps) ≡ true
unfolding following
accepts_following [] a u = unfold accepts in refl
accepts_following (p ∷ ps) a u =
    accepts_ascii 0x2C (p.key ∷ (p.value ++ following ps)) (omega arith)
    ∙ accepts_ascii p.key (p.value ++ following ps) a.0
    ∙ accepts_both [] p.value (following ps) (u.0 a.0) (accepts_following ps a.1 u.1)

accepts_joined : (ps : List Part) → Each (λ p. p.key < 0x80) ps → Utf8Values ps → accepts [] (joined ps) ≡ true
unfolding joined
accepts_joined [] a u = unfold accepts in refl
accepts_joined (p ∷ ps) a u =
    accepts_ascii p.key (p.value ++ following ps) a.0
    ∙ accepts_both [] p.value (following ps) (u.0 a.0) (accepts_following ps a.1 u.1)

accepts_good : (s : List ℕ) → accepts [] s ≡ true → verdict s ≡ Ok tt
unfolding utf8
accepts_good s e = go (verdict s) (utf8_accepts s ∙ e)
  where
    go : (v : Verdict) → is_good v ≡ true → v ≡ Ok tt
    go (Ok u) f = refl
    go (Err k) f = absurd (false≢true f)

pub good_accepts : (s : List ℕ) → verdict s ≡ Ok tt → accepts [] s ≡ true
unfolding utf8
good_accepts s g = sym (utf8_accepts s) ∙ ap is_good g

pub written_utf8 : (text : List ℕ) → verdict text ≡ Ok tt → Each (λ p. p.key < 0x80) (declaration text).unknown
    → verdict (written (declaration text)) ≡ Ok tt
unfolding written
written_utf8 text g a =
    let d = declaration text in
    let ps = parts_from (length text) text in
    let from : d ≡ gathered ps = declaration_gathered text ∙ ap gathered (items_parts text) in
    let values : Utf8Values (in_order d) =
    subst (λ (x : Declaration). Utf8Values (in_order x)) (sym from) (each_in_order _ ps (parts_utf8 (length text) text (good_accepts text g))) in
    accepts_good (joined (in_order d)) (accepts_joined (in_order d) (ascii_in_order d a) values)
