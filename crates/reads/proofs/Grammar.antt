-- The definition by what is due and the grammar are one: `utf8` accepts exactly the texts of the grammar.
use Rattle.std.proofs.Common.{◌≡◌, ℕ, suc, Bool, true, false, ◌↔◌, List, [], ◌∷◌, ◌++◌, sym, refl, ap, ◌∙◌, subst}
use mathlib.Core.Bool.{false≢true}
use mathlib.Core.List.{Memᴰ}
use Rattle.reads.specs.Outcome.{choose}
use Rattle.reads.specs.Utf8.{Range, inside, chars, Fit, fit_none, fit_more, Octets, octets_none, octets_more, due_after, go_on, judge, is_good, utf8}
use Rattle.reads.proofs.Rows.{begun_unique, begun_some}
use Rattle.reads.proofs.Options.{none_not_some}
use Rattle.std.specs.Prelude.{Option, None, Some, Err}

-- What is accepted, without the offsets
abbrev pub onward : Option (List Range) → (List Range → Bool) → Bool
onward None f = false
onward (Some w) f = f w

-- s goes on where w are due, and ends between characters.
unfoldable pub accepts : List Range → List ℕ → Bool
accepts [] [] = true
accepts (r ∷ w) [] = false
accepts w (b ∷ s) = onward (due_after w b) (λ w'. accepts w' s)

pub judge_accepts : (s : List ℕ) (at : ℕ) (w : List Range) → is_good (judge at w s) ≡ accepts w s
unfolding judge accepts
judge_accepts [] at [] = refl
judge_accepts [] at (r ∷ w) = refl
judge_accepts (b ∷ s) at w = go (due_after w b) (λ w'. judge_accepts s (suc at) w')
  where
    go : (o : Option (List Range)) → ((w' : List Range) → is_good (judge (suc at) w' s) ≡ accepts w' s)
        → is_good (go_on o (Err at) (λ w'. judge (suc at) w' s)) ≡ onward o (λ w'. accepts w' s)
    go None f = refl
    go (Some w') f = f w'

pub utf8_accepts : (s : List ℕ) → utf8 s ≡ accepts [] s
unfolding utf8
utf8_accepts s = judge_accepts s 0 []

-- Accepted: in the grammar
-- The list is what is due, and then a text.
record Completes (w : List Range) (s : List ℕ) : Type 0 where
  c : List ℕ
  rest : List ℕ
  fit : Fit w c
  octets : Octets rest
  is : s ≡ c ++ rest

back : (w : List Range) (b : ℕ) (s : List ℕ) (w' : List Range) → due_after w b ≡ Some w' → Completes w' s → Completes w (b ∷ s)
back [] b s w' q k =
    let m = begun_some chars b w' q in
    record {
      c = [];
      rest = b ∷ s;
      fit = fit_none;
      octets = octets_more m.row (fit_more m.in_first k.fit) k.octets (ap (λ (l : List ℕ). b ∷ l) k.is);
      is = refl;
    }
back (r ∷ rs) b s w' q k = go (inside r b) refl q
  where
    go : (x : Bool) → inside r b ≡ x → choose x (Some rs) None ≡ Some w' → Completes (r ∷ rs) (b ∷ s)
    go true i q' =
        let e : w' ≡ rs = unfold choose in cc in
        record {
          c = b ∷ k.c;
          rest = k.rest;
          fit = fit_more i (subst (λ (l : List Range). Fit l k.c) e k.fit);
          octets = k.octets;
          is = ap (λ (l : List ℕ). b ∷ l) k.is;
        }
    go false i q' = absurd (none_not_some w' (unfold choose in q'))

accepts_completes : (s : List ℕ) (w : List Range) → accepts w s ≡ true → Completes w s
unfolding accepts
accepts_completes [] [] e = record { c = []; rest = []; fit = fit_none; octets = octets_none; is = refl }
accepts_completes [] (r ∷ w) e = absurd (false≢true e)
accepts_completes (b ∷ s) w e = go (due_after w b) refl e (λ w' e'. accepts_completes s w' e')
  where
    go : (o : Option (List Range)) → due_after w b ≡ o → onward o (λ w'. accepts w' s) ≡ true
        → ((w' : List Range) → accepts w' s ≡ true → Completes w' s) → Completes w (b ∷ s)
    go None q e' f = absurd (false≢true e')
    go (Some w') q e' f = back w b s w' q (f w' e')

-- In the grammar: accepted
fit_accepts : {w : List Range} {c : List ℕ} (s : List ℕ) → Fit w c → accepts w (c ++ s) ≡ accepts [] s
unfolding accepts choose
fit_accepts s fit_none = refl
fit_accepts s (fit_more t f) = simp t (fit_accepts s f)

char_accepts : {row : List Range} {c : List ℕ} (s : List ℕ) → Memᴰ row chars → Fit row c → accepts [] s ≡ true
    → accepts [] (c ++ s) ≡ true
unfolding accepts
char_accepts s m fit_none q = q
char_accepts s m (fit_more {r} {rs} {b} t f) q = simp (begun_unique chars r rs b refl m t) (fit_accepts s f ∙ q)

pub octets_accepts : {s : List ℕ} → Octets s → accepts [] s ≡ true
unfolding accepts
octets_accepts octets_none = refl
octets_accepts (octets_more {s = s} m f o e) = rw e (char_accepts s m f (octets_accepts o))

-- `utf8` accepts the texts of the grammar, and no others.
pub utf8_octets : (s : List ℕ) → (utf8 s ≡ true) ↔ Octets s
utf8_octets s = (λ e. from (accepts_completes s [] (sym (utf8_accepts s) ∙ e)), λ o. utf8_accepts s ∙ octets_accepts o)
  where
    from : Completes [] s → Octets s
    from k = go k.fit k.is
      where
        go : {c : List ℕ} → Fit [] c → s ≡ c ++ k.rest → Octets s
        go fit_none e = subst Octets (sym e) k.octets
