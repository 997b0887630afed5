-- Laws of bytes: what begins a type, and what does not.
use Prim.Native.Nat.{ℕ}
use Prim.Native.Char.{code}
use mathlib.Core.Path.{◌≡◌, refl, ap, sym, subst, ◌∙◌}
use mathlib.Core.Bool.{Bool, true, false, not, ◌&&◌, ◌||◌, true≢false, false≢true}
use mathlib.Core.List.{List, [], ◌∷◌}
use borrow.Author.Tests.{eqb-true, ne_eqb, not-true}
use lib.Dec.{eqb}
use Rattle.pointers.specs.Symbol.{ascii}
use Rattle.reads.proofs.Tests.{by_choose, choose_true, choose_false, both_true}
use Rattle.encodings.specs.Grammar.{codes, qualifiers, Composite, structure, union, opener, closer, among, digit_byte, quoted_byte}
use Rattle.encodings.specs.Machine.{class_of}
use Rattle.encodings.specs.declared.bytes.Class.{Class}
use Rattle.encodings.specs.declared.bytes.Class.TheVariants.{Basic, Qualifier, Object, BitField, Pointer, Array, Structure, Union, Other}

-- A test that every byte of a list passes.
abbrev pub covered : (ℕ → Bool) → List ℕ → Bool
covered test [] = true
covered test (j ∷ js) = test j && covered test js

pub among_passes : (test : ℕ → Bool) (js : List ℕ) (x : ℕ) → covered test js ≡ true → among js x ≡ true → test x ≡ true
unfolding among
among_passes test [] x c e = absurd (false≢true e)
among_passes test (j ∷ js) x c e = go (eqb x j) refl e (λ h. among_passes test js x both.1 h)
  where
    both : (test j ≡ true) × (covered test js ≡ true)
    both = both_true (test j) (covered test js) c

    go : (t : Bool) → eqb x j ≡ t → (t || among js x) ≡ true → (among js x ≡ true → test x ≡ true) → test x ≡ true
    go true q h f = ap test (eqb-true x j q) ∙ both.0
    go false q h f = f h

-- What a byte of each class is.
abbrev pub Begins : ℕ → Class → Type 0
Begins b Basic = among codes b ≡ true
Begins b Qualifier = among qualifiers b ≡ true
Begins b Object = b ≡ code "@"
Begins b BitField = b ≡ code "b"
Begins b Pointer = b ≡ code "^"
Begins b Array = b ≡ code "["
Begins b Structure = b ≡ code "{"
Begins b Union = b ≡ code "("
Begins b Other = Unit {0}

pub byte_begins : (b : ℕ) {c : Class} → class_of b ≡ c → Begins b c
byte_begins b e = subst (Begins b) e of_class_lem
  where
    of_class_lem : Begins b (class_of b)
    of_class_lem =
        unfold class_of in
        by_choose (Begins b) (λ h. h) λ h. by_choose (Begins b) (λ h. h) λ h. by_choose (Begins b) (λ h. eqb-true b (code "@") h)
        λ h. by_choose (Begins b) (λ h. eqb-true b (code "b") h) λ h. by_choose (Begins b) (λ h. eqb-true b (code "^") h)
        λ h. by_choose (Begins b) (λ h. eqb-true b (code "[") h) λ h. by_choose (Begins b) (λ h. eqb-true b (code "{") h)
        λ h. by_choose (Begins b) (λ h. eqb-true b (code "(") h) (λ h. tt)

pub class_basic : (b : ℕ) → among codes b ≡ true → class_of b ≡ Basic
unfolding class_of
class_basic b h = choose_true _ _ h

pub class_qualifier : (b : ℕ) → among qualifiers b ≡ true → class_of b ≡ Qualifier
unfolding class_of among
class_qualifier b h =
    choose_false _ _ (not-true _ (among_passes (λ j. not (among codes j)) qualifiers b refl h)) ∙ choose_true _ _ h

-- What no digit is, no quote and no closing byte: every byte that begins a type.
unfoldable pub start_byte : ℕ → Bool
start_byte b = not (digit_byte b) && (quoted_byte b && not (among (ascii "]})") b))

module _ (b : ℕ) (h : start_byte b ≡ true) where
  start_parts : (not (digit_byte b) ≡ true) × ((quoted_byte b && not (among (ascii "]})") b)) ≡ true)
  start_parts = unfold start_byte in both_true _ _ h

  pub start_digit : digit_byte b ≡ false
  start_digit = not-true _ start_parts.0

  pub start_quoted : quoted_byte b ≡ true
  start_quoted = (both_true _ _ start_parts.1).0

  pub start_closer : (k : Composite) → eqb b (closer k) ≡ false
  start_closer k =
      ne_eqb b (closer k) (λ e. true≢false (sym (ap (λ (x : ℕ). among (ascii "]})") x) e ∙ closing k) ∙ no_closing))
    where
      no_closing : among (ascii "]})") b ≡ false
      no_closing = not-true (among (ascii "]})") b) (both_true (quoted_byte b) (not (among (ascii "]})") b)) start_parts.1).1

      closing : (k : Composite) → among (ascii "]})") (closer k) ≡ true
      closing structure = unfold among in refl
      closing union = unfold among in refl

pub basic_starts : (b : ℕ) → among codes b ≡ true → start_byte b ≡ true
unfolding start_byte digit_byte quoted_byte among
basic_starts b h = among_passes start_byte codes b refl h

pub qualifier_starts : (b : ℕ) → among qualifiers b ≡ true → start_byte b ≡ true
unfolding start_byte digit_byte quoted_byte among
qualifier_starts b h = among_passes start_byte qualifiers b refl h

pub opener_starts : (k : Composite) → start_byte (opener k) ≡ true
unfolding start_byte digit_byte quoted_byte among
opener_starts structure = refl
opener_starts union = refl

pub digit_quoted : (b : ℕ) → digit_byte b ≡ true → quoted_byte b ≡ true
unfolding quoted_byte
digit_quoted b h = ap not (ne_eqb b _ (λ e. true≢false (sym h ∙ ap digit_byte e ∙ no_digit)))
  where
    no_digit : digit_byte (code "\"") ≡ false
    no_digit = unfold digit_byte in refl

-- A quoted class ends at a quote.
pub quote : (b : ℕ) → quoted_byte b ≡ false → b ≡ code "\""
unfolding quoted_byte
quote b h = go (eqb b (code "\"")) refl h
  where
    go : (t : Bool) → eqb b (code "\"") ≡ t → not t ≡ false → b ≡ code "\""
    go true e q = eqb-true b _ e
    go false e q = absurd (true≢false q)
