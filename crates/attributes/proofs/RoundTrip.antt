-- A declared property that is written out and decoded again is the same (note 1).
use Prim.Native.Nat.{ℕ, ◌<◌}
use mathlib.Core.Path.{◌≡◌, refl, ap, ◌∙◌}
use mathlib.Core.Bool.{true}
use mathlib.Core.List.{List, [], ◌∷◌, ◌++◌, map}
use native.Mathlib.Omega.{arith}
use lib.Dec.{ltb}
use lib.ListN.{length}
use borrow.Author.Tests.{ltb-true}
use Rattle.reads.proofs.Rows.{all}
use Rattle.reads.proofs.Tests.{both_true}
use Rattle.attributes.specs.Attributes.{items}
use Rattle.attributes.specs.Written.{Part, Declaration, front_letters, back_letters, part_of, declaration, given, in_order, written}
use Rattle.attributes.specs.RoundTrip.{Each, Writable, Shaped}
use Rattle.attributes.proofs.Parts.{items_parts, parts_joined}
use Rattle.attributes.proofs.Gathers.{gathered, declaration_gathered, gathered_in_order, gathered_shaped}
use Rattle.std.specs.Prelude.{Option, None, Some}

pub each_both : (P : Part → Type 0) (ps qs : List Part) → Each P ps → Each P qs → Each P (ps ++ qs)
each_both P [] qs a b = b
each_both P (p ∷ ps) qs a b = (a.0, each_both P ps qs a.1 b)

ascii_given : (ls : List ℕ) (vs : List (Option (List ℕ))) → all (λ l. ltb l 0x80) ls ≡ true → Each (λ p. p.key < 0x80) (given ls vs)
unfolding given
ascii_given [] vs e = tt
ascii_given (l ∷ ls) [] e = tt
ascii_given (l ∷ ls) (None ∷ vs) e = ascii_given ls vs (both_true (ltb l 0x80) (all (λ x. ltb x 0x80) ls) e).1
ascii_given (l ∷ ls) (Some v ∷ vs) e =
    let b = both_true (ltb l 0x80) (all (λ x. ltb x 0x80) ls) e in
    (ltb-true l 0x80 b.0, ascii_given ls vs b.1)

-- Where the unknown letters are ASCII, all are.
pub ascii_in_order : (d : Declaration) → Each (λ p. p.key < 0x80) d.unknown → Each (λ p. p.key < 0x80) (in_order d)
unfolding in_order
ascii_in_order d a =
    each_both _ (given front_letters d.front) (d.unknown ++ given back_letters (d.variable ∷ []))
    (ascii_given front_letters d.front refl)
    (each_both _ d.unknown (given back_letters (d.variable ∷ [])) a (ascii_given back_letters (d.variable ∷ []) refl))

pub round_trip : (d : Declaration) → Shaped d → Writable d → declaration (written d) ≡ d
unfolding written
round_trip d s w =
    declaration_gathered (written d)
    ∙ ap gathered
    (items_parts (written d) ∙ parts_joined (length (written d)) (in_order d) (omega arith) (ascii_in_order d w.ascii) w.closed)
    ∙ gathered_in_order d s

-- Every decoded property has the shape.
pub declaration_shaped : (text : List ℕ) → Shaped (declaration text)
declaration_shaped text = rw (declaration_gathered text) (gathered_shaped (map (part_of text) (items text)))

pub text_round_trip : (text : List ℕ) → Writable (declaration text) → declaration (written (declaration text)) ≡ declaration text
text_round_trip text w = round_trip (declaration text) (declaration_shaped text) w
