-- A machine that reads a text byte by byte and builds its reading. proofs/Sound.antt, Complete.antt and Depth.antt tie it to the
-- grammar.
use Rattle.std.specs.Prelude.{ℕ, List, [], ◌∷◌, ◌++◌, length, eqb, ltb}
use Prim.Native.Char.{code}
use Rattle.reads.specs.Outcome.{Outcome, value, absent, refused, and_then, choose}
use Rattle.reads.specs.declared.answer.Reason.TheVariants.{Malformed}
use Rattle.encodings.specs.Grammar.{codes, qualifiers, Composite, structure, union, closer, Encoding, basic, object, instance, bit_field, qualified, pointer, array, opaque, defined, Fields, nothing, ◌then◌, Types, none, plain, framed, among, digit_byte, name_byte, quoted_byte}
use Rattle.encodings.specs.declared.bytes.Class.{Class}
use Rattle.encodings.specs.declared.bytes.Class.TheVariants.{Basic, Qualifier, Object, BitField, Pointer, Array, Structure, Union, Other}
use Rattle.reads.specs.declared.answer.Question.TheVariants.{Depth}

-- What a byte begins, where a type may begin.
unfoldable pub class_of : ℕ → Class
class_of b =
    choose (among codes b) Basic
    (choose (among qualifiers b) Qualifier
    (choose (eqb b (code "@")) Object
    (choose (eqb b (code "b")) BitField
    (choose (eqb b (code "^")) Pointer
    (choose (eqb b (code "[")) Array
    (choose (eqb b (code "{")) Structure
    (choose (eqb b (code "(")) Union Other)))))))

-- What was begun and waits for a type: a qualifier, a pointer, an array with its count, a structure or union with its fields so far.
pub data Open : Type 0 where
  qualifying : ℕ → Open
  pointing : Open
  in_array : ℕ → List ℕ → Open
  in_composite : Composite → List ℕ → Fields → Open

-- What was read last, and so what may come.
pub data Doing : Type 0 where
  wanted : Doing  -- a type must begin
  counting : Doing  -- `[`
  counted : ℕ → List ℕ → Doing  -- digits of an array's count
  naming : Composite → List ℕ → Doing  -- `{` or `(` and some of a name
  named : Composite → List ℕ → Doing  -- the `=` behind a name
  quoting : List ℕ → Doing  -- `@"` and some of a class
  sizing : Doing  -- `b`
  sized : ℕ → List ℕ → Doing  -- digits of a bit field
  at_sign : Doing  -- `@`
  ended : Encoding → Doing  -- a type's last byte
  offset : Encoding → ℕ → List ℕ → Doing  -- digits of a frame offset

pub data State : Type 0 where
  at : Types → Doing → List Open → State

abbrev pub outside : {A : Type 0} → Outcome A
outside = absent Malformed

abbrev pub too_deep : {A : Type 0} → Outcome A
too_deep = refused Depth

-- The open levels, each as the byte that closes it, `^` for a pointer.
abbrev pub levels : List Open → List ℕ
levels [] = []
levels (qualifying q ∷ os) = levels os
levels (pointing ∷ os) = code "^" ∷ levels os
levels (in_array d ds ∷ os) = code "]" ∷ levels os
levels (in_composite k n fs ∷ os) = closer k ∷ levels os

abbrev pub depth : List Open → ℕ
depth os = length (levels os)

-- One level more, if the limit l allows it.
abbrev pub within : ℕ → List Open → State → Outcome State
within l os x = choose (ltb (depth os) l) (value x) too_deep

-- A type begins, with the byte b of class c.
abbrev pub begin : ℕ → Types → List Open → ℕ → Class → Outcome State
begin l ts os b Basic = value (at ts (ended (basic b)) os)
begin l ts os b Qualifier = value (at ts wanted (qualifying b ∷ os))
begin l ts os b Object = value (at ts at_sign os)
begin l ts os b BitField = value (at ts sizing os)
begin l ts os b Pointer = within l os (at ts wanted (pointing ∷ os))
begin l ts os b Array = within l os (at ts counting os)
begin l ts os b Structure = within l os (at ts (naming structure []) os)
begin l ts os b Union = within l os (at ts (naming union []) os)
begin l ts os b Other = outside

-- The type e ended before b.
abbrev pub after : ℕ → Types → List Open → Encoding → ℕ → Class → Outcome State
after l ts [] e b c = choose (digit_byte b) (value (at ts (offset e b []) [])) (begin l (plain ts e) [] b c)
after l ts (qualifying q ∷ os) e b c = after l ts os (qualified q e) b c
after l ts (pointing ∷ os) e b c = after l ts os (pointer e) b c
after l ts (in_array d ds ∷ os) e b c = choose (eqb b (code "]")) (value (at ts (ended (array d ds e)) os)) outside
after l ts (in_composite k n fs ∷ os) e b c =
    choose (eqb b (closer k)) (value (at ts (ended (defined k n (fs then e))) os)) (begin l ts (in_composite k n (fs then e) ∷ os) b c)

abbrev pub step : ℕ → State → ℕ → Class → Outcome State
step l (at ts wanted os) b c = begin l ts os b c
step l (at ts counting os) b c = choose (digit_byte b) (value (at ts (counted b []) os)) outside
step l (at ts (counted d ds) os) b c =
    choose (digit_byte b) (value (at ts (counted d (ds ++ b ∷ [])) os)) (begin l ts (in_array d ds ∷ os) b c)
step l (at ts (naming k n) os) b c =
    choose (name_byte b) (value (at ts (naming k (n ++ b ∷ [])) os))
    (choose (eqb b (code "=")) (value (at ts (named k n) os)) (choose (eqb b (closer k)) (value (at ts (ended (opaque k n)) os)) outside))
step l (at ts (named k n) os) b c =
    choose (eqb b (closer k)) (value (at ts (ended (defined k n nothing)) os)) (begin l ts (in_composite k n nothing ∷ os) b c)
step l (at ts (quoting n) os) b c =
    choose (quoted_byte b) (value (at ts (quoting (n ++ b ∷ [])) os)) (value (at ts (ended (instance n)) os))
step l (at ts sizing os) b c = choose (digit_byte b) (value (at ts (sized b []) os)) outside
step l (at ts (sized d ds) os) b c =
    choose (digit_byte b) (value (at ts (sized d (ds ++ b ∷ [])) os)) (after l ts os (bit_field d ds) b c)
step l (at ts at_sign os) b c = choose (quoted_byte b) (after l ts os object b c) (value (at ts (quoting []) os))
step l (at ts (ended e) os) b c = after l ts os e b c
step l (at ts (offset e d ds) os) b c =
    choose (digit_byte b) (value (at ts (offset e d (ds ++ b ∷ [])) os)) (begin l (framed ts e d ds) [] b c)

-- The text ends after the type e.
abbrev pub outermost : Types → List Open → Encoding → Outcome Types
outermost ts [] e = value (plain ts e)
outermost ts (qualifying q ∷ os) e = outermost ts os (qualified q e)
outermost ts (pointing ∷ os) e = outermost ts os (pointer e)
outermost ts (in_array d ds ∷ os) e = outside
outermost ts (in_composite k n fs ∷ os) e = outside

abbrev pub finish : State → Outcome Types
finish (at ts wanted os) = outside
finish (at ts counting os) = outside
finish (at ts (counted d ds) os) = outside
finish (at ts (naming k n) os) = outside
finish (at ts (named k n) os) = outside
finish (at ts (quoting n) os) = outside
finish (at ts sizing os) = outside
finish (at ts (sized d ds) os) = outermost ts os (bit_field d ds)
finish (at ts at_sign os) = outermost ts os object
finish (at ts (ended e) os) = outermost ts os e
finish (at ts (offset e d ds) os) = value (framed ts e d ds)

-- What is read from a state on. A byte that leads nowhere ends it.
unfoldable pub run : ℕ → List ℕ → State → Outcome Types
run l [] x = finish x
run l (b ∷ s) x = and_then (step l x b (class_of b)) (λ y. run l s y)

-- The text read with at most l levels.
abbrev pub parse : ℕ → List ℕ → Outcome Types
parse l text = run l text (at none wanted [])
