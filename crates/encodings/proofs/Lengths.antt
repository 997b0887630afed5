-- How long what is spelled is.
use Prim.Native.Nat.{ℕ, ◌+◌, ◌≤◌, ◌<◌}
use Prim.Native.Char.{code}
use mathlib.Core.Path.{◌≡◌}
use mathlib.Core.List.{List, [], ◌∷◌, ◌++◌}
use native.Mathlib.Omega.{arith}
use lib.ListN.{length, length-append}
use Rattle.encodings.specs.Grammar.{opener, closer, Encoding, basic, object, instance, bit_field, qualified, pointer, array, opaque, defined, Fields, nothing, ◌then◌, Types, none, plain, framed, spell, spell_fields, spell_types, count, size}
use Rattle.encodings.specs.Machine.{Open, qualifying, pointing, in_array, in_composite, Doing, wanted, counting, counted, naming, named, quoting, sizing, sized, at_sign, ended, offset, State, at}
use Rattle.encodings.proofs.States.{spell_open, spell_doing, spell_state}

mutual
  pub length_spell : (e : Encoding) (s : List ℕ) → length (spell e s) ≡ length (spell e []) + length s
  length_spell (basic b) s = omega arith
  length_spell object s = omega arith
  length_spell (instance n) s = omega (arith, length-append n (code "\"" ∷ s), length-append n (code "\"" ∷ []))
  length_spell (bit_field d ds) s = omega (arith, length-append ds s, length-append ds [])
  length_spell (qualified q e) s = omega (arith, length_spell e s)
  length_spell (pointer e) s = omega (arith, length_spell e s)
  length_spell (array d ds e) s =
      omega (
        arith,
        length-append ds (spell e (code "]" ∷ s)),
        length-append ds (spell e (code "]" ∷ [])),
        length_spell e (code "]" ∷ s),
        length_spell e (code "]" ∷ []),
      )
  length_spell (opaque k n) s = omega (arith, length-append n (closer k ∷ s), length-append n (closer k ∷ []))
  length_spell (defined k n fs) s =
      omega (
        arith,
        length-append n (code "=" ∷ spell_fields fs (closer k ∷ s)),
        length-append n (code "=" ∷ spell_fields fs (closer k ∷ [])),
        length_fields fs (closer k ∷ s),
        length_fields fs (closer k ∷ []),
      )

  length_fields : (fs : Fields) (s : List ℕ) → length (spell_fields fs s) ≡ length (spell_fields fs []) + length s
  length_fields nothing s = omega arith
  length_fields (fs then e) s = omega (arith, length_fields fs (spell e s), length_fields fs (spell e []), length_spell e s)

pub length_types : (ts : Types) (s : List ℕ) → length (spell_types ts s) ≡ size ts + length s
length_types none s = omega arith
length_types (plain ts e) s = omega (arith, length_types ts (spell e s), length_types ts (spell e []), length_spell e s)
length_types (framed ts e d ds) s =
    omega (
      arith,
      length_types ts (spell e (d ∷ ds ++ s)),
      length_types ts (spell e (d ∷ ds ++ [])),
      length_spell e (d ∷ ds ++ s),
      length_spell e (d ∷ ds ++ []),
      length-append ds s,
      length-append ds [],
    )

length_open : (os : List Open) (s : List ℕ) → length (spell_open os s) ≡ length (spell_open os []) + length s
length_open [] s = omega arith
length_open (qualifying q ∷ os) s = omega (arith, length_open os (q ∷ s), length_open os (q ∷ []))
length_open (pointing ∷ os) s = omega (arith, length_open os (code "^" ∷ s), length_open os (code "^" ∷ []))
length_open (in_array d ds ∷ os) s =
    omega (arith, length_open os (code "[" ∷ d ∷ ds ++ s), length_open os (code "[" ∷ d ∷ ds ++ []), length-append ds s, length-append ds [])
length_open (in_composite k n fs ∷ os) s =
    omega (
      arith,
      length_open os (opener k ∷ n ++ code "=" ∷ spell_fields fs s),
      length_open os (opener k ∷ n ++ code "=" ∷ spell_fields fs []),
      length-append n (code "=" ∷ spell_fields fs s),
      length-append n (code "=" ∷ spell_fields fs []),
      length_fields fs s,
    )

length_doing : (m : Doing) (s : List ℕ) → length (spell_doing m s) ≡ length (spell_doing m []) + length s
length_doing wanted s = omega arith
length_doing counting s = omega arith
length_doing (counted d ds) s = omega (arith, length-append ds s, length-append ds [])
length_doing (naming k n) s = omega (arith, length-append n s, length-append n [])
length_doing (named k n) s = omega (arith, length-append n (code "=" ∷ s), length-append n (code "=" ∷ []))
length_doing (quoting n) s = omega (arith, length-append n s, length-append n [])
length_doing sizing s = omega arith
length_doing (sized d ds) s = omega (arith, length-append ds s, length-append ds [])
length_doing at_sign s = omega arith
length_doing (ended e) s = length_spell e s
length_doing (offset e d ds) s = omega (arith, length_spell e (d ∷ ds ++ s), length_spell e (d ∷ ds ++ []), length-append ds s, length-append ds [])

-- One more byte is one more.
pub length_state : (x : State) (b : ℕ) → length (spell_state x (b ∷ [])) ≡ length (spell_state x []) + 1
length_state (at ts m os) b =
    omega (
      arith,
      length_types ts (spell_open os (spell_doing m (b ∷ []))),
      length_types ts (spell_open os (spell_doing m [])),
      length_open os (spell_doing m (b ∷ [])),
      length_open os (spell_doing m []),
      length_doing m (b ∷ []),
    )

-- Every type has a byte.
pub spell_some : (e : Encoding) → 0 < length (spell e [])
spell_some (basic b) = omega arith
spell_some object = omega arith
spell_some (instance n) = omega arith
spell_some (bit_field d ds) = omega arith
spell_some (qualified q e) = omega arith
spell_some (pointer e) = omega arith
spell_some (array d ds e) = omega arith
spell_some (opaque k n) = omega arith
spell_some (defined k n fs) = omega arith

pub count_size : (ts : Types) → count ts ≤ size ts
count_size none = omega arith
count_size (plain ts e) = omega (arith, count_size ts, length_types ts (spell e []), spell_some e)
count_size (framed ts e d ds) =
    omega (arith, count_size ts, length_types ts (spell e (d ∷ ds ++ [])), length_spell e (d ∷ ds ++ []), spell_some e)
