-- What a state of the machine has read, and what holds of it.
use Prim.Native.Nat.{ℕ, suc, ◌+◌, ◌≤◌, ◌<◌}
use Prim.Native.Char.{code}
use mathlib.Core.Path.{◌≡◌}
use mathlib.Core.Bool.{false, true}
use mathlib.Core.List.{List, [], ◌∷◌, ◌++◌}
use Rattle.reads.specs.Outcome.{Outcome, value, absent, refused}
use Rattle.encodings.specs.Grammar.{qualifiers, opener, spell, spell_fields, spell_types, among, digit_byte, name_byte, quoted_byte, Each, Allowed, AllowedFields, AllowedTypes, ends_in_bits, nesting, nesting_fields, nesting_types}
use Rattle.encodings.specs.Machine.{Open, qualifying, pointing, in_array, in_composite, Doing, wanted, counting, counted, naming, named, quoting, sizing, sized, at_sign, ended, offset, State, at, depth}

-- The bytes read, before a text s.
abbrev pub spell_open : List Open → List ℕ → List ℕ
spell_open [] s = s
spell_open (qualifying q ∷ os) s = spell_open os (q ∷ s)
spell_open (pointing ∷ os) s = spell_open os (code "^" ∷ s)
spell_open (in_array d ds ∷ os) s = spell_open os (code "[" ∷ d ∷ ds ++ s)
spell_open (in_composite k n fs ∷ os) s = spell_open os (opener k ∷ n ++ code "=" ∷ spell_fields fs s)

abbrev pub spell_doing : Doing → List ℕ → List ℕ
spell_doing wanted s = s
spell_doing counting s = code "[" ∷ s
spell_doing (counted d ds) s = code "[" ∷ d ∷ ds ++ s
spell_doing (naming k n) s = opener k ∷ n ++ s
spell_doing (named k n) s = opener k ∷ n ++ code "=" ∷ s
spell_doing (quoting n) s = code "@" ∷ code "\"" ∷ n ++ s
spell_doing sizing s = code "b" ∷ s
spell_doing (sized d ds) s = code "b" ∷ d ∷ ds ++ s
spell_doing at_sign s = code "@" ∷ s
spell_doing (ended e) s = spell e s
spell_doing (offset e d ds) s = spell e (d ∷ ds ++ s)

abbrev pub spell_state : State → List ℕ → List ℕ
spell_state (at ts m os) s = spell_types ts (spell_open os (spell_doing m s))

-- All that was read is allowed, with at most l levels.
abbrev pub GoodOpen : ℕ → List Open → Type 0
GoodOpen l [] = Unit {0}
GoodOpen l (qualifying q ∷ os) = (among qualifiers q ≡ true) × GoodOpen l os
GoodOpen l (pointing ∷ os) = GoodOpen l os
GoodOpen l (in_array d ds ∷ os) = Each digit_byte (d ∷ ds) × GoodOpen l os
GoodOpen l (in_composite k n fs ∷ os) = Each name_byte n × AllowedFields fs × (nesting_fields fs + suc (depth os) ≤ l) × GoodOpen l os

-- With os around it.
abbrev pub GoodDoing : ℕ → Doing → List Open → Type 0
GoodDoing l wanted os = depth os ≤ l
GoodDoing l counting os = depth os < l
GoodDoing l (counted d ds) os = Each digit_byte (d ∷ ds) × (depth os < l)
GoodDoing l (naming k n) os = Each name_byte n × (depth os < l)
GoodDoing l (named k n) os = Each name_byte n × (depth os < l)
GoodDoing l (quoting n) os = Each quoted_byte n × (depth os ≤ l)
GoodDoing l sizing os = depth os ≤ l
GoodDoing l (sized d ds) os = Each digit_byte (d ∷ ds) × (depth os ≤ l)
GoodDoing l at_sign os = depth os ≤ l
GoodDoing l (ended e) os = Allowed e × (ends_in_bits e ≡ false) × (nesting e + depth os ≤ l)
GoodDoing l (offset e d ds) os = Allowed e × (ends_in_bits e ≡ false) × Each digit_byte (d ∷ ds) × (nesting e ≤ l) × (os ≡ [])

abbrev pub Good : ℕ → State → Type 0
Good l (at ts m os) = AllowedTypes ts × (nesting_types ts ≤ l) × GoodOpen l os × GoodDoing l m os

-- What a step leads to is as good, and has read what t spells.
abbrev pub Keeps : ℕ → (List ℕ → List ℕ) → Outcome State → Type 0
Keeps l t (value y) = Good l y × ((s : List ℕ) → spell_state y s ≡ t s)
Keeps l t (absent r) = Unit {0}
Keeps l t (refused k) = Unit {0}
