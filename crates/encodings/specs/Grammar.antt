-- The grammar of type encodings (note 5; Apple, Objective-C Runtime Programming Guide, "Type Encodings"): what there is to read,
-- and how each thing is written. A text is read as `ts` where each byte of `ts` is allowed and `ts` is written as that text. No
-- parser stands here.
use Rattle.std.specs.Prelude.{ℕ, suc, ◌+◌, ◌*◌, ◌≤◌, ◌<◌, max, ◌≡◌, Bool, true, false, not, ◌&&◌, ◌||◌, List, [], ◌∷◌, ◌++◌, eqb, leb, length, drop}
use Prim.Native.Char.{code}
use Rattle.pointers.specs.Symbol.{ascii}
use Rattle.reads.specs.Outcome.{Outcome, value, absent, refused}
use Rattle.reads.specs.declared.answer.Reason.TheVariants.{Malformed}
use Rattle.reads.specs.declared.answer.Question.TheVariants.{ItemRoom, Depth}

-- Types of one byte (table 6-1), with what Apple calls them. `@`, an object, is below.
abbrev pub codes : List ℕ
codes =
    code "c"  -- a char
    ∷ code "i"  -- an int
    ∷ code "s"  -- a short
    ∷ code "l"  -- a long
    ∷ code "q"  -- a long long
    ∷ code "C"  -- an unsigned char
    ∷ code "I"  -- an unsigned int
    ∷ code "S"  -- an unsigned short
    ∷ code "L"  -- an unsigned long
    ∷ code "Q"  -- an unsigned long long
    ∷ code "f"  -- a float
    ∷ code "d"  -- a double
    ∷ code "B"  -- a C++ bool or a C99 _Bool
    ∷ code "v"  -- a void
    ∷ code "*"  -- a character string (char *)
    ∷ code "#"  -- a class object (Class)
    ∷ code ":"  -- a method selector (SEL)
    ∷ code "?"  -- an unknown type
    ∷ []

-- Qualifiers (table 6-2).
abbrev pub qualifiers : List ℕ
qualifiers =
    code "r"  -- const
    ∷ code "n"  -- in
    ∷ code "N"  -- inout
    ∷ code "o"  -- out
    ∷ code "O"  -- bycopy
    ∷ code "R"  -- byref
    ∷ code "V"  -- oneway
    ∷ []

-- A structure or a union, and the brackets around it.
pub data Composite : Type 0 where
  structure : Composite
  union : Composite

abbrev pub opener : Composite → ℕ
opener structure = code "{"
opener union = code "("

abbrev pub closer : Composite → ℕ
closer structure = code "}"
closer union = code ")"

infixl 20 ◌then◌
mutual
  -- A type, as Apple writes and calls it. Digits are a first one and the others.
  pub data Encoding : Type 0 where
    basic : ℕ → Encoding  -- one of `codes`
    object : Encoding  -- `@`: an object
    instance : List ℕ → Encoding  -- `@"name"`: an object of that class (not on Apple's page)
    bit_field : ℕ → List ℕ → Encoding  -- `bnum`: a bit field of num bits
    qualified : ℕ → Encoding → Encoding  -- one of `qualifiers`, and the type that it stands before
    pointer : Encoding → Encoding  -- `^type`: a pointer to type
    array : ℕ → List ℕ → Encoding → Encoding  -- `[num type]`: an array
    opaque : Composite → List ℕ → Encoding  -- `{name}`: a structure, or `(name)`: a union, without its types
    defined : Composite → List ℕ → Fields → Encoding  -- `{name=type...}`: a structure, or `(name=type...)`: a union

  -- The types in a structure or union, the last one outermost.
  pub data Fields : Type 0 where
    nothing : Fields
    ◌then◌ : Fields → Encoding → Fields

-- The outermost types of a text, the last one outermost: each without a frame offset, or with one.
pub data Types : Type 0 where
  none : Types
  plain : Types → Encoding → Types
  framed : Types → Encoding → ℕ → List ℕ → Types

-- How a type is written, before a text s.
abbrev mutual
  pub spell : Encoding → List ℕ → List ℕ
  spell (basic b) s = b ∷ s
  spell object s = code "@" ∷ s
  spell (instance n) s = code "@" ∷ code "\"" ∷ n ++ code "\"" ∷ s
  spell (bit_field d ds) s = code "b" ∷ d ∷ ds ++ s
  spell (qualified q e) s = q ∷ spell e s
  spell (pointer e) s = code "^" ∷ spell e s
  spell (array d ds e) s = code "[" ∷ d ∷ ds ++ spell e (code "]" ∷ s)
  spell (opaque k n) s = opener k ∷ n ++ closer k ∷ s
  spell (defined k n fs) s = opener k ∷ n ++ code "=" ∷ spell_fields fs (closer k ∷ s)

  pub spell_fields : Fields → List ℕ → List ℕ
  spell_fields nothing s = s
  spell_fields (fs then e) s = spell_fields fs (spell e s)

abbrev pub spell_types : Types → List ℕ → List ℕ
spell_types none s = s
spell_types (plain ts e) s = spell_types ts (spell e s)
spell_types (framed ts e d ds) s = spell_types ts (spell e (d ∷ ds ++ s))

-- A byte is one of these.
unfoldable pub among : List ℕ → ℕ → Bool
among [] b = false
among (c ∷ cs) b = eqb b c || among cs b

-- 0 to 9.
unfoldable pub digit_byte : ℕ → Bool
digit_byte b = leb (code "0") b && leb b (code "9")

-- What a name may hold: no `=`, `"` or any of `[]{}()`.
unfoldable pub name_byte : ℕ → Bool
name_byte b = not (among (ascii "\"()=[]{}") b)

-- What a quoted class may hold: no `"`.
unfoldable pub quoted_byte : ℕ → Bool
quoted_byte b = not (eqb b (code "\""))

-- Each byte passes a test.
abbrev pub Each : (ℕ → Bool) → List ℕ → Type 0
Each p [] = Unit {0}
Each p (b ∷ bs) = (p b ≡ true) × Each p bs

-- Each byte may stand where it stands.
abbrev mutual
  pub Allowed : Encoding → Type 0
  Allowed (basic b) = among codes b ≡ true
  Allowed object = Unit {0}
  Allowed (instance n) = Each quoted_byte n
  Allowed (bit_field d ds) = Each digit_byte (d ∷ ds)
  Allowed (qualified q e) = (among qualifiers q ≡ true) × Allowed e
  Allowed (pointer e) = Allowed e
  Allowed (array d ds e) = Each digit_byte (d ∷ ds) × Allowed e
  Allowed (opaque k n) = Each name_byte n
  Allowed (defined k n fs) = Each name_byte n × AllowedFields fs

  pub AllowedFields : Fields → Type 0
  AllowedFields nothing = Unit {0}
  AllowedFields (fs then e) = AllowedFields fs × Allowed e

-- A type's last bytes are a bit field's digits.
abbrev pub ends_in_bits : Encoding → Bool
ends_in_bits (basic b) = false
ends_in_bits object = false
ends_in_bits (instance n) = false
ends_in_bits (bit_field d ds) = true
ends_in_bits (qualified q e) = ends_in_bits e
ends_in_bits (pointer e) = ends_in_bits e
ends_in_bits (array d ds e) = false
ends_in_bits (opaque k n) = false
ends_in_bits (defined k n fs) = false

-- No frame offset after a type that ends in a bit field's digits.
abbrev pub AllowedTypes : Types → Type 0
AllowedTypes none = Unit {0}
AllowedTypes (plain ts e) = AllowedTypes ts × Allowed e
AllowedTypes (framed ts e d ds) = AllowedTypes ts × Allowed e × (ends_in_bits e ≡ false) × Each digit_byte (d ∷ ds)

-- Nesting: each `^`, array, structure or union is one level.
abbrev mutual
  pub nesting : Encoding → ℕ
  nesting (basic b) = 0
  nesting object = 0
  nesting (instance n) = 0
  nesting (bit_field d ds) = 0
  nesting (qualified q e) = nesting e
  nesting (pointer e) = suc (nesting e)
  nesting (array d ds e) = suc (nesting e)
  nesting (opaque k n) = 1
  nesting (defined k n fs) = suc (nesting_fields fs)

  pub nesting_fields : Fields → ℕ
  nesting_fields nothing = 0
  nesting_fields (fs then e) = max (nesting_fields fs) (nesting e)

abbrev pub nesting_types : Types → ℕ
nesting_types none = 0
nesting_types (plain ts e) = max (nesting_types ts) (nesting e)
nesting_types (framed ts e d ds) = max (nesting_types ts) (nesting e)

-- How many outermost types.
abbrev pub count : Types → ℕ
count none = 0
count (plain ts e) = count ts + 1
count (framed ts e d ds) = count ts + 1

-- How many bytes: where the next outermost type starts.
abbrev pub size : Types → ℕ
size ts = length (spell_types ts [])

-- Four words for each outermost type: its start and length, qualifiers included, then those of its frame offset, 0 and 0 if none.
abbrev pub words_of : Types → List ℕ
words_of none = []
words_of (plain ts e) = words_of ts ++ size ts ∷ length (spell e []) ∷ 0 ∷ 0 ∷ []
words_of (framed ts e d ds) = words_of ts ++ size ts ∷ length (spell e []) ∷ size (plain ts e) ∷ length (d ∷ ds) ∷ []

-- A buffer with these words in front, and behind them as it was.
abbrev pub filled : Types → List ℕ → List ℕ
filled ts buffer = words_of ts ++ drop (4 * count ts) buffer

-- `ts` is a reading of the text: one type at least.
pub record Reading (text : List ℕ) (ts : Types) : Type 0 where
  pub some_type : 0 < count ts
  pub allowed : AllowedTypes ts
  pub spelled : spell_types ts [] ≡ text

-- Question 17: a level beyond the l-th is opened by a text that with it still begins one of the grammar. What stands before the
-- opening byte begins a text of at most l levels; with the byte some text of the grammar begins, and each that does has more.
pub record Deeper (l : ℕ) (text : List ℕ) : Type 0 where
  pub before : List ℕ
  pub opening : ℕ
  pub rest : List ℕ
  pub is : text ≡ before ++ opening ∷ rest
  pub opens : among (ascii "^[{(") opening ≡ true
  pub fits : (s : List ℕ) × (ts : Types) × Reading (before ++ s) ts × (nesting_types ts ≤ l)
  pub begins : (s : List ℕ) × (ts : Types) × Reading (before ++ opening ∷ s) ts
  pub deeper : (s : List ℕ) (ts : Types) → Reading (before ++ opening ∷ s) ts → l < nesting_types ts

-- What `type_words` says of a text (o), and what it leaves of the lent words (old) as `new`: how many outermost types there are,
-- and their words; or, with the words as they were, that the text is outside the grammar, 17, or 12.
pub data Says (text old : List ℕ) (o : Outcome ℕ) (new : List ℕ) : Type 0 where
  says_types : (ts : Types) → Reading text ts → nesting_types ts ≤ 32 → 4 * count ts ≤ length old → o ≡ value (count ts)
      → new ≡ filled ts old → Says text old o new
  says_absent : ((ts : Types) → Reading text ts → ⊥) → (Deeper 32 text → ⊥) → o ≡ absent Malformed → new ≡ old → Says text old o new
  says_deeper : Deeper 32 text → o ≡ refused Depth → new ≡ old → Says text old o new
  says_short : (ts : Types) → Reading text ts → nesting_types ts ≤ 32 → length old < 4 * count ts → o ≡ refused ItemRoom → new ≡ old
      → Says text old o new
