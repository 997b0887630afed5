-- What the code keeps of a state of the machine, and what its functions promise each other.
use Rattle.std.specs.Prelude.{ℕ, zero, suc, ◌+◌, ◌-◌, ◌*◌, ◌≤◌, ◌≡◌, Bool, false, List, [], ◌∷◌, eqb, ltb, length, get_or, Option, None, Some, Result, Ok, Err, unwrap_or}
use Prim.Native.Char.{code}
use Rattle.std.proofs.lemmas.List.Edits.{sets}
use Rattle.reads.specs.Answer.{missed}
use Rattle.reads.specs.Outcome.{Outcome, value, and_then, choose}
use Rattle.encodings.specs.Grammar.{Types, count, filled, digit_byte, name_byte, quoted_byte}
use Rattle.encodings.specs.Machine.{outside, too_deep, class_of, parse}
use Rattle.encodings.specs.declared.bytes.Class.{Class}
use Rattle.encodings.specs.declared.bytes.Class.TheVariants.{Basic, Qualifier, Object, BitField, Pointer, Array, Structure, Union, Other}
use Rattle.encodings.specs.declared.kept.Level.{Level}
use Rattle.encodings.specs.declared.kept.Level.TheVariants as level
use Rattle.encodings.specs.declared.kept.Mode.{Mode}
use Rattle.encodings.specs.declared.kept.Mode.TheVariants as mode
use Rattle.encodings.specs.declared.kept.Parser.{Parser}
use Rattle.reads.specs.declared.answer.Missing.{Missing}

-- Of a state: what was read last, the open levels, and where this type starts.
pub data Kept : Type 0 where
  kept : Mode → List ℕ → ℕ → Kept

-- What closes each kind of level; a pointer nothing does.
abbrev pub closer_of : Level → ℕ
closer_of level.Pointer = code "^"
closer_of level.Array = code "]"
closer_of level.Structure = code "}"
closer_of level.Union = code ")"

-- The first n of the kinds as levels, the last of them innermost.
unfoldable pub levels_in : ℕ → List Level → List ℕ
levels_in zero ks = []
levels_in (suc n) ks = closer_of (get_or ks n level.Pointer) ∷ levels_in n ks

unfoldable pub innermost_in : ℕ → List Level → Option Level
innermost_in zero ks = None
innermost_in (suc n) ks = Some (get_or ks n level.Pointer)

abbrev pub levels_of : Parser → List ℕ
levels_of p = levels_in p.depth p.levels

abbrev pub kept_in : Parser → Kept
kept_in p = kept p.mode (levels_of p) p.start

-- What a step comes to, from the parser that it leaves and its answer.
abbrev pub stepped : Parser → Result (Unit {0}) Missing → Outcome Kept
stepped p (Ok u) = value (kept_in p)
stepped p (Err m) = missed m

-- Below, ls are the levels, s is where this type starts, b is the byte and i where it stands.

-- A level that the byte c closes, 32 at most.
abbrev pub opened : ℕ → Mode → List ℕ → ℕ → Outcome Kept
opened c m ls s = choose (ltb (length ls) 32) (value (kept m (c ∷ ls) s)) too_deep

-- A type begins.
abbrev pub begun : List ℕ → ℕ → Class → Outcome Kept
begun ls s Basic = value (kept mode.Ended ls s)
begun ls s Qualifier = value (kept mode.Wanted ls s)
begun ls s Object = value (kept mode.AtSign ls s)
begun ls s BitField = value (kept mode.Sizing ls s)
begun ls s Pointer = opened (code "^") mode.Wanted ls s
begun ls s Array = opened (code "]") mode.Counting ls s
begun ls s Structure = opened (code "}") mode.Naming ls s
begun ls s Union = opened (code ")") mode.Naming ls s
begun ls s Other = outside

-- The levels below the innermost pointers.
abbrev pub below_pointers : List ℕ → List ℕ
below_pointers [] = []
below_pointers (t ∷ ls) = choose (eqb t (code "^")) (below_pointers ls) (t ∷ ls)

-- The byte closes the innermost level.
abbrev pub closes : List ℕ → ℕ → Bool
closes [] b = false
closes (t ∷ ls) b = eqb b t

-- The levels below the innermost.
abbrev pub below : List ℕ → List ℕ
below [] = []
below (t ∷ ls) = ls

-- After a type in an array, a structure or a union.
abbrev pub inside : List ℕ → ℕ → ℕ → Outcome Kept
inside ls s b =
    choose (closes ls b) (value (kept mode.Ended (below ls) s)) (choose (closes ls (code "]")) outside (begun ls s (class_of b)))

-- After a type, with no pointer innermost; the byte b stands at i.
abbrev pub followed : List ℕ → ℕ → ℕ → ℕ → Outcome Kept
followed [] s b i = choose (digit_byte b) (value (kept (mode.Offset i) [] s)) (begun [] i (class_of b))
followed (t ∷ ls) s b i = inside (t ∷ ls) s b

-- A step, by what was read last.
abbrev pub step_in : Mode → List ℕ → ℕ → ℕ → ℕ → Outcome Kept
step_in mode.Wanted ls s b i = begun ls s (class_of b)
step_in mode.Counting ls s b i = choose (digit_byte b) (value (kept mode.Counted ls s)) outside
step_in mode.Counted ls s b i = choose (digit_byte b) (value (kept mode.Counted ls s)) (begun ls s (class_of b))
step_in mode.Naming ls s b i =
    choose (name_byte b) (value (kept mode.Naming ls s))
    (choose (eqb b (code "=")) (value (kept mode.Named ls s)) (choose (closes ls b) (value (kept mode.Ended (below ls) s)) outside))
step_in mode.Named ls s b i = choose (closes ls b) (value (kept mode.Ended (below ls) s)) (begun ls s (class_of b))
step_in mode.Quoting ls s b i = choose (quoted_byte b) (value (kept mode.Quoting ls s)) (value (kept mode.Ended ls s))
step_in mode.Sizing ls s b i = choose (digit_byte b) (value (kept mode.Sized ls s)) outside
step_in mode.Sized ls s b i = choose (digit_byte b) (value (kept mode.Sized ls s)) (followed (below_pointers ls) s b i)
step_in mode.AtSign ls s b i = choose (quoted_byte b) (followed (below_pointers ls) s b i) (value (kept mode.Quoting ls s))
step_in mode.Ended ls s b i = followed (below_pointers ls) s b i
step_in (mode.Offset o) ls s b i = choose (digit_byte b) (value (kept (mode.Offset o) ls s)) (begun [] i (class_of b))

abbrev pub step_as : Mode → Parser → ℕ → ℕ → Outcome Kept
step_as m p b i = step_in m (levels_of p) p.start b i

-- The text ends after a type: at the outermost level, below pointers, or outside the grammar.
abbrev pub end_of : List ℕ → Outcome (Unit {0})
end_of [] = value tt
end_of (t ∷ ls) = outside

abbrev pub finish_in : Mode → List ℕ → Outcome (Unit {0})
finish_in mode.Wanted ls = outside
finish_in mode.Counting ls = outside
finish_in mode.Counted ls = outside
finish_in mode.Naming ls = outside
finish_in mode.Named ls = outside
finish_in mode.Quoting ls = outside
finish_in mode.Sizing ls = outside
finish_in mode.Sized ls = end_of (below_pointers ls)
finish_in mode.AtSign ls = end_of (below_pointers ls)
finish_in mode.Ended ls = end_of (below_pointers ls)
finish_in (mode.Offset o) ls = value tt

abbrev pub finish_as : Mode → Parser → Outcome (Unit {0})
finish_as m p = finish_in m (levels_of p)

-- ---- Words

-- Where the frame offset starts, if its digits are being read.
abbrev pub offset_of : Mode → Option ℕ
offset_of mode.Wanted = None
offset_of mode.Counting = None
offset_of mode.Counted = None
offset_of mode.Naming = None
offset_of mode.Named = None
offset_of mode.Quoting = None
offset_of mode.Sizing = None
offset_of mode.Sized = None
offset_of mode.AtSign = None
offset_of mode.Ended = None
offset_of (mode.Offset o) = Some o

-- Where a type ends: at its frame offset, or where both end.
abbrev pub type_end : Option ℕ → ℕ → ℕ
type_end offset end = unwrap_or offset end

-- The words of a type that starts at `from`; its frame offset starts at `offset`, 0 if it has none, and both end at `end`.
abbrev pub row : ℕ → Option ℕ → ℕ → List ℕ
row from offset end = from ∷ (type_end offset end - from) ∷ unwrap_or offset 0 ∷ (end - type_end offset end) ∷ []

-- What writing a row asks.
pub record Ordered (from : ℕ) (offset : Option ℕ) (end : ℕ) : Type 0 where
  pub from_type_end : from ≤ type_end offset end
  pub type_end_end : type_end offset end ≤ end

-- Row k is put into a buffer, if it fits.
pub record RowPut (k from : ℕ) (offset : Option ℕ) (end : ℕ) (buffer left : List ℕ) : Type 0 where
  pub holds : 4 * k + 4 ≤ length buffer → left ≡ sets buffer (4 * k) (row from offset end)
  pub same : length left ≡ length buffer

-- The text is read: how many types there are, and a buffer that they fit holds their words.
pub record Read (text buffer : List ℕ) (o : Outcome ℕ) (left : List ℕ) : Type 0 where
  pub counts : o ≡ and_then (parse 32 text) (λ ts. value (count ts))
  pub holds : (ts : Types) → parse 32 text ≡ value ts → 4 * count ts ≤ length buffer → left ≡ filled ts buffer
  pub same : length left ≡ length buffer
