-- Each reading within the limit is what the machine reads; so no text has two.
use Prim.Native.Nat.{ℕ, suc, ◌+◌, ◌≤◌, ◌<◌}
use Prim.Native.Char.{code}
use mathlib.Core.Path.{◌≡◌, refl, ap, sym, ◌∙◌}
use mathlib.Core.Bool.{Bool, true, false, true≢false}
use mathlib.Core.List.{List, [], ◌∷◌, ◌++◌, append-nil}
use native.Mathlib.Omega.{arith}
use borrow.Author.Tests.{lt-ltb, eq-eqb}
use lib.Dec.{eqb}
use Rattle.reads.specs.Outcome.{Outcome, value, and_then, choose}
use Rattle.reads.proofs.Tests.{choose_true, choose_false}
use Rattle.encodings.specs.Grammar.{Composite, structure, union, opener, closer, Encoding, basic, object, instance, bit_field, qualified, pointer, array, opaque, defined, Fields, nothing, ◌then◌, Types, none, plain, framed, spell, spell_fields, spell_types, among, digit_byte, name_byte, quoted_byte, Each, Allowed, AllowedFields, AllowedTypes, ends_in_bits, nesting, nesting_fields, nesting_types, count, Reading}
use Rattle.encodings.specs.Machine.{class_of, Open, qualifying, pointing, in_array, in_composite, Doing, wanted, counting, counted, naming, named, quoting, sizing, sized, at_sign, ended, offset, State, at, depth, within, begin, after, step, outermost, finish, run, parse}
use Rattle.encodings.specs.declared.bytes.Class.{Class}
use Rattle.encodings.specs.declared.bytes.Class.TheVariants.{Object, BitField, Pointer, Array, Structure, Union}
use Rattle.encodings.proofs.ByteLaws.{class_basic, class_qualifier, start_byte, start_digit, start_quoted, start_closer, basic_starts, qualifier_starts, opener_starts, digit_quoted}
use Rattle.encodings.proofs.Sound.{snoc}

-- ---- Single bytes

class_at : class_of (code "@") ≡ Object
unfolding class_of among choose
class_at = refl

class_b : class_of (code "b") ≡ BitField
unfolding class_of among choose
class_b = refl

class_caret : class_of (code "^") ≡ Pointer
unfolding class_of among choose
class_caret = refl

class_bracket : class_of (code "[") ≡ Array
unfolding class_of among choose
class_bracket = refl

abbrev opener_class : Composite → Class
opener_class structure = Structure
opener_class union = Union

class_opener : (k : Composite) → class_of (opener k) ≡ opener_class k
unfolding class_of among choose
class_opener structure = refl
class_opener union = refl

-- A byte that closes an array, a structure or a union is no digit, stands in no name, and ends no quotes.
pub record Closing (b : ℕ) : Type 0 where
  pub digit : digit_byte b ≡ false
  pub name : name_byte b ≡ false
  pub quoted : quoted_byte b ≡ true

pub closing_bracket : Closing (code "]")
unfolding digit_byte name_byte quoted_byte among
closing_bracket = record { digit = refl; name = refl; quoted = refl }

pub closing : (k : Composite) → Closing (closer k)
unfolding digit_byte name_byte quoted_byte among
closing structure = record { digit = refl; name = refl; quoted = refl }
closing union = record { digit = refl; name = refl; quoted = refl }

pub no_quoted : quoted_byte (code "\"") ≡ false
unfolding quoted_byte
no_quoted = refl

equals_no_name : name_byte (code "=") ≡ false
unfolding name_byte among
equals_no_name = refl

closer_no_equals : (k : Composite) → eqb (closer k) (code "=") ≡ false
closer_no_equals structure = refl
closer_no_equals union = refl

-- A closing bracket ends a name; the structure or union stands alone.
pub close_name : (l : ℕ) (ts : Types) (k : Composite) (n : List ℕ) (os : List Open)
    → step l (at ts (naming k n) os) (closer k) (class_of (closer k)) ≡ value (at ts (ended (opaque k n)) os)
close_name l ts k n os =
    choose_false _ _ (closing k).name ∙ choose_false _ _ (closer_no_equals k) ∙ choose_true _ _ (eq-eqb (closer k) (closer k) refl)

-- The first byte of a type.
record First (e : Encoding) (s : List ℕ) : Type 0 where
  byte : ℕ
  rest : List ℕ
  is : spell e s ≡ byte ∷ rest
  starts : start_byte byte ≡ true

type_first : (e : Encoding) → Allowed e → (s : List ℕ) → First e s
unfolding start_byte digit_byte quoted_byte among
type_first (basic b) a s = record { byte = b; rest = s; is = refl; starts = basic_starts b a }
type_first object a s = record { byte = code "@"; rest = s; is = refl; starts = refl }
type_first (instance n) a s = record { byte = code "@"; rest = code "\"" ∷ n ++ code "\"" ∷ s; is = refl; starts = refl }
type_first (bit_field d ds) a s = record { byte = code "b"; rest = d ∷ ds ++ s; is = refl; starts = refl }
type_first (qualified q e) a s = record { byte = q; rest = spell e s; is = refl; starts = qualifier_starts q a.0 }
type_first (pointer e) a s = record { byte = code "^"; rest = spell e s; is = refl; starts = refl }
type_first (array d ds e) a s = record { byte = code "["; rest = d ∷ ds ++ spell e (code "]" ∷ s); is = refl; starts = refl }
type_first (opaque k n) a s = record { byte = opener k; rest = n ++ closer k ∷ s; is = refl; starts = opener_starts k }
type_first (defined k n fs) a s =
    record { byte = opener k; rest = n ++ code "=" ∷ spell_fields fs (closer k ∷ s); is = refl; starts = opener_starts k }

-- ---- Steps

module _ (l : ℕ) where
  pub moves : (b : ℕ) (s : List ℕ) (x y : State) → step l x b (class_of b) ≡ value y → run l (b ∷ s) x ≡ run l s y
  unfolding run
  moves b s x y e = ap (λ (o : Outcome State). and_then o (λ z. run l s z)) e

  -- Bytes that only make longer what is being read.
  longer : (p : ℕ → Bool) (m : List ℕ → State) → ((n : List ℕ) (b : ℕ) → p b ≡ true → step l (m n) b (class_of b) ≡ value (m (n ++ b ∷ [])))
      → (n : List ℕ) → Each p n → (r s : List ℕ) → run l (n ++ s) (m r) ≡ run l s (m (r ++ n))
  longer p m f [] a r s = simp append-nil
  longer p m f (b ∷ n) a r s =
      moves b (n ++ s) (m r) (m (r ++ b ∷ [])) (f r b a.0) ∙ longer p m f n a.1 (r ++ b ∷ []) s
      ∙ ap (λ (t : List ℕ). run l s (m t)) (snoc r b n)

  fits : (os : List Open) (x : State) → depth os < l → within l os x ≡ value x
  fits os x h = choose_true _ _ (lt-ltb _ _ h)

  -- Where two states begin a type alike, a type is read alike.
  alike : (e : Encoding) → Allowed e → (s : List ℕ) (x y : State)
      → ((b : ℕ) → start_byte b ≡ true → step l x b (class_of b) ≡ step l y b (class_of b)) → run l (spell e s) x ≡ run l (spell e s) y
  unfolding run
  alike e a s x y f =
      let b = type_first e a s in
      ap (λ (t : List ℕ). run l t x) b.is ∙ ap (λ (o : Outcome State). and_then o (λ z. run l b.rest z)) (f b.byte b.starts)
      ∙ ap (λ (t : List ℕ). run l t y) (sym b.is)

-- ---- Where a type ends: what was read last, and what waits for a type

abbrev doing_at : Encoding → Doing
doing_at (basic b) = ended (basic b)
doing_at object = at_sign
doing_at (instance n) = ended (instance n)
doing_at (bit_field d ds) = sized d ds
doing_at (qualified q e) = doing_at e
doing_at (pointer e) = doing_at e
doing_at (array d ds e) = ended (array d ds e)
doing_at (opaque k n) = ended (opaque k n)
doing_at (defined k n fs) = ended (defined k n fs)

abbrev open_at : Encoding → List Open → List Open
open_at (basic b) os = os
open_at object os = os
open_at (instance n) os = os
open_at (bit_field d ds) os = os
open_at (qualified q e) os = open_at e (qualifying q ∷ os)
open_at (pointer e) os = open_at e (pointing ∷ os)
open_at (array d ds e) os = os
open_at (opaque k n) os = os
open_at (defined k n fs) os = os

-- Unless the byte goes on with digits or quotes, it comes after the type.
after_end : (l : ℕ) (e : Encoding) (ts : Types) (os : List Open) (b : ℕ) (c : Class) → (ends_in_bits e ≡ true → digit_byte b ≡ false) → quoted_byte b ≡ true
    → step l (at ts (doing_at e) (open_at e os)) b c ≡ after l ts os e b c
after_end l (basic x) ts os b c d q = refl
after_end l object ts os b c d q = choose_true _ _ q
after_end l (instance n) ts os b c d q = refl
after_end l (bit_field x ds) ts os b c d q = choose_false _ _ (d refl)
after_end l (qualified x e) ts os b c d q = after_end l e ts (qualifying x ∷ os) b c d q
after_end l (pointer e) ts os b c d q = after_end l e ts (pointing ∷ os) b c d q
after_end l (array x ds e) ts os b c d q = refl
after_end l (opaque k n) ts os b c d q = refl
after_end l (defined k n fs) ts os b c d q = refl

finish_end : (e : Encoding) (ts : Types) (os : List Open) → finish (at ts (doing_at e) (open_at e os)) ≡ outermost ts os e
finish_end (basic x) ts os = refl
finish_end object ts os = refl
finish_end (instance n) ts os = refl
finish_end (bit_field x ds) ts os = refl
finish_end (qualified x e) ts os = finish_end e ts (qualifying x ∷ os)
finish_end (pointer e) ts os = finish_end e ts (pointing ∷ os)
finish_end (array x ds e) ts os = refl
finish_end (opaque k n) ts os = refl
finish_end (defined k n fs) ts os = refl

-- Within a structure or union whose fields so far are fs.
abbrev field_state : Types → Composite → List ℕ → Fields → List Open → State
field_state ts k n nothing os = at ts (named k n) os
field_state ts k n (fs then e) os = at ts (doing_at e) (open_at e (in_composite k n fs ∷ os))

module _ (l : ℕ) (ts : Types) where
  next_field : (k : Composite) (n : List ℕ) (fs : Fields) (os : List Open) (b : ℕ) → start_byte b ≡ true
      → step l (field_state ts k n fs os) b (class_of b) ≡ step l (at ts wanted (in_composite k n fs ∷ os)) b (class_of b)
  next_field k n nothing os b h = choose_false _ _ (start_closer b h k)
  next_field k n (fs then e) os b h =
      after_end l e ts (in_composite k n fs ∷ os) b (class_of b) (λ z. start_digit b h) (start_quoted b h)
      ∙ choose_false _ _ (start_closer b h k)

  close_fields : (k : Composite) (n : List ℕ) (fs : Fields) (os : List Open)
      → step l (field_state ts k n fs os) (closer k) (class_of (closer k)) ≡ value (at ts (ended (defined k n fs)) os)
  close_fields k n nothing os = choose_true _ _ (eq-eqb (closer k) (closer k) refl)
  close_fields k n (fs then e) os =
      after_end l e ts (in_composite k n fs ∷ os) (closer k) (class_of (closer k)) (λ z. (closing k).digit) (closing k).quoted
      ∙ choose_true _ _ (eq-eqb (closer k) (closer k) refl)

  close_array : (d : ℕ) (ds : List ℕ) (e : Encoding) (os : List Open)
      → step l (at ts (doing_at e) (open_at e (in_array d ds ∷ os))) (code "]") (class_of (code "]")) ≡ value (at ts (ended (array d ds e)) os)
  close_array d ds e os =
      after_end l e ts (in_array d ds ∷ os) (code "]") (class_of (code "]")) (λ z. closing_bracket.digit) closing_bracket.quoted
      ∙ choose_true _ _ refl

  -- ---- Widths, counts, names and quoted classes

  width_reads : (d : ℕ) (ds : List ℕ) → Each digit_byte (d ∷ ds) → (os : List Open) (s : List ℕ)
      → run l (code "b" ∷ d ∷ ds ++ s) (at ts wanted os) ≡ run l s (at ts (sized d ds) os)
  width_reads d ds a os s =
      moves l (code "b") (d ∷ ds ++ s) (at ts wanted os) (at ts sizing os) (rw class_b)
      ∙ moves l d (ds ++ s) (at ts sizing os) (at ts (sized d []) os) (choose_true _ _ a.0)
      ∙ longer l digit_byte (λ n. at ts (sized d n) os) (λ n b h. choose_true _ _ h) ds a.1 [] s

  count_reads : (d : ℕ) (ds : List ℕ) → Each digit_byte (d ∷ ds) → (os : List Open) (s : List ℕ) → depth os < l
      → run l (code "[" ∷ d ∷ ds ++ s) (at ts wanted os) ≡ run l s (at ts (counted d ds) os)
  count_reads d ds a os s h =
      moves l (code "[") (d ∷ ds ++ s) (at ts wanted os) (at ts counting os) (rw class_bracket (fits l os (at ts counting os) h))
      ∙ moves l d (ds ++ s) (at ts counting os) (at ts (counted d []) os) (choose_true _ _ a.0)
      ∙ longer l digit_byte (λ n. at ts (counted d n) os) (λ n b h. choose_true _ _ h) ds a.1 [] s

  opens : (k : Composite) (os : List Open) → begin l ts os (opener k) (opener_class k) ≡ within l os (at ts (naming k []) os)
  opens structure os = refl
  opens union os = refl

  name_reads : (k : Composite) (n : List ℕ) → Each name_byte n → (os : List Open) (s : List ℕ) → depth os < l
      → run l (opener k ∷ n ++ s) (at ts wanted os) ≡ run l s (at ts (naming k n) os)
  name_reads k n a os s h =
      moves l (opener k) (n ++ s) (at ts wanted os) (at ts (naming k []) os)
      (rw (class_opener k) (opens k os ∙ fits l os (at ts (naming k []) os) h))
      ∙ longer l name_byte (λ n. at ts (naming k n) os) (λ n b h. choose_true _ _ h) n a [] s

  end_name : (k : Composite) (n : List ℕ) (os : List Open)
      → step l (at ts (naming k n) os) (code "=") (class_of (code "=")) ≡ value (at ts (named k n) os)
  end_name k n os = choose_false _ _ equals_no_name ∙ choose_true _ _ refl

  quoted_reads : (n : List ℕ) → Each quoted_byte n → (os : List Open) (s : List ℕ)
      → run l (code "@" ∷ code "\"" ∷ n ++ code "\"" ∷ s) (at ts wanted os) ≡ run l s (at ts (ended (instance n)) os)
  quoted_reads n a os s =
      moves l (code "@") (code "\"" ∷ n ++ code "\"" ∷ s) (at ts wanted os) (at ts at_sign os) (rw class_at)
      ∙ moves l (code "\"") (n ++ code "\"" ∷ s) (at ts at_sign os) (at ts (quoting []) os) (choose_false _ _ no_quoted)
      ∙ longer l quoted_byte (λ n. at ts (quoting n) os) (λ n b h. choose_true _ _ h) n a [] (code "\"" ∷ s)
      ∙ moves l (code "\"") s (at ts (quoting n) os) (at ts (ended (instance n)) os) (choose_false _ _ no_quoted)

  -- ---- A type, and the fields of a structure or union

  mutual
    type_reads : (e : Encoding) → Allowed e → (os : List Open) (s : List ℕ) → nesting e + depth os ≤ l
        → run l (spell e s) (at ts wanted os) ≡ run l s (at ts (doing_at e) (open_at e os))
    type_reads (basic b) a os s h = moves l b s (at ts wanted os) (at ts (ended (basic b)) os) (rw (class_basic b a))
    type_reads object a os s h = moves l (code "@") s (at ts wanted os) (at ts at_sign os) (rw class_at)
    type_reads (instance n) a os s h = quoted_reads n a os s
    type_reads (bit_field d ds) a os s h = width_reads d ds a os s
    type_reads (qualified q e) a os s h =
        moves l q (spell e s) (at ts wanted os) (at ts wanted (qualifying q ∷ os)) (rw (class_qualifier q a.0))
        ∙ type_reads e a.1 (qualifying q ∷ os) s h
    type_reads (pointer e) a os s h =
        moves l (code "^") (spell e s) (at ts wanted os) (at ts wanted (pointing ∷ os)) (rw class_caret (fits l os _ (omega arith)))
        ∙ type_reads e a (pointing ∷ os) s (omega arith)
    type_reads (array d ds e) a os s h =
        count_reads d ds a.0 os (spell e (code "]" ∷ s)) (omega arith)
        ∙ alike l e a.1 (code "]" ∷ s) (at ts (counted d ds) os) (at ts wanted (in_array d ds ∷ os)) (λ b g. choose_false _ _ (start_digit b g))
        ∙ type_reads e a.1 (in_array d ds ∷ os) (code "]" ∷ s) (omega arith)
        ∙ moves l (code "]") s _ (at ts (ended (array d ds e)) os) (close_array d ds e os)
    type_reads (opaque k n) a os s h =
        name_reads k n a os (closer k ∷ s) (omega arith)
        ∙ moves l (closer k) s (at ts (naming k n) os) (at ts (ended (opaque k n)) os) (close_name l ts k n os)
    type_reads (defined k n fs) a os s h =
        name_reads k n a.0 os (code "=" ∷ spell_fields fs (closer k ∷ s)) (omega arith)
        ∙ moves l (code "=") (spell_fields fs (closer k ∷ s)) (at ts (naming k n) os) (at ts (named k n) os) (end_name k n os)
        ∙ fields_read fs a.1 k n os (closer k ∷ s) (omega arith)
        ∙ moves l (closer k) s (field_state ts k n fs os) (at ts (ended (defined k n fs)) os) (close_fields k n fs os)

    fields_read : (fs : Fields) → AllowedFields fs → (k : Composite) (n : List ℕ) (os : List Open) (s : List ℕ)
        → nesting_fields fs + suc (depth os) ≤ l → run l (spell_fields fs s) (at ts (named k n) os) ≡ run l s (field_state ts k n fs os)
    fields_read nothing a k n os s h = refl
    fields_read (fs then e) a k n os s h =
        fields_read fs a.0 k n os (spell e s) (omega arith)
        ∙ alike l e a.1 s (field_state ts k n fs os) (at ts wanted (in_composite k n fs ∷ os)) (λ b g. next_field k n fs os b g)
        ∙ type_reads e a.1 (in_composite k n fs ∷ os) s (omega arith)

-- ---- The whole text

abbrev types_state : Types → State
types_state none = at none wanted []
types_state (plain ts e) = at ts (doing_at e) (open_at e [])
types_state (framed ts e d ds) = at ts (offset e d ds) []

module _ (l : ℕ) where
  next_type : (ts : Types) (b : ℕ) → start_byte b ≡ true → step l (types_state ts) b (class_of b) ≡ step l (at ts wanted []) b (class_of b)
  next_type none b h = refl
  next_type (plain ts e) b h =
      after_end l e ts [] b (class_of b) (λ z. start_digit b h) (start_quoted b h) ∙ choose_false _ _ (start_digit b h)
  next_type (framed ts e d ds) b h = choose_false _ _ (start_digit b h)

  offset_reads : (ts : Types) (e : Encoding) → ends_in_bits e ≡ false → (d : ℕ) (ds : List ℕ) → Each digit_byte (d ∷ ds) → (s : List ℕ)
      → run l (d ∷ ds ++ s) (at ts (doing_at e) (open_at e [])) ≡ run l s (at ts (offset e d ds) [])
  offset_reads ts e n d ds a s =
      moves l d (ds ++ s) (at ts (doing_at e) (open_at e [])) (at ts (offset e d []) [])
      (after_end l e ts [] d (class_of d) (λ z. absurd (true≢false (sym z ∙ n))) (digit_quoted d a.0) ∙ choose_true _ _ a.0)
      ∙ longer l digit_byte (λ m. at ts (offset e d m) []) (λ m b h. choose_true _ _ h) ds a.1 [] s

  types_read : (ts : Types) → AllowedTypes ts → nesting_types ts ≤ l → (s : List ℕ)
      → run l (spell_types ts s) (at none wanted []) ≡ run l s (types_state ts)
  types_read none a h s = refl
  types_read (plain ts e) a h s =
      types_read ts a.0 (omega arith) (spell e s)
      ∙ alike l e a.1 s (types_state ts) (at ts wanted []) (λ b z. next_type ts b z)
      ∙ type_reads l ts e a.1 [] s (omega arith)
  types_read (framed ts e d ds) a h s =
      types_read ts a.0 (omega arith) (spell e (d ∷ ds ++ s))
      ∙ alike l e a.1 (d ∷ ds ++ s) (types_state ts) (at ts wanted []) (λ b z. next_type ts b z)
      ∙ type_reads l ts e a.1 [] (d ∷ ds ++ s) (omega arith)
      ∙ offset_reads ts e a.2 d ds a.3 s

  finish_types : (ts : Types) → 0 < count ts → finish (types_state ts) ≡ value ts
  finish_types none h = absurd (omega arith)
  finish_types (plain ts e) h = finish_end e ts []
  finish_types (framed ts e d ds) h = refl

  -- A reading within the limit is what the machine reads.
  pub complete : (text : List ℕ) (ts : Types) → Reading text ts → nesting_types ts ≤ l → parse l text ≡ value ts
  unfolding run
  complete text ts r h =
      ap (λ (t : List ℕ). parse l t) (sym r.spelled) ∙ types_read ts r.allowed h [] ∙ finish_types ts r.some_type

-- No text has two readings.
pub unique : (text : List ℕ) (ts us : Types) → Reading text ts → Reading text us → ts ≡ us
unique text ts us r q =
    let l = nesting_types ts + nesting_types us in
    let p : parse l text ≡ value ts = complete l text ts r (omega arith) in
    let p' : parse l text ≡ value us = complete l text us q (omega arith) in
    cc
