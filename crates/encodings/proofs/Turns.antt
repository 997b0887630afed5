-- A step keeps the types before this one, or adds this one to them; and the words of a reading, type by type.
use Prim.Native.Nat.{ℕ, ◌+◌, ◌*◌, ◌≤◌, ◌<◌}
use mathlib.Core.Path.{◌≡◌, refl, ap, sym, subst, ◌∙◌}
use mathlib.Core.Logic.{◌⊎◌, inl, inr}
use mathlib.Core.List.{List, [], ◌∷◌, ◌++◌}
use native.Mathlib.Omega.{arith}
use lib.ListN.{length, drop, length-append, length-drop}
use lib.Seq.{sets, sets-eq, take_at, drop-append-add, drop-drop}
use Rattle.reads.specs.Outcome.{Outcome, value, absent, refused}
use Rattle.reads.proofs.Tests.{by_choose}
use Rattle.encodings.specs.Grammar.{Encoding, object, bit_field, qualified, pointer, nothing, ◌then◌, Types, none, plain, framed, spell, spell_types, count, size, words_of, filled}
use Rattle.encodings.specs.Machine.{Open, qualifying, pointing, in_array, in_composite, wanted, counting, counted, naming, named, quoting, sizing, sized, at_sign, ended, offset, State, at, outside, begin, after, step, outermost, finish}
use Rattle.std.specs.Prelude.{Option, None, Some}
use Rattle.encodings.specs.Parser.{row, Ordered}
use Rattle.encodings.specs.declared.bytes.Class.{Class}
use Rattle.encodings.specs.declared.bytes.Class.TheVariants.{Basic, Qualifier, Object, BitField, Pointer, Array, Structure, Union, Other}
use Rattle.encodings.proofs.Lengths.{length_spell, length_types, spell_some}
use Rattle.encodings.proofs.Shows.{offset_in}
use Rattle.encodings.proofs.States.{spell_open, spell_doing, spell_state, Good}

-- ---- The words of one type

four : {a b c d b' d' : ℕ} → b ≡ b' → d ≡ d' → ◌≡◌ {A = List ℕ} (a ∷ b ∷ c ∷ d ∷ []) (a ∷ b' ∷ c ∷ d' ∷ [])
four p q = cc

-- us has one type more than ts, whose words are these, and so it is longer.
abbrev pub Adds : Types → Option ℕ → ℕ → Types → Type 0
Adds ts o i us = (count us ≡ count ts + 1) × (words_of us ≡ words_of ts ++ row (size ts) o i) × (size ts < size us)

plain_adds : (ts : Types) (e : Encoding) (i : ℕ) → size (plain ts e) ≡ i → Adds ts None i (plain ts e)
plain_adds ts e i h = (
  refl,
  ap (λ (r : List ℕ). words_of ts ++ r) (four (omega (arith, length_types ts (spell e []))) (omega arith)),
  omega (arith, length_types ts (spell e []), spell_some e),
)

framed_adds : (ts : Types) (e : Encoding) (d : ℕ) (ds : List ℕ) (i : ℕ) → size (framed ts e d ds) ≡ i
    → Adds ts (Some (size (plain ts e))) i (framed ts e d ds)
framed_adds ts e d ds i h = (
  refl,
  ap (λ (r : List ℕ). words_of ts ++ r)
      (four (omega (arith, length_types ts (spell e [])))
      (omega (arith, length_types ts (spell e []), length_types ts (spell e (d ∷ ds ++ [])), length_spell e (d ∷ ds ++ []), length-append ds []))),
  omega (arith, length_types ts (spell e (d ∷ ds ++ [])), length_spell e (d ∷ ds ++ []), spell_some e),
)

length_words : (ts : Types) → length (words_of ts) ≡ 4 * count ts
length_words none = refl
length_words (plain ts e) = omega (arith, length-append (words_of ts) (size ts ∷ length (spell e []) ∷ 0 ∷ 0 ∷ []), length_words ts)
length_words (framed ts e d ds) =
    omega (arith, length-append (words_of ts) (size ts ∷ length (spell e []) ∷ size (plain ts e) ∷ length (d ∷ ds) ∷ []), length_words ts)

pub length_filled : (ts : Types) (w : List ℕ) → 4 * count ts ≤ length w → length (filled ts w) ≡ length w
length_filled ts w h = omega (arith, length-append (words_of ts) (drop (4 * count ts) w), length_words ts, length-drop (4 * count ts) w)

pub row_filled : (ts us : Types) (o : Option ℕ) (i : ℕ) (w : List ℕ) → Adds ts o i us → 4 * count us ≤ length w
    → sets (filled ts w) (4 * count ts) (row (size ts) o i) ≡ filled us w
row_filled ts us o i w a h =
    sets-eq r l n (omega (arith, length_filled ts w (omega (arith, a.0)), a.0))
    ∙ ap (λ (x : List ℕ). x ++ r ++ drop (n + 4) l) (take_at (words_of ts) (drop n w) n (length_words ts))
    ∙ ap (λ (x : List ℕ). words_of ts ++ r ++ x) behind
    ∙ sym (ap (λ (x : List ℕ). x ++ drop (4 * count us) w) a.1)
  where
    n : ℕ
    n = 4 * count ts

    r : List ℕ
    r = row (size ts) o i

    l : List ℕ
    l = filled ts w

    more : 4 * count ts + 4 ≡ 4 * count us
    more = omega (arith, a.0)

    behind : drop (n + 4) l ≡ drop (4 * count us) w
    behind =
        ap (λ (k : ℕ). drop (k + 4) l) (sym (length_words ts)) ∙ drop-append-add (words_of ts) (drop n w) 4 ∙ drop-drop 4 n w
        ∙ ap (λ (k : ℕ). drop k w) more

-- ---- A step keeps the types before this one, or adds this one to them

abbrev pub types_at : State → Types
types_at (at ts m os) = ts

abbrev pub offset_at : State → Option ℕ
offset_at (at ts m os) = offset_in ts m

abbrev Same : Types → Outcome State → Type 0
Same ts (value x) = types_at x ≡ ts
Same ts (absent r) = Unit {0}
Same ts (refused k) = Unit {0}

abbrev pub Turns : Types → Option ℕ → ℕ → Outcome State → Type 0
Turns ts o i (value x) = (types_at x ≡ ts) ⊎ Adds ts o i (types_at x)
Turns ts o i (absent r) = Unit {0}
Turns ts o i (refused k) = Unit {0}

begin_same : (ts : Types) (os : List Open) (b : ℕ) (c : Class) → Same ts (begin 32 ts os b c)
begin_same ts os b Basic = refl
begin_same ts os b Qualifier = refl
begin_same ts os b Object = refl
begin_same ts os b BitField = refl
begin_same ts os b Pointer = by_choose (Same ts) (λ h. refl) (λ h. tt)
begin_same ts os b Array = by_choose (Same ts) (λ h. refl) (λ h. tt)
begin_same ts os b Structure = by_choose (Same ts) (λ h. refl) (λ h. tt)
begin_same ts os b Union = by_choose (Same ts) (λ h. refl) (λ h. tt)
begin_same ts os b Other = tt

new_turns : (ts us : Types) (o : Option ℕ) (i : ℕ) → Adds ts o i us → (x : Outcome State) → Same us x → Turns ts o i x
new_turns ts us o i a (value x) s = inr (subst (λ (y : Types). Adds ts o i y) (sym s) a)
new_turns ts us o i a (absent r) s = tt
new_turns ts us o i a (refused k) s = tt

begin_turns : (ts : Types) (o : Option ℕ) (i : ℕ) (os : List Open) (b : ℕ) (c : Class) → Turns ts o i (begin 32 ts os b c)
begin_turns ts o i os b c = go (begin 32 ts os b c) (begin_same ts os b c)
  where
    go : (x : Outcome State) → Same ts x → Turns ts o i x
    go (value x) s = inl s
    go (absent r) s = tt
    go (refused k) s = tt

after_turns : (ts : Types) (os : List Open) (e : Encoding) (b : ℕ) (c : Class) (i : ℕ) → length (spell_types ts (spell_open os (spell e []))) ≡ i
    → Turns ts None i (after 32 ts os e b c)
after_turns ts [] e b c i h =
    by_choose (Turns ts None i) (λ q. inl refl)
    (λ q. new_turns ts (plain ts e) None i (plain_adds ts e i h) (begin 32 (plain ts e) [] b c) (begin_same (plain ts e) [] b c))
after_turns ts (qualifying q ∷ os) e b c i h = after_turns ts os (qualified q e) b c i h
after_turns ts (pointing ∷ os) e b c i h = after_turns ts os (pointer e) b c i h
after_turns ts (in_array d ds ∷ os) e b c i h = by_choose (Turns ts None i) (λ q. inl refl) (λ q. tt)
after_turns ts (in_composite k n fs ∷ os) e b c i h =
    by_choose (Turns ts None i) (λ q. inl refl) (λ q. begin_turns ts None i (in_composite k n (fs then e) ∷ os) b c)

offset_size : (ts : Types) (e : Encoding) (d : ℕ) (ds : List ℕ) (os : List Open) (i : ℕ) → os ≡ []
    → length (spell_state (at ts (offset e d ds) os) []) ≡ i → size (framed ts e d ds) ≡ i
offset_size ts e d ds os i n h = ap (λ (l : List Open). length (spell_state (at ts (offset e d ds) l) [])) (sym n) ∙ h

pub step_turns : (x : State) → Good 32 x → (b : ℕ) (c : Class) (i : ℕ) → length (spell_state x []) ≡ i
    → Turns (types_at x) (offset_at x) i (step 32 x b c)
step_turns (at ts wanted os) g b c i h = begin_turns ts None i os b c
step_turns (at ts counting os) g b c i h = by_choose (Turns ts None i) (λ q. inl refl) (λ q. tt)
step_turns (at ts (counted d ds) os) g b c i h = by_choose (Turns ts None i) (λ q. inl refl) (λ q. begin_turns ts None i (in_array d ds ∷ os) b c)
step_turns (at ts (naming k n) os) g b c i h =
    by_choose (Turns ts None i) (λ q. inl refl) (λ q. by_choose (Turns ts None i) (λ q. inl refl) (λ q. by_choose (Turns ts None i) (λ q. inl refl) (λ q. tt)))
step_turns (at ts (named k n) os) g b c i h = by_choose (Turns ts None i) (λ q. inl refl) (λ q. begin_turns ts None i (in_composite k n nothing ∷ os) b c)
step_turns (at ts (quoting n) os) g b c i h = by_choose (Turns ts None i) (λ q. inl refl) (λ q. inl refl)
step_turns (at ts sizing os) g b c i h = by_choose (Turns ts None i) (λ q. inl refl) (λ q. tt)
step_turns (at ts (sized d ds) os) g b c i h = by_choose (Turns ts None i) (λ q. inl refl) (λ q. after_turns ts os (bit_field d ds) b c i h)
step_turns (at ts at_sign os) g b c i h = by_choose (Turns ts None i) (λ q. after_turns ts os object b c i h) (λ q. inl refl)
step_turns (at ts (ended e) os) g b c i h = after_turns ts os e b c i h
step_turns (at ts (offset e d ds) os) g b c i h =
    by_choose (Turns ts (Some (size (plain ts e))) i) (λ q. inl refl)
    (λ q. new_turns ts (framed ts e d ds) (Some (size (plain ts e))) i (framed_adds ts e d ds i (offset_size ts e d ds os i g.3.4 h))
    (begin 32 (framed ts e d ds) [] b c) (begin_same (framed ts e d ds) [] b c))

-- The end of the text adds the last type.
never : (us : Types) → ◌≡◌ {A = Outcome Types} outside (value us) → ⊥
never us q = let z : ◌≡◌ {A = ℕ} 0 1 = cc in absurd (omega arith)

outermost_adds : (ts : Types) (os : List Open) (e : Encoding) (i : ℕ) (us : Types) → length (spell_types ts (spell_open os (spell e []))) ≡ i
    → outermost ts os e ≡ value us → Adds ts None i us
outermost_adds ts [] e i us h q = let z : plain ts e ≡ us = cc in subst (λ (y : Types). Adds ts None i y) z (plain_adds ts e i h)
outermost_adds ts (qualifying x ∷ os) e i us h q = outermost_adds ts os (qualified x e) i us h q
outermost_adds ts (pointing ∷ os) e i us h q = outermost_adds ts os (pointer e) i us h q
outermost_adds ts (in_array d ds ∷ os) e i us h q = absurd (never us q)
outermost_adds ts (in_composite k n fs ∷ os) e i us h q = absurd (never us q)

pub finish_adds : (x : State) → Good 32 x → (i : ℕ) (us : Types) → length (spell_state x []) ≡ i → finish x ≡ value us
    → Adds (types_at x) (offset_at x) i us
finish_adds (at ts wanted os) g i us h q = absurd (never us q)
finish_adds (at ts counting os) g i us h q = absurd (never us q)
finish_adds (at ts (counted d ds) os) g i us h q = absurd (never us q)
finish_adds (at ts (naming k n) os) g i us h q = absurd (never us q)
finish_adds (at ts (named k n) os) g i us h q = absurd (never us q)
finish_adds (at ts (quoting n) os) g i us h q = absurd (never us q)
finish_adds (at ts sizing os) g i us h q = absurd (never us q)
finish_adds (at ts (sized d ds) os) g i us h q = outermost_adds ts os (bit_field d ds) i us h q
finish_adds (at ts at_sign os) g i us h q = outermost_adds ts os object i us h q
finish_adds (at ts (ended e) os) g i us h q = outermost_adds ts os e i us h q
finish_adds (at ts (offset e d ds) os) g i us h q =
    let z : framed ts e d ds ≡ us = cc in
    subst (λ (y : Types). Adds ts (Some (size (plain ts e))) i y) z (framed_adds ts e d ds i (offset_size ts e d ds os i g.3.4 h))

-- ---- Where this type starts, ends and has its frame offset

pub start_before : (x : State) (i : ℕ) → length (spell_state x []) ≡ i → size (types_at x) ≤ i
start_before (at ts m os) i h = omega (arith, length_types ts (spell_open os (spell_doing m [])))

plain_ordered : (from i : ℕ) → from ≤ i → Ordered from None i
plain_ordered from i h = record { from_type_end = h; type_end_end = omega arith }

pub ordered : (x : State) → Good 32 x → (i : ℕ) → length (spell_state x []) ≡ i → Ordered (size (types_at x)) (offset_at x) i
ordered (at ts wanted os) g i h = plain_ordered _ i (start_before (at ts wanted os) i h)
ordered (at ts counting os) g i h = plain_ordered _ i (start_before (at ts counting os) i h)
ordered (at ts (counted d ds) os) g i h = plain_ordered _ i (start_before (at ts (counted d ds) os) i h)
ordered (at ts (naming k n) os) g i h = plain_ordered _ i (start_before (at ts (naming k n) os) i h)
ordered (at ts (named k n) os) g i h = plain_ordered _ i (start_before (at ts (named k n) os) i h)
ordered (at ts (quoting n) os) g i h = plain_ordered _ i (start_before (at ts (quoting n) os) i h)
ordered (at ts sizing os) g i h = plain_ordered _ i (start_before (at ts sizing os) i h)
ordered (at ts (sized d ds) os) g i h = plain_ordered _ i (start_before (at ts (sized d ds) os) i h)
ordered (at ts at_sign os) g i h = plain_ordered _ i (start_before (at ts at_sign os) i h)
ordered (at ts (ended e) os) g i h = plain_ordered _ i (start_before (at ts (ended e) os) i h)
ordered (at ts (offset e d ds) os) g i h =
    let a = length_types ts (spell e []) in
    let b = length_types ts (spell e (d ∷ ds ++ [])) in
    let c = length_spell e (d ∷ ds ++ []) in
    let s = offset_size ts e d ds os i g.3.4 h in
    record { from_type_end = omega arith; type_end_end = omega arith }
