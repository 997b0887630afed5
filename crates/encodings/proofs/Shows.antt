-- The code's parser keeps of each state of the machine what it needs for the next.
use Prim.Native.Nat.{ℕ}
use Prim.Native.Char.{code}
use mathlib.Core.Path.{◌≡◌, refl, ap, sym, ◌∙◌}
use mathlib.Core.Bool.{false}
use mathlib.Core.List.{List, [], ◌∷◌}
use lib.Dec.{eqb}
use lib.ListN.{length}
use Rattle.reads.specs.Outcome.{Outcome, value, and_then}
use Rattle.reads.proofs.Tests.{choose_true, choose_false}
use Rattle.encodings.specs.Grammar.{Composite, structure, union, closer, Encoding, object, bit_field, qualified, pointer, nothing, ◌then◌, Types, plain, framed, spell, spell_types, count, size}
use Rattle.encodings.specs.Machine.{class_of, Open, qualifying, pointing, in_array, in_composite, Doing, wanted, counting, counted, naming, named, quoting, sizing, sized, at_sign, ended, offset, State, at, levels, begin, after, step, outermost, finish}
use Rattle.std.specs.Prelude.{Option, None, Some}
use Rattle.encodings.specs.Parser.{Kept, kept, offset_of, begun, below_pointers, followed, step_in, end_of, finish_in}
use Rattle.encodings.specs.declared.bytes.Class.{Class}
use Rattle.encodings.specs.declared.bytes.Class.TheVariants.{Basic, Qualifier, Object, BitField, Pointer, Array, Structure, Union, Other}
use Rattle.encodings.specs.declared.kept.Mode.{Mode}
use Rattle.encodings.specs.declared.kept.Mode.TheVariants as mode
use Rattle.encodings.proofs.Choices.{by_both}
use Rattle.encodings.proofs.States.{spell_open, spell_state, Good}

abbrev mode_of : Types → Doing → Mode
mode_of ts wanted = mode.Wanted
mode_of ts counting = mode.Counting
mode_of ts (counted d ds) = mode.Counted
mode_of ts (naming k n) = mode.Naming
mode_of ts (named k n) = mode.Named
mode_of ts (quoting n) = mode.Quoting
mode_of ts sizing = mode.Sizing
mode_of ts (sized d ds) = mode.Sized
mode_of ts at_sign = mode.AtSign
mode_of ts (ended e) = mode.Ended
mode_of ts (offset e d ds) = mode.Offset (size (plain ts e))

-- The level that is being opened, and those around it.
abbrev levels_at : Doing → List Open → List ℕ
levels_at wanted os = levels os
levels_at counting os = code "]" ∷ levels os
levels_at (counted d ds) os = code "]" ∷ levels os
levels_at (naming k n) os = closer k ∷ levels os
levels_at (named k n) os = closer k ∷ levels os
levels_at (quoting n) os = levels os
levels_at sizing os = levels os
levels_at (sized d ds) os = levels os
levels_at at_sign os = levels os
levels_at (ended e) os = levels os
levels_at (offset e d ds) os = levels os

-- Where the frame offset starts, if there is one.
abbrev pub offset_in : Types → Doing → Option ℕ
offset_in ts wanted = None
offset_in ts counting = None
offset_in ts (counted d ds) = None
offset_in ts (naming k n) = None
offset_in ts (named k n) = None
offset_in ts (quoting n) = None
offset_in ts sizing = None
offset_in ts (sized d ds) = None
offset_in ts at_sign = None
offset_in ts (ended e) = None
offset_in ts (offset e d ds) = Some (size (plain ts e))

pub offset_shown : (ts : Types) (m : Doing) → offset_of (mode_of ts m) ≡ offset_in ts m
offset_shown ts wanted = refl
offset_shown ts counting = refl
offset_shown ts (counted d ds) = refl
offset_shown ts (naming k n) = refl
offset_shown ts (named k n) = refl
offset_shown ts (quoting n) = refl
offset_shown ts sizing = refl
offset_shown ts (sized d ds) = refl
offset_shown ts at_sign = refl
offset_shown ts (ended e) = refl
offset_shown ts (offset e d ds) = refl

abbrev pub show : State → Kept
show (at ts m os) = kept (mode_of ts m) (levels_at m os) (size ts)

abbrev pub shown : Outcome State → Outcome Kept
shown o = and_then o (λ x. value (show x))

abbrev pub step_kept : Kept → ℕ → ℕ → Outcome Kept
step_kept (kept m ls s) b i = step_in m ls s b i

abbrev pub finish_kept : Kept → Outcome (Unit {0})
finish_kept (kept m ls s) = finish_in m ls

abbrev pub counted_types : Outcome Types → Outcome ℕ
counted_types o = and_then o (λ ts. value (count ts))

-- Whether the text ends there.
abbrev pub ended_types : Outcome Types → Outcome (Unit {0})
ended_types o = and_then o (λ ts. value tt)

abbrev Shown : Outcome State → Outcome Kept → Type 0
Shown o k = shown o ≡ k

begin_shows : (ts : Types) (os : List Open) (b : ℕ) (c : Class) → shown (begin 32 ts os b c) ≡ begun (levels os) (size ts) c
begin_shows ts os b Basic = refl
begin_shows ts os b Qualifier = refl
begin_shows ts os b Object = refl
begin_shows ts os b BitField = refl
begin_shows ts os b Pointer = by_both Shown (λ h. refl) (λ h. refl)
begin_shows ts os b Array = by_both Shown (λ h. refl) (λ h. refl)
begin_shows ts os b Structure = by_both Shown (λ h. refl) (λ h. refl)
begin_shows ts os b Union = by_both Shown (λ h. refl) (λ h. refl)
begin_shows ts os b Other = refl

-- No pointer is innermost.
composite_below : (k : Composite) (ls : List ℕ) → closer k ∷ ls ≡ below_pointers (closer k ∷ ls)
composite_below structure ls = sym (choose_false _ _ refl)
composite_below union ls = sym (choose_false _ _ refl)

array_below : (ls : List ℕ) → code "]" ∷ ls ≡ below_pointers (code "]" ∷ ls)
array_below ls = sym (choose_false _ _ refl)

pointer_below : (ls : List ℕ) → below_pointers ls ≡ below_pointers (code "^" ∷ ls)
pointer_below ls = sym (choose_true _ _ refl)

composite_no_array : (k : Composite) → eqb (code "]") (closer k) ≡ false
composite_no_array structure = refl
composite_no_array union = refl

after_shows : (ts : Types) (os : List Open) (e : Encoding) (b i : ℕ) → length (spell_types ts (spell_open os (spell e []))) ≡ i
    → shown (after 32 ts os e b (class_of b)) ≡ followed (below_pointers (levels os)) (size ts) b i
after_shows ts [] e b i h =
    by_both Shown (λ q. ap (λ (o : ℕ). value (kept (mode.Offset o) [] (size ts))) h)
    (λ q. begin_shows (plain ts e) [] b (class_of b) ∙ ap (λ (s : ℕ). begun [] s (class_of b)) h)
after_shows ts (qualifying q ∷ os) e b i h = after_shows ts os (qualified q e) b i h
after_shows ts (pointing ∷ os) e b i h =
    after_shows ts os (pointer e) b i h ∙ ap (λ (ls : List ℕ). followed ls (size ts) b i) (pointer_below (levels os))
after_shows ts (in_array d ds ∷ os) e b i h =
    by_both Shown (λ q. refl) (λ q. sym (choose_true _ _ refl))
    ∙ ap (λ (ls : List ℕ). followed ls (size ts) b i) (array_below (levels os))
after_shows ts (in_composite k n fs ∷ os) e b i h =
    by_both Shown (λ q. refl)
    (λ q. begin_shows ts (in_composite k n (fs then e) ∷ os) b (class_of b) ∙ sym (choose_false _ _ (composite_no_array k)))
    ∙ ap (λ (ls : List ℕ). followed ls (size ts) b i) (composite_below k (levels os))

-- A step of the machine is a step of the code; i bytes were read.
pub step_shows : (x : State) → Good 32 x → (b i : ℕ) → length (spell_state x []) ≡ i → shown (step 32 x b (class_of b)) ≡ step_kept (show x) b i
step_shows (at ts wanted os) g b i h = begin_shows ts os b (class_of b)
step_shows (at ts counting os) g b i h = by_both Shown (λ q. refl) (λ q. refl)
step_shows (at ts (counted d ds) os) g b i h = by_both Shown (λ q. refl) (λ q. begin_shows ts (in_array d ds ∷ os) b (class_of b))
step_shows (at ts (naming k n) os) g b i h = by_both Shown (λ q. refl) (λ q. by_both Shown (λ q. refl) (λ q. by_both Shown (λ q. refl) (λ q. refl)))
step_shows (at ts (named k n) os) g b i h = by_both Shown (λ q. refl) (λ q. begin_shows ts (in_composite k n nothing ∷ os) b (class_of b))
step_shows (at ts (quoting n) os) g b i h = by_both Shown (λ q. refl) (λ q. refl)
step_shows (at ts sizing os) g b i h = by_both Shown (λ q. refl) (λ q. refl)
step_shows (at ts (sized d ds) os) g b i h = by_both Shown (λ q. refl) (λ q. after_shows ts os (bit_field d ds) b i h)
step_shows (at ts at_sign os) g b i h = by_both Shown (λ q. after_shows ts os object b i h) (λ q. refl)
step_shows (at ts (ended e) os) g b i h = after_shows ts os e b i h
step_shows (at ts (offset e d ds) os) g b i h =
    by_both Shown (λ q. refl)
    (λ q. begin_shows (framed ts e d ds) [] b (class_of b) ∙ ap (λ (s : ℕ). begun [] s (class_of b)) (offset_end g.3.4 h))
  where
    offset_end : os ≡ [] → length (spell_state (at ts (offset e d ds) os) []) ≡ i → size (framed ts e d ds) ≡ i
    offset_end n h = ap (λ (l : List Open). length (spell_state (at ts (offset e d ds) l) [])) (sym n) ∙ h

outermost_shows : (ts : Types) (os : List Open) (e : Encoding) → ended_types (outermost ts os e) ≡ end_of (below_pointers (levels os))
outermost_shows ts [] e = refl
outermost_shows ts (qualifying q ∷ os) e = outermost_shows ts os (qualified q e)
outermost_shows ts (pointing ∷ os) e =
    outermost_shows ts os (pointer e) ∙ ap end_of (pointer_below (levels os))
outermost_shows ts (in_array d ds ∷ os) e = ap end_of (array_below (levels os))
outermost_shows ts (in_composite k n fs ∷ os) e = ap end_of (composite_below k (levels os))

pub finish_shows : (x : State) → ended_types (finish x) ≡ finish_kept (show x)
finish_shows (at ts wanted os) = refl
finish_shows (at ts counting os) = refl
finish_shows (at ts (counted d ds) os) = refl
finish_shows (at ts (naming k n) os) = refl
finish_shows (at ts (named k n) os) = refl
finish_shows (at ts (quoting n) os) = refl
finish_shows (at ts sizing os) = refl
finish_shows (at ts (sized d ds) os) = outermost_shows ts os (bit_field d ds)
finish_shows (at ts at_sign os) = outermost_shows ts os object
finish_shows (at ts (ended e) os) = outermost_shows ts os e
finish_shows (at ts (offset e d ds) os) = refl
