-- What the machine reads is a reading of the text.
use Prim.Native.Nat.{ℕ, ◌+◌, ◌≤◌, ◌<◌}
use mathlib.Core.Path.{◌≡◌, refl, ap, sym, subst, ◌∙◌}
use mathlib.Core.Bool.{Bool, true, false, true≢false}
use mathlib.Core.List.{List, [], ◌∷◌, ◌++◌}
use native.Mathlib.Omega.{arith}
use borrow.Author.Tests.{eqb-true, ltb-true}
use Rattle.reads.specs.Outcome.{Outcome, value, absent, refused, and_then}
use Rattle.reads.proofs.Tests.{by_choose}
use Rattle.encodings.specs.Grammar.{closer, Encoding, object, bit_field, qualified, pointer, nothing, ◌then◌, Types, none, plain, framed, spell, spell_types, Each, digit_byte, name_byte, quoted_byte, Allowed, AllowedTypes, ends_in_bits, nesting, nesting_types, count, Reading}
use Rattle.encodings.specs.Machine.{class_of, Open, qualifying, pointing, in_array, in_composite, wanted, counting, counted, naming, named, quoting, sizing, sized, at_sign, ended, offset, State, at, depth, begin, after, step, outermost, finish, run, parse}
use Rattle.encodings.specs.declared.bytes.Class.{Class}
use Rattle.encodings.specs.declared.bytes.Class.TheVariants.{Basic, Qualifier, Object, BitField, Pointer, Array, Structure, Union, Other}
use Rattle.encodings.proofs.ByteLaws.{byte_begins, quote}
use Rattle.encodings.proofs.States.{spell_open, spell_state, GoodOpen, Good, Keeps}

-- One more byte at the end.
each_snoc : (p : ℕ → Bool) (l : List ℕ) (b : ℕ) → Each p l → p b ≡ true → Each p (l ++ b ∷ [])
each_snoc p [] b e h = (h, tt)
each_snoc p (a ∷ l) b e h = (e.0, each_snoc p l b e.1 h)

pub snoc : (l : List ℕ) (b : ℕ) (s : List ℕ) → (l ++ b ∷ []) ++ s ≡ l ++ b ∷ s
snoc [] b s = refl
snoc (a ∷ l) b s = ap (λ (x : List ℕ). a ∷ x) (snoc l b s)

module _ (l : ℕ) (ts : Types) (at' : AllowedTypes ts) (nt : nesting_types ts ≤ l) where
  begin_keeps : (os : List Open) → GoodOpen l os → depth os ≤ l → (b : ℕ) (c : Class) → class_of b ≡ c
      → Keeps l (λ s. spell_types ts (spell_open os (b ∷ s))) (begin l ts os b c)
  begin_keeps os g v b Basic e = ((at', nt, g, (byte_begins b e, refl, omega arith)), λ s. refl)
  begin_keeps os g v b Qualifier e = ((at', nt, (byte_begins b e, g), v), λ s. refl)
  begin_keeps os g v b Object e = ((at', nt, g, v), λ s. rw (byte_begins b e))
  begin_keeps os g v b BitField e = ((at', nt, g, v), λ s. rw (byte_begins b e))
  begin_keeps os g v b Pointer e =
      by_choose (Keeps l (λ s. spell_types ts (spell_open os (b ∷ s)))) (λ h. ((at', nt, g, ltb-true _ _ h), λ s. rw (byte_begins b e))) (λ h. tt)
  begin_keeps os g v b Array e =
      by_choose (Keeps l (λ s. spell_types ts (spell_open os (b ∷ s)))) (λ h. ((at', nt, g, ltb-true _ _ h), λ s. rw (byte_begins b e))) (λ h. tt)
  begin_keeps os g v b Structure e =
      by_choose (Keeps l (λ s. spell_types ts (spell_open os (b ∷ s)))) (λ h. ((at', nt, g, (tt, ltb-true _ _ h)), λ s. rw (byte_begins b e))) (λ h. tt)
  begin_keeps os g v b Union e =
      by_choose (Keeps l (λ s. spell_types ts (spell_open os (b ∷ s)))) (λ h. ((at', nt, g, (tt, ltb-true _ _ h)), λ s. rw (byte_begins b e))) (λ h. tt)
  begin_keeps os g v b Other e = tt

module _ (l : ℕ) (ts : Types) (at' : AllowedTypes ts) (nt : nesting_types ts ≤ l) where
  after_keeps : (os : List Open) → GoodOpen l os → (e : Encoding) → Allowed e → nesting e + depth os ≤ l → (b : ℕ) (c : Class) → class_of b ≡ c
      → (digit_byte b ≡ true → ends_in_bits e ≡ false) → Keeps l (λ s. spell_types ts (spell_open os (spell e (b ∷ s)))) (after l ts os e b c)
  after_keeps [] g e ae v b c q n =
      by_choose (Keeps l (λ s. spell_types ts (spell e (b ∷ s))))
      (λ h. ((at', nt, tt, (ae, n h, (h, tt), omega arith, refl)), λ s. refl))
      (λ h. begin_keeps l (plain ts e) (at', ae) (omega arith) [] tt (omega arith) b c q)
  after_keeps (qualifying x ∷ os) g e ae v b c q n = after_keeps os g.1 (qualified x e) (g.0, ae) v b c q n
  after_keeps (pointing ∷ os) g e ae v b c q n = after_keeps os g (pointer e) ae (omega arith) b c q n
  after_keeps (in_array d ds ∷ os) g e ae v b c q n =
      by_choose (Keeps l (λ s. spell_types ts (spell_open (in_array d ds ∷ os) (spell e (b ∷ s)))))
      (λ h. ((at', nt, g.1, ((g.0, ae), refl, omega arith)), λ s. rw (eqb-true b _ h)))
      (λ h. tt)
  after_keeps (in_composite k m fs ∷ os) g e ae v b c q n =
      by_choose (Keeps l (λ s. spell_types ts (spell_open (in_composite k m fs ∷ os) (spell e (b ∷ s)))))
      (λ h. ((at', nt, g.3, ((g.0, (g.1, ae)), refl, omega (arith, g.2))), λ s. rw (eqb-true b (closer k) h)))
      (λ h. begin_keeps l ts at' nt (in_composite k m (fs then e) ∷ os) (g.0, (g.1, ae), omega (arith, g.2), g.3) (omega arith) b c q)

pub step_keeps : (l : ℕ) (x : State) → Good l x → (b : ℕ) (c : Class) → class_of b ≡ c → Keeps l (λ s. spell_state x (b ∷ s)) (step l x b c)
step_keeps l (at ts wanted os) g b c q = begin_keeps l ts g.0 g.1 os g.2 g.3 b c q
step_keeps l (at ts counting os) g b c q =
    by_choose (Keeps l (λ s. spell_state (at ts counting os) (b ∷ s)))
    (λ h. ((g.0, g.1, g.2, ((h, tt), g.3)), λ s. refl))
    (λ h. tt)
step_keeps l (at ts (counted d ds) os) g b c q =
    by_choose (Keeps l (λ s. spell_state (at ts (counted d ds) os) (b ∷ s)))
    (λ h. ((g.0, g.1, g.2, (each_snoc digit_byte (d ∷ ds) b g.3.0 h, g.3.1)), λ s. simp snoc))
    (λ h. begin_keeps l ts g.0 g.1 (in_array d ds ∷ os) (g.3.0, g.2) g.3.1 b c q)
step_keeps l (at ts (naming k n) os) g b c q =
    by_choose (Keeps l (λ s. spell_state (at ts (naming k n) os) (b ∷ s)))
    (λ h. ((g.0, g.1, g.2, (each_snoc name_byte n b g.3.0 h, g.3.1)), λ s. simp snoc))
    (λ h. by_choose (Keeps l (λ s. spell_state (at ts (naming k n) os) (b ∷ s)))
    (λ h. ((g.0, g.1, g.2, g.3), λ s. rw (eqb-true b _ h)))
    (λ h. by_choose (Keeps l (λ s. spell_state (at ts (naming k n) os) (b ∷ s)))
    (λ h. ((g.0, g.1, g.2, (g.3.0, refl, omega (arith, g.3.1))), λ s. rw (eqb-true b (closer k) h)))
    (λ h. tt)))
step_keeps l (at ts (named k n) os) g b c q =
    by_choose (Keeps l (λ s. spell_state (at ts (named k n) os) (b ∷ s)))
    (λ h. ((g.0, g.1, g.2, ((g.3.0, tt), refl, omega (arith, g.3.1))), λ s. rw (eqb-true b (closer k) h)))
    (λ h. begin_keeps l ts g.0 g.1 (in_composite k n nothing ∷ os) (g.3.0, tt, omega (arith, g.3.1), g.2) g.3.1 b c q)
step_keeps l (at ts (quoting n) os) g b c q =
    by_choose (Keeps l (λ s. spell_state (at ts (quoting n) os) (b ∷ s)))
    (λ h. ((g.0, g.1, g.2, (each_snoc quoted_byte n b g.3.0 h, g.3.1)), λ s. simp snoc))
    (λ h. ((g.0, g.1, g.2, (g.3.0, refl, omega (arith, g.3.1))), λ s. rw (quote b h)))
step_keeps l (at ts sizing os) g b c q =
    by_choose (Keeps l (λ s. spell_state (at ts sizing os) (b ∷ s)))
    (λ h. ((g.0, g.1, g.2, ((h, tt), g.3)), λ s. refl))
    (λ h. tt)
step_keeps l (at ts (sized d ds) os) g b c q =
    by_choose (Keeps l (λ s. spell_state (at ts (sized d ds) os) (b ∷ s)))
    (λ h. ((g.0, g.1, g.2, (each_snoc digit_byte (d ∷ ds) b g.3.0 h, g.3.1)), λ s. simp snoc))
    (λ h. after_keeps l ts g.0 g.1 os g.2 (bit_field d ds) g.3.0 (omega (arith, g.3.1)) b c q (λ h'. absurd (true≢false (sym h' ∙ h))))
step_keeps l (at ts at_sign os) g b c q =
    by_choose (Keeps l (λ s. spell_state (at ts at_sign os) (b ∷ s)))
    (λ h. after_keeps l ts g.0 g.1 os g.2 object tt (omega (arith, g.3)) b c q (λ h'. refl))
    (λ h. ((g.0, g.1, g.2, (tt, g.3)), λ s. rw (quote b h)))
step_keeps l (at ts (ended e) os) g b c q = after_keeps l ts g.0 g.1 os g.2 e g.3.0 g.3.2 b c q (λ h'. g.3.1)
step_keeps l (at ts (offset e d ds) os) g b c q =
    by_choose (Keeps l (λ s. spell_state (at ts (offset e d ds) os) (b ∷ s)))
    (λ h. ((g.0, g.1, g.2, (g.3.0, g.3.1, each_snoc digit_byte (d ∷ ds) b g.3.2 h, g.3.3, g.3.4)), λ s. simp snoc))
    (λ h. rw g.3.4 (begin_keeps l (framed ts e d ds) (g.0, g.3.0, g.3.1, g.3.2) (omega (arith, g.1, g.3.3)) [] tt (omega arith) b c q))

-- ---- The whole text

abbrev Reads : ℕ → List ℕ → Outcome Types → Type 0
Reads l t (value ts) = (0 < count ts) × AllowedTypes ts × (nesting_types ts ≤ l) × (spell_types ts [] ≡ t)
Reads l t (absent r) = Unit {0}
Reads l t (refused k) = Unit {0}

outermost_reads : (l : ℕ) (ts : Types) → AllowedTypes ts → nesting_types ts ≤ l → (os : List Open) → GoodOpen l os → (e : Encoding) → Allowed e
    → nesting e + depth os ≤ l → Reads l (spell_types ts (spell_open os (spell e []))) (outermost ts os e)
outermost_reads l ts a m [] g e ae v = (omega arith, (a, ae), omega arith, refl)
outermost_reads l ts a m (qualifying q ∷ os) g e ae v = outermost_reads l ts a m os g.1 (qualified q e) (g.0, ae) v
outermost_reads l ts a m (pointing ∷ os) g e ae v = outermost_reads l ts a m os g (pointer e) ae (omega arith)
outermost_reads l ts a m (in_array d ds ∷ os) g e ae v = tt
outermost_reads l ts a m (in_composite k n fs ∷ os) g e ae v = tt

finish_reads : (l : ℕ) (x : State) → Good l x → Reads l (spell_state x []) (finish x)
finish_reads l (at ts wanted os) g = tt
finish_reads l (at ts counting os) g = tt
finish_reads l (at ts (counted d ds) os) g = tt
finish_reads l (at ts (naming k n) os) g = tt
finish_reads l (at ts (named k n) os) g = tt
finish_reads l (at ts (quoting n) os) g = tt
finish_reads l (at ts sizing os) g = tt
finish_reads l (at ts (sized d ds) os) g = outermost_reads l ts g.0 g.1 os g.2 (bit_field d ds) g.3.0 (omega (arith, g.3.1))
finish_reads l (at ts at_sign os) g = outermost_reads l ts g.0 g.1 os g.2 object tt (omega (arith, g.3))
finish_reads l (at ts (ended e) os) g = outermost_reads l ts g.0 g.1 os g.2 e g.3.0 g.3.2
finish_reads l (at ts (offset e d ds) os) g = (omega arith, (g.0, g.3.0, g.3.1, g.3.2), omega (arith, g.1, g.3.3), rw g.3.4)

run_reads : (l : ℕ) (s : List ℕ) (x : State) → Good l x → Reads l (spell_state x s) (run l s x)
unfolding run
run_reads l [] x g = finish_reads l x g
run_reads l (b ∷ s) x g = go (step l x b (class_of b)) (step_keeps l x g b (class_of b) refl) (λ y. run_reads l s y)
  where
    go : (o : Outcome State) → Keeps l (λ s. spell_state x (b ∷ s)) o → ((y : State) → Good l y → Reads l (spell_state y s) (run l s y))
        → Reads l (spell_state x (b ∷ s)) (and_then o (λ y. run l s y))
    go (value y) k f = subst (λ (t : List ℕ). Reads l t (run l s y)) (k.1 s) (f y k.0)
    go (absent r) k f = tt
    go (refused n) k f = tt

-- The state before the first byte.
pub first_good : (l : ℕ) → Good l (at none wanted [])
first_good l = (tt, omega arith, tt, omega arith)

-- What the machine reads is a reading, with at most l levels.
pub sound : (l : ℕ) (text : List ℕ) (ts : Types) → parse l text ≡ value ts → Reading text ts × (nesting_types ts ≤ l)
sound l text ts e =
    let r : Reads l text (value ts) = subst (Reads l text) e (run_reads l text (at none wanted []) (first_good l)) in
    (record { some_type = r.0; allowed = r.1; spelled = r.3 }, r.2)
