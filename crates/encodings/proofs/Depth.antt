-- What the machine says of a text in the grammar's words: a reading; a level beyond the limit, opened by a text that with it still
-- begins one of the grammar; or a text outside the grammar.
use Prim.Native.Nat.{ℕ, suc, ◌≤◌, ◌<◌}
use Prim.Native.Char.{code}
use mathlib.Core.Path.{◌≡◌, refl, ap, sym, subst, ◌∙◌}
use mathlib.Core.Bool.{Bool, true, false}
use mathlib.Core.Logic.{◌⊎◌, inl, inr}
use mathlib.Core.List.{List, [], ◌∷◌, ◌++◌, append_assoc}
use native.Mathlib.Omega.{arith}
use borrow.Author.Tests.{ltb-true, ltb-false, lt-ltb, eq-eqb}
use lib.Dec.{ltb}
use Rattle.pointers.specs.Symbol.{ascii}
use Rattle.reads.specs.Outcome.{Outcome, value, absent, refused, and_then, choose}
use Rattle.reads.specs.declared.answer.Reason.{Reason}
use Rattle.reads.specs.declared.answer.Reason.TheVariants.{Malformed}
use Rattle.reads.proofs.Tests.{by_choose, choose_true, choose_false}
use Rattle.encodings.specs.Grammar.{structure, union, closer, Encoding, basic, object, instance, bit_field, qualified, pointer, array, opaque, defined, nothing, ◌then◌, Types, none, plain, framed, among, digit_byte, nesting_types, Reading, Deeper}
use Rattle.encodings.specs.Machine.{class_of, Open, qualifying, pointing, in_array, in_composite, wanted, counting, counted, naming, named, quoting, sizing, sized, at_sign, ended, offset, State, at, outside, too_deep, depth, within, begin, after, step, outermost, finish, run, parse}
use Rattle.encodings.specs.declared.bytes.Class.{Class}
use Rattle.encodings.specs.declared.bytes.Class.TheVariants.{Basic, Qualifier, Object, BitField, Pointer, Array, Structure, Union, Other}
use Rattle.encodings.proofs.ByteLaws.{byte_begins}
use Rattle.encodings.proofs.Choices.{by_both}
use Rattle.encodings.proofs.States.{spell_state, Good, Keeps}
use Rattle.encodings.proofs.Sound.{step_keeps, first_good, sound}
use Rattle.encodings.proofs.Complete.{Closing, closing, closing_bracket, no_quoted, close_name, moves, complete}
use Rattle.reads.specs.declared.answer.Question.{Question}
use Rattle.reads.specs.declared.answer.Question.TheVariants.{Depth}

-- A value, outside and too_deep are apart.
value_outside : (ts : Types) → ◌≡◌ {A = Outcome Types} (value ts) outside → ⊥
value_outside ts q = let z : ◌≡◌ {A = ℕ} 0 1 = cc in absurd (omega arith)

value_deep : (ts : Types) → ◌≡◌ {A = Outcome Types} (value ts) too_deep → ⊥
value_deep ts q = let z : ◌≡◌ {A = ℕ} 0 1 = cc in absurd (omega arith)

pub outside_deep : ◌≡◌ {A = Outcome Types} outside too_deep → ⊥
outside_deep q = let z : ◌≡◌ {A = ℕ} 0 1 = cc in absurd (omega arith)

-- ---- Each state can be brought to an end

abbrev Ends : ℕ → State → Type 0
Ends l x = (s : List ℕ) × (ts : Types) × (run l s x ≡ value ts)

class_c : class_of (code "c") ≡ Basic
unfolding class_of among choose
class_c = refl

zero_digit : digit_byte (code "0") ≡ true
unfolding digit_byte
zero_digit = refl

c_no_digit : digit_byte (code "c") ≡ false
unfolding digit_byte
c_no_digit = refl

module _ (l : ℕ) where
  ends_before : (b : ℕ) (x y : State) → step l x b (class_of b) ≡ value y → Ends l y → Ends l x
  ends_before b x y e w = (b ∷ w.0, w.1, moves l b w.0 x y e ∙ w.2)

  ends : (ts : Types) (os : List Open) (e : Encoding) (x : State) → finish x ≡ outermost ts os e
      → ((b : ℕ) → Closing b → step l x b (class_of b) ≡ after l ts os e b (class_of b)) → Ends l x
  unfolding run
  ends ts [] e x f g = ([], plain ts e, f)
  ends ts (qualifying q ∷ os) e x f g = ends ts os (qualified q e) x f g
  ends ts (pointing ∷ os) e x f g = ends ts os (pointer e) x f g
  ends ts (in_array d ds ∷ os) e x f g =
      ends_before (code "]") x (at ts (ended (array d ds e)) os) (g (code "]") closing_bracket ∙ choose_true _ _ refl)
      (ends ts os (array d ds e) (at ts (ended (array d ds e)) os) refl (λ b h. refl))
  ends ts (in_composite k n fs ∷ os) e x f g =
      ends_before (closer k) x (at ts (ended (defined k n (fs then e))) os)
      (g (closer k) (closing k) ∙ choose_true _ _ (eq-eqb (closer k) (closer k) refl))
      (ends ts os (defined k n (fs then e)) (at ts (ended (defined k n (fs then e))) os) refl (λ b h. refl))

  ended_ends : (ts : Types) (e : Encoding) (os : List Open) → Ends l (at ts (ended e) os)
  ended_ends ts e os = ends ts os e (at ts (ended e) os) refl (λ b h. refl)

  sized_ends : (ts : Types) (d : ℕ) (ds : List ℕ) (os : List Open) → Ends l (at ts (sized d ds) os)
  sized_ends ts d ds os = ends ts os (bit_field d ds) (at ts (sized d ds) os) refl (λ b h. choose_false _ _ h.digit)

  counted_ends : (ts : Types) (d : ℕ) (ds : List ℕ) (os : List Open) → Ends l (at ts (counted d ds) os)
  counted_ends ts d ds os =
      ends_before (code "c") (at ts (counted d ds) os) (at ts (ended (basic (code "c"))) (in_array d ds ∷ os))
      (choose_false _ _ c_no_digit ∙ ap (λ (c : Class). begin l ts (in_array d ds ∷ os) (code "c") c) class_c)
      (ended_ends ts (basic (code "c")) (in_array d ds ∷ os))

  live : (x : State) → Ends l x
  unfolding run
  live (at ts wanted os) =
      ends_before (code "c") (at ts wanted os) (at ts (ended (basic (code "c"))) os) (ap (λ (c : Class). begin l ts os (code "c") c) class_c)
      (ended_ends ts (basic (code "c")) os)
  live (at ts counting os) = ends_before (code "0") (at ts counting os) (at ts (counted (code "0") []) os) (choose_true _ _ zero_digit) (counted_ends ts (code "0") [] os)
  live (at ts (counted d ds) os) = counted_ends ts d ds os
  live (at ts (naming k n) os) =
      ends_before (closer k) (at ts (naming k n) os) (at ts (ended (opaque k n)) os) (close_name l ts k n os) (ended_ends ts (opaque k n) os)
  live (at ts (named k n) os) =
      ends_before (closer k) (at ts (named k n) os) (at ts (ended (defined k n nothing)) os) (choose_true _ _ (eq-eqb (closer k) (closer k) refl))
      (ended_ends ts (defined k n nothing) os)
  live (at ts (quoting n) os) =
      ends_before (code "\"") (at ts (quoting n) os) (at ts (ended (instance n)) os) (choose_false _ _ no_quoted) (ended_ends ts (instance n) os)
  live (at ts sizing os) = ends_before (code "0") (at ts sizing os) (at ts (sized (code "0") []) os) (choose_true _ _ zero_digit) (sized_ends ts (code "0") [] os)
  live (at ts (sized d ds) os) = sized_ends ts d ds os
  live (at ts at_sign os) = ends ts os object (at ts at_sign os) refl (λ b h. choose_true _ _ h.quoted)
  live (at ts (ended e) os) = ended_ends ts e os
  live (at ts (offset e d ds) os) = ([], framed ts e d ds, refl)

-- ---- A greater limit: what goes on goes on alike, what is outside stays so, and what was too deep, at a byte that opens a level, goes on

abbrev Grows : ℕ → Outcome State → Outcome State → Type 0
Grows b (value x) o = o ≡ value x
Grows b (absent r) o = (r ≡ Malformed) × (o ≡ absent r)
Grows b (refused k) o = (among (ascii "^[{(") b ≡ true) × (k ≡ Depth) × (y : State) × (o ≡ value y)

module _ (l m : ℕ) (more : l < m) where
  module _ (b : ℕ) where
    within_grows : (os : List Open) (x : State) → depth os ≤ l → among (ascii "^[{(") b ≡ true → Grows b (within l os x) (within m os x)
    within_grows os x v o =
        by_choose (λ y. Grows b y (within m os x))
        (λ h. choose_true _ _ (lt-ltb (depth os) m (omega arith)))
        (λ h. (o, refl, x, choose_true _ _ (lt-ltb (depth os) m (omega arith))))

    opener_byte : (k : ℕ) → b ≡ k → among (ascii "^[{(") k ≡ true → among (ascii "^[{(") b ≡ true
    opener_byte k e h = ap (among (ascii "^[{(")) e ∙ h

    begin_grows : (ts : Types) (os : List Open) → depth os ≤ l → (c : Class) → class_of b ≡ c → Grows b (begin l ts os b c) (begin m ts os b c)
    unfolding among
    begin_grows ts os v Basic e = refl
    begin_grows ts os v Qualifier e = refl
    begin_grows ts os v Object e = refl
    begin_grows ts os v BitField e = refl
    begin_grows ts os v Pointer e = within_grows os (at ts wanted (pointing ∷ os)) v (opener_byte _ (byte_begins b e) refl)
    begin_grows ts os v Array e = within_grows os (at ts counting os) v (opener_byte _ (byte_begins b e) refl)
    begin_grows ts os v Structure e = within_grows os (at ts (naming structure []) os) v (opener_byte _ (byte_begins b e) refl)
    begin_grows ts os v Union e = within_grows os (at ts (naming union []) os) v (opener_byte _ (byte_begins b e) refl)
    begin_grows ts os v Other e = (refl, refl)

    after_grows : (ts : Types) (os : List Open) (e : Encoding) → depth os ≤ l → (c : Class) → class_of b ≡ c
        → Grows b (after l ts os e b c) (after m ts os e b c)
    after_grows ts [] e v c q = by_both (Grows b) (λ h. refl) (λ h. begin_grows (plain ts e) [] v c q)
    after_grows ts (qualifying x ∷ os) e v c q = after_grows ts os (qualified x e) v c q
    after_grows ts (pointing ∷ os) e v c q = after_grows ts os (pointer e) (omega arith) c q
    after_grows ts (in_array d ds ∷ os) e v c q = by_both (Grows b) (λ h. refl) (λ h. (refl, refl))
    after_grows ts (in_composite k n fs ∷ os) e v c q =
        by_both (Grows b) (λ h. refl) (λ h. begin_grows ts (in_composite k n (fs then e) ∷ os) v c q)

    step_grows : (x : State) → Good l x → (c : Class) → class_of b ≡ c → Grows b (step l x b c) (step m x b c)
    step_grows (at ts wanted os) g c q = begin_grows ts os g.3 c q
    step_grows (at ts counting os) g c q = by_both (Grows b) (λ h. refl) (λ h. (refl, refl))
    step_grows (at ts (counted d ds) os) g c q = by_both (Grows b) (λ h. refl) (λ h. begin_grows ts (in_array d ds ∷ os) g.3.1 c q)
    step_grows (at ts (naming k n) os) g c q =
        by_both (Grows b) (λ h. refl) (λ h. by_both (Grows b) (λ h. refl) (λ h. by_both (Grows b) (λ h. refl) (λ h. (refl, refl))))
    step_grows (at ts (named k n) os) g c q =
        by_both (Grows b) (λ h. refl) (λ h. begin_grows ts (in_composite k n nothing ∷ os) g.3.1 c q)
    step_grows (at ts (quoting n) os) g c q = by_both (Grows b) (λ h. refl) (λ h. refl)
    step_grows (at ts sizing os) g c q = by_both (Grows b) (λ h. refl) (λ h. (refl, refl))
    step_grows (at ts (sized d ds) os) g c q = by_both (Grows b) (λ h. refl) (λ h. after_grows ts os (bit_field d ds) g.3.1 c q)
    step_grows (at ts at_sign os) g c q = by_both (Grows b) (λ h. after_grows ts os object g.3 c q) (λ h. refl)
    step_grows (at ts (ended e) os) g c q = after_grows ts os e (omega (arith, g.3.2)) c q
    step_grows (at ts (offset e d ds) os) g c q = by_both (Grows b) (λ h. refl) (λ h. begin_grows (framed ts e d ds) [] (omega arith) c q)

  -- So the whole text is too deep for the lesser limit, or both say the same of it.
  run_grows : (s : List ℕ) (x : State) → Good l x → (run l s x ≡ too_deep) ⊎ (run l s x ≡ run m s x)
  unfolding run
  run_grows [] x g = inr refl
  run_grows (b ∷ s) x g =
      go (step l x b (class_of b)) (step_keeps l x g b (class_of b) refl) (step_grows b x g (class_of b) refl) (λ y. run_grows s y)
    where
      go : (o : Outcome State) → Keeps l (λ s. spell_state x (b ∷ s)) o → Grows b o (step m x b (class_of b))
          → ((y : State) → Good l y → (run l s y ≡ too_deep) ⊎ (run l s y ≡ run m s y))
          → (and_then o (λ y. run l s y) ≡ too_deep) ⊎ (and_then o (λ y. run l s y) ≡ and_then (step m x b (class_of b)) (λ y. run m s y))
      go (value y) k w f = rw w (f y k.0)
      go (absent r) k w f = inr (rw w.1)
      go (refused n) k w f = inl (ap (λ (i : Question). refused i) w.1)

-- ---- What the machine may say: a reading, outside, or, before the text ends, too_deep

abbrev Ended : Outcome Types → Type 0
Ended (value ts) = Unit {0}
Ended (absent r) = r ≡ Malformed
Ended (refused k) = ⊥

outermost_ended : (ts : Types) (os : List Open) (e : Encoding) → Ended (outermost ts os e)
outermost_ended ts [] e = tt
outermost_ended ts (qualifying x ∷ os) e = outermost_ended ts os (qualified x e)
outermost_ended ts (pointing ∷ os) e = outermost_ended ts os (pointer e)
outermost_ended ts (in_array d ds ∷ os) e = refl
outermost_ended ts (in_composite k n fs ∷ os) e = refl

finish_ended : (x : State) → Ended (finish x)
finish_ended (at ts wanted os) = refl
finish_ended (at ts counting os) = refl
finish_ended (at ts (counted d ds) os) = refl
finish_ended (at ts (naming k n) os) = refl
finish_ended (at ts (named k n) os) = refl
finish_ended (at ts (quoting n) os) = refl
finish_ended (at ts sizing os) = refl
finish_ended (at ts (sized d ds) os) = outermost_ended ts os (bit_field d ds)
finish_ended (at ts at_sign os) = outermost_ended ts os object
finish_ended (at ts (ended e) os) = outermost_ended ts os e
finish_ended (at ts (offset e d ds) os) = tt

abbrev pub Known : Outcome Types → Type 0
Known (value ts) = Unit {0}
Known (absent r) = r ≡ Malformed
Known (refused k) = k ≡ Depth

pub run_known : (l : ℕ) (s : List ℕ) (x : State) → Good l x → Known (run l s x)
unfolding run
run_known l [] x g = go (finish x) (finish_ended x)
  where
    go : (o : Outcome Types) → Ended o → Known o
    go (value ts) e = tt
    go (absent r) e = e
    go (refused k) e = absurd e
run_known l (b ∷ s) x g =
    go (step l x b (class_of b)) (step_keeps l x g b (class_of b) refl) (step_grows l (suc l) (omega arith) b x g (class_of b) refl) (λ y. run_known l s y)
  where
    go : (o : Outcome State) → Keeps l (λ s. spell_state x (b ∷ s)) o → Grows b o (step (suc l) x b (class_of b))
        → ((y : State) → Good l y → Known (run l s y)) → Known (and_then o (λ y. run l s y))
    go (value y) k w f = f y k.0
    go (absent r) k w f = w.0
    go (refused n) k w f = w.1

module _ (l : ℕ) where
  -- A reading beyond the limit is too deep for the machine.
  pub too_deep_lem : (text : List ℕ) (ts : Types) → Reading text ts → l < nesting_types ts → parse l text ≡ too_deep
  too_deep_lem text ts r h = go (run_grows l (nesting_types ts) h text (at none wanted []) (first_good l))
    where
      go : (parse l text ≡ too_deep) ⊎ (parse l text ≡ parse (nesting_types ts) text) → parse l text ≡ too_deep
      go (inl e) = e
      go (inr e) = absurd (omega (arith, h, (sound l text ts (e ∙ complete (nesting_types ts) text ts r (omega arith))).1))

  finish_never : (x : State) → finish x ≡ too_deep → ⊥
  finish_never x q = subst Ended q (finish_ended x)

  -- Where the machine stops for depth: the state before the opening byte, and the one after it if one level more were allowed.
  record DeepAt (x : State) (t : List ℕ) : Type 0 where
    before : List ℕ
    opening : ℕ
    rest : List ℕ
    here : State
    there : State
    is : t ≡ before ++ opening ∷ rest
    opens : among (ascii "^[{(") opening ≡ true
    goes : (s : List ℕ) → run l (before ++ s) x ≡ run l s here
    stops : step l here opening (class_of opening) ≡ too_deep
    more : (s : List ℕ) → run (suc l) (before ++ opening ∷ s) x ≡ run (suc l) s there

  deep_at : (t : List ℕ) (x : State) → Good l x → run l t x ≡ too_deep → DeepAt x t
  unfolding run
  deep_at [] x g q = absurd (finish_never x q)
  deep_at (b ∷ t) x g q =
      go (step l x b (class_of b)) refl (step_keeps l x g b (class_of b) refl) (step_grows l (suc l) (omega arith) b x g (class_of b) refl) q (λ y. deep_at t y)
    where
      absent_deep : (r : Reason) → ◌≡◌ {A = Outcome Types} (absent r) too_deep → ⊥
      absent_deep r e = let z : ◌≡◌ {A = ℕ} 0 1 = cc in absurd (omega arith)

      go : (o : Outcome State) → step l x b (class_of b) ≡ o → Keeps l (λ s. spell_state x (b ∷ s)) o → Grows b o (step (suc l) x b (class_of b))
          → and_then o (λ y. run l t y) ≡ too_deep → ((y : State) → Good l y → run l t y ≡ too_deep → DeepAt y t) → DeepAt x (b ∷ t)
      go (absent r) e k w q' f = absurd (absent_deep r q')
      go (refused n) e k w q' f =
          record {
            before = [];
            opening = b;
            rest = t;
            here = x;
            there = w.2;
            is = refl;
            opens = w.0;
            goes = λ s. refl;
            stops = e ∙ ap (λ (i : Question). refused i) w.1;
            more = λ s. moves (suc l) b s x w.2 w.3;
          }
      go (value y) e k w q' f =
          let d = f y k.0 q' in
          record {
            before = b ∷ d.before;
            opening = d.opening;
            rest = d.rest;
            here = d.here;
            there = d.there;
            is = ap (λ (r : List ℕ). b ∷ r) d.is;
            opens = d.opens;
            goes = λ s. moves l b (d.before ++ s) x y e ∙ d.goes s;
            stops = d.stops;
            more = λ s. moves (suc l) b (d.before ++ d.opening ∷ s) x y w ∙ d.more s;
          }

  -- A text too deep for the machine opens a level beyond the limit.
  pub seventeen_deeper : (text : List ℕ) → parse l text ≡ too_deep → Deeper l text
  unfolding run
  seventeen_deeper text q = go (deep_at text (at none wanted []) (first_good l) q)
    where
      go : DeepAt (at none wanted []) text → Deeper l text
      go d =
          let a = live l d.here in
          let r = sound l (d.before ++ a.0) a.1 (d.goes a.0 ∙ a.2) in
          let a' = live (suc l) d.there in
          let r' = sound (suc l) (d.before ++ d.opening ∷ a'.0) a'.1 (d.more a'.0 ∙ a'.2) in
          record {
            before = d.before;
            opening = d.opening;
            rest = d.rest;
            is = d.is;
            opens = d.opens;
            fits = (a.0, a.1, r.0, r.1);
            begins = (a'.0, a'.1, r'.0);
            deeper = λ s ts w. beyond ts (λ h. no_reading s ts w h);
          }
        where
          beyond : (ts : Types) → (nesting_types ts ≤ l → ⊥) → l < nesting_types ts
          beyond ts f = test (ltb l (nesting_types ts)) refl
            where
              test : (b : Bool) → ltb l (nesting_types ts) ≡ b → l < nesting_types ts
              test true e = ltb-true _ _ e
              test false e = absurd (f (ltb-false _ _ e))

          no_reading : (s : List ℕ) (ts : Types) → Reading (d.before ++ d.opening ∷ s) ts → nesting_types ts ≤ l → ⊥
          no_reading s ts w h =
              value_deep ts
              (sym (complete l _ ts w h) ∙ d.goes (d.opening ∷ s) ∙ ap (λ (o : Outcome State). and_then o (λ y. run l s y)) d.stops)

  -- ---- What the machine says of every text that begins with p

  data Reach (p : List ℕ) (x : State) : Type 0 where
    ends_at : (o : Outcome Types) → ((ts : Types) → o ≡ value ts → ⊥) → ((s : List ℕ) → run l (p ++ s) x ≡ o) → Reach p x
    goes_on : (y : State) → ((s : List ℕ) → run l (p ++ s) x ≡ run l s y) → Reach p x

  reach : (p : List ℕ) (x : State) → Reach p x
  unfolding run
  reach [] x = goes_on x (λ s. refl)
  reach (b ∷ p) x = go (step l x b (class_of b)) refl (λ y. reach p y)
    where
      on_from : (y : State) → step l x b (class_of b) ≡ value y → Reach p y → Reach (b ∷ p) x
      on_from y e (ends_at o n f) = ends_at o n (λ s. moves l b (p ++ s) x y e ∙ f s)
      on_from y e (goes_on z f) = goes_on z (λ s. moves l b (p ++ s) x y e ∙ f s)

      go : (o : Outcome State) → step l x b (class_of b) ≡ o → ((y : State) → Reach p y) → Reach (b ∷ p) x
      go (value y) e f = on_from y e (f y)
      go (absent r) e f =
          ends_at (absent r) (λ ts q. let z : ◌≡◌ {A = ℕ} 0 1 = cc in absurd (omega arith))
          (λ s. ap (λ (o : Outcome State). and_then o (λ y. run l (p ++ s) y)) e)
      go (refused k) e f =
          ends_at (refused k) (λ ts q. let z : ◌≡◌ {A = ℕ} 0 1 = cc in absurd (omega arith))
          (λ s. ap (λ (o : Outcome State). and_then o (λ y. run l (p ++ s) y)) e)

  -- A text that the machine refuses is outside the grammar.
  pub outside_unread : (text : List ℕ) → parse l text ≡ outside → (ts : Types) → Reading text ts → ⊥
  outside_unread text q ts r = test (ltb l (nesting_types ts)) refl
    where
      test : (b : Bool) → ltb l (nesting_types ts) ≡ b → ⊥
      test true e = outside_deep (sym q ∙ too_deep_lem text ts r (ltb-true _ _ e))
      test false e = value_outside ts (sym (complete l text ts r (ltb-false _ _ e)) ∙ q)

  -- And it opens no level beyond the limit before it leaves the grammar.
  pub deeper_seventeen : (text : List ℕ) → Deeper l text → parse l text ≡ too_deep
  deeper_seventeen text d = go (reach (d.before ++ d.opening ∷ []) (at none wanted []))
    where
      joined : (s : List ℕ) → (d.before ++ d.opening ∷ []) ++ s ≡ d.before ++ d.opening ∷ s
      joined s = simp append_assoc

      go : Reach (d.before ++ d.opening ∷ []) (at none wanted []) → parse l text ≡ too_deep
      go (ends_at o n f) =
          let b = d.begins in
          ap (λ (x : List ℕ). parse l x) (d.is ∙ sym (joined d.rest)) ∙ f d.rest ∙ sym (f b.0)
          ∙ ap (λ (x : List ℕ). parse l x) (joined b.0) ∙ too_deep_lem _ b.1 b.2 (d.deeper b.0 b.1 b.2)
      go (goes_on y f) =
          let a = live l y in
          let r = sound l (d.before ++ d.opening ∷ a.0) a.1 (ap (λ (x : List ℕ). parse l x) (sym (joined a.0)) ∙ f a.0 ∙ a.2) in
          let h = d.deeper a.0 a.1 r.0 in
          absurd (omega (arith, h, r.1))
