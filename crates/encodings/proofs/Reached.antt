-- The loop over a text: the parser keeps what it needs of the machine's state, and a buffer that they fit holds the words of the
-- types before this one.
use Prim.Native.Nat.{ℕ, ◌+◌, ◌*◌, ◌≤◌, ◌<◌}
use mathlib.Core.Path.{◌≡◌, refl, ap, sym, ◌∙◌}
use mathlib.Core.Logic.{◌⊎◌, inl, inr}
use mathlib.Core.List.{List, [], ◌∷◌}
use native.Mathlib.Omega.{arith}
use native.Mathlib.Numerals.{add-one}
use lib.ListN.{length, get_or, drop, drop_of_length-le}
use lib.Seq.{drop-cons, sets}
use Rattle.reads.specs.Answer.{missed}
use Rattle.reads.specs.Outcome.{Outcome, value, absent, refused, and_then}
use Rattle.reads.specs.declared.answer.Missing.{Missing}
use Rattle.reads.specs.declared.answer.Missing.TheVariants.{Absent, Refused}
use Rattle.encodings.specs.Grammar.{Types, none, count, size, filled}
use Rattle.encodings.specs.Machine.{class_of, wanted, State, at, step, finish, run, parse}
use Rattle.std.specs.Prelude.{Option}
use Rattle.encodings.specs.Parser.{Kept, kept, offset_of, kept_in, step_as, finish_as, row, Ordered, RowPut, Read}
use Rattle.encodings.specs.declared.kept.Mode.TheVariants as mode
use Rattle.encodings.specs.declared.kept.Parser.{Parser}
use Rattle.encodings.proofs.Lengths.{length_state, count_size}
use Rattle.encodings.proofs.Shows.{offset_shown, show, shown, step_kept, finish_kept, counted_types, ended_types, step_shows, finish_shows}
use Rattle.encodings.proofs.Sound.{step_keeps, first_good}
use Rattle.encodings.proofs.States.{spell_state, Good, Keeps}
use Rattle.encodings.proofs.Steps.{kept_start, kept_mode}
use Rattle.encodings.proofs.Turns.{types_at, offset_at, Adds, Turns, row_filled, step_turns, finish_adds, start_before, ordered}
use Rattle.reads.specs.declared.answer.Question.{Question}

-- After i bytes of a text and so many types, with a buffer that held w₀ and holds w.
pub record Reached (text w₀ w : List ℕ) (p : Parser) (types i : ℕ) : Type 0 where
  pub state : State
  pub within : i ≤ length text
  pub shows : kept_in p ≡ show state
  pub goes : run 32 (drop i text) state ≡ parse 32 text
  pub good : Good 32 state
  pub place : length (spell_state state []) ≡ i
  pub types_is : types ≡ count (types_at state)
  pub words : 4 * count (types_at state) ≤ length w₀ → w ≡ filled (types_at state) w₀
  pub same : length w ≡ length w₀

pub reached_first : (text w : List ℕ) (p : Parser) → kept_in p ≡ kept mode.Wanted [] 0 → Reached text w w p 0 0
reached_first text w p e =
    record {
      state = at none wanted [];
      within = omega arith;
      shows = e;
      goes = refl;
      good = first_good 32;
      place = refl;
      types_is = refl;
      words = λ h. refl;
      same = refl;
    }

-- What is missing is neither a value nor what a value leads to.
pub missing_value : {A : Type 0} (m : Missing) (a : A) → missed m ≡ value a → ⊥
missing_value (Absent r) a e = let z : ◌≡◌ {A = ℕ} 0 1 = cc in absurd (omega arith)
missing_value (Refused k) a e = let z : ◌≡◌ {A = ℕ} 0 1 = cc in absurd (omega arith)

missing_then : {A B C : Type 0} (m : Missing) (o : Outcome C) (g : C → B) (f : C → Outcome A) → missed m ≡ and_then o (λ x. value (g x))
    → missed m ≡ and_then o f
missing_then m (value y) g f e = absurd (missing_value m (g y) e)
missing_then (Absent r) (absent r') g f e = let z : r ≡ r' = cc in ap (λ (x : _). absent x) z
missing_then (Absent r) (refused k) g f e = let z : ◌≡◌ {A = ℕ} 0 1 = cc in absurd (omega arith)
missing_then (Refused k) (absent r) g f e = let z : ◌≡◌ {A = ℕ} 0 1 = cc in absurd (omega arith)
missing_then (Refused k) (refused k') g f e = let z : k ≡ k' = cc in ap (λ (x : Question). refused x) z

-- What a parser keeps of a state, part by part.
parts : (p : Parser) (x : State) → kept_in p ≡ show x
    → (p.start ≡ size (types_at x)) × (offset_of p.mode ≡ offset_at x)
parts p (at ts n os) e = (kept_start e, ap offset_of (kept_mode e) ∙ offset_shown ts n)

ordered_as : {s s' : ℕ} {o o' : Option ℕ} (i : ℕ) → s ≡ s' → o ≡ o' → Ordered s' o' i → Ordered s o i
ordered_as i e f h = rw (e, f) h

sets_as : {w w' : List ℕ} {k k' s s' : ℕ} {o o' : Option ℕ} (i : ℕ) → w ≡ w' → k ≡ k' → s ≡ s' → o ≡ o'
    → sets w (4 * k) (row s o i) ≡ sets w' (4 * k') (row s' o' i)
sets_as i a b c d = rw (a, b, c, d)

module _ {text w₀ w : List ℕ} {p : Parser} {types i : ℕ} (z : Reached text w₀ w p types i) where
  abbrev x : State
  x = z.state

  -- Each type before has a byte.
  pub reached_types : types ≤ i
  reached_types = omega (arith, z.types_is, count_size (types_at x), start_before x i z.place)

  pub reached_ordered : Ordered p.start (offset_of p.mode) i
  reached_ordered = let q = parts p x z.shows in ordered_as i q.0 q.1 (ordered x z.good i z.place)

  -- The words of this type, put behind those before it.
  put_words : {left : List ℕ} (us : Types) → Adds (types_at x) (offset_at x) i us → RowPut types p.start (offset_of p.mode) i w left
      → 4 * count us ≤ length w₀ → left ≡ filled us w₀
  put_words us a r h =
      let q = parts p x z.shows in
      r.holds (omega (arith, z.types_is, a.0, z.same))
      ∙ sets_as i (z.words (omega (arith, a.0))) z.types_is q.0 q.1
      ∙ row_filled (types_at x) us (offset_at x) i w₀ a h

  -- ---- The byte at i

  module _ (h : i < length text) where
    abbrev b : ℕ
    b = get_or text i 0

    abbrev next_state : Outcome State
    next_state = step 32 x b (class_of b)

    steps_as : step_as p.mode p b i ≡ shown next_state
    steps_as = ap (λ (k : Kept). step_kept k b i) z.shows ∙ sym (step_shows x z.good b i z.place)

    goes_on : and_then next_state (λ y. run 32 (drop (i + 1) text) y) ≡ parse 32 text
    unfolding run
    goes_on =
        ap (λ (n : ℕ). and_then next_state (λ y. run 32 (drop n text) y)) (add-one i)
        ∙ ap (λ (l : List ℕ). run 32 l x) (sym (drop-cons text i 0 h)) ∙ z.goes

    -- The type goes on, or with the byte the next one begins.
    record Turned (q : Parser) (n : ℕ) (left : List ℕ) : Type 0 where
      on : q.start ≡ p.start → (left ≡ w) × (n ≡ types)
      begins : (q.start ≡ p.start → ⊥) → RowPut types p.start (offset_of p.mode) i w left × (n ≡ types + 1)
      same : length left ≡ length w

    reached_next : (q : Parser) {n : ℕ} {left : List ℕ} → value (kept_in q) ≡ step_as p.mode p b i → Turned q n left
        → Reached text w₀ left q n (i + 1)
    reached_next q {n} {left} e t =
        go next_state (e ∙ steps_as) goes_on (step_keeps 32 x z.good b (class_of b) refl) (step_turns x z.good b (class_of b) i z.place)
      where
        go : (o : Outcome State) → value (kept_in q) ≡ shown o → and_then o (λ y. run 32 (drop (i + 1) text) y) ≡ parse 32 text
            → Keeps 32 (λ s. spell_state x (b ∷ s)) o → Turns (types_at x) (offset_at x) i o → Reached text w₀ left q n (i + 1)
        go (absent r) s g k a = let z : ◌≡◌ {A = ℕ} 0 1 = cc in absurd (omega arith)
        go (refused u) s g k a = let z : ◌≡◌ {A = ℕ} 0 1 = cc in absurd (omega arith)
        go (value y) s g k a =
            let all = turned a in
            record {
              state = y;
              within = omega arith;
              shows = shows;
              goes = g;
              good = k.0;
              place = ap length (k.1 []) ∙ length_state x b ∙ ap (λ (n : ℕ). n + 1) z.place;
              types_is = all.0;
              words = all.1;
              same = t.same ∙ z.same;
            }
          where
            shows : kept_in q ≡ show y
            shows = cc

            start_is : q.start ≡ size (types_at y)
            start_is = (parts q y shows).0

            start_was : p.start ≡ size (types_at x)
            start_was = (parts p x z.shows).0

            turned : (types_at y ≡ types_at x) ⊎ Adds (types_at x) (offset_at x) i (types_at y)
                → (n ≡ count (types_at y)) × (4 * count (types_at y) ≤ length w₀ → left ≡ filled (types_at y) w₀)
            turned (inl e) =
                let on = t.on (start_is ∙ ap size e ∙ sym start_was) in (
                  on.1 ∙ z.types_is ∙ sym (ap count e),
                  λ h. on.0 ∙ z.words (omega (arith, ap count e)) ∙ ap (λ (ts : Types). filled ts w₀) (sym e),
                )
            turned (inr a) =
                let begins = t.begins (λ e. absurd (omega (arith, e, start_is, start_was, a.2))) in
                (omega (arith, begins.1, z.types_is, a.0), λ h. put_words (types_at y) a begins.0 h)

    pub reached_on : (q : Parser) → value (kept_in q) ≡ step_as p.mode p b i → q.start ≡ p.start
        → Reached text w₀ w q types (i + 1)
    reached_on q e s =
        reached_next q e (record { on = λ t. (refl, refl); begins = λ n. absurd (n s); same = refl })

    pub reached_begun : (q : Parser) {left : List ℕ} → value (kept_in q) ≡ step_as p.mode p b i → (q.start ≡ p.start → ⊥)
        → RowPut types p.start (offset_of p.mode) i w left → Reached text w₀ left q (types + 1) (i + 1)
    reached_begun q e s r =
        reached_next q e (record { on = λ t. absurd (s t); begins = λ n. (r, refl); same = r.same })

    pub reached_missing : (m : Missing) → missed m ≡ step_as p.mode p b i → Read text w₀ (missed m) w
    reached_missing m e =
        record {
          counts = ends;
          holds = λ ts q h. absurd (missing_value m (count ts) (ends ∙ ap counted_types q));
          same = z.same;
        }
      where
        ends : missed m ≡ counted_types (parse 32 text)
        ends =
            missing_then m next_state show (λ y. counted_types (run 32 (drop (i + 1) text) y)) (e ∙ steps_as)
            ∙ assoc next_state ∙ ap counted_types goes_on
          where
            assoc : (o : Outcome State)
                → and_then o (λ y. counted_types (run 32 (drop (i + 1) text) y)) ≡ counted_types (and_then o (λ y. run 32 (drop (i + 1) text) y))
            assoc (value y) = refl
            assoc (absent r) = refl
            assoc (refused k) = refl

  -- ---- The end of the text

  module _ (h : length text ≤ i) where
    finishes : finish x ≡ parse 32 text
    unfolding run
    finishes = ap (λ (l : List ℕ). run 32 l x) (sym (drop_of_length-le text h)) ∙ z.goes

    finishes_as : finish_as p.mode p ≡ ended_types (parse 32 text)
    finishes_as = ap finish_kept z.shows ∙ sym (finish_shows x) ∙ ap ended_types finishes

    pub reached_end : {left : List ℕ} → value tt ≡ finish_as p.mode p → RowPut types p.start (offset_of p.mode) i w left
        → Read text w₀ (value (types + 1)) left
    reached_end {left} e r =
        record {
          counts = go (parse 32 text) finishes (e ∙ finishes_as);
          holds = λ ts q. put_words ts (finish_adds x z.good i ts z.place (finishes ∙ q)) r;
          same = r.same ∙ z.same;
        }
      where
        go : (o : Outcome Types) → finish x ≡ o → value tt ≡ ended_types o → value (types + 1) ≡ counted_types o
        go (value us) f q =
            let a = finish_adds x z.good i us z.place f in
            ap (λ (n : ℕ). value n) (omega (arith, z.types_is, a.0))
        go (absent r) f q = let z : ◌≡◌ {A = ℕ} 0 1 = cc in absurd (omega arith)
        go (refused k) f q = let z : ◌≡◌ {A = ℕ} 0 1 = cc in absurd (omega arith)

    pub reached_end_missing : (m : Missing) → missed m ≡ finish_as p.mode p → Read text w₀ (missed m) w
    reached_end_missing m e =
        record {
          counts = ends;
          holds = λ ts q h. absurd (missing_value m (count ts) (ends ∙ ap counted_types q));
          same = z.same;
        }
      where
        ends : missed m ≡ counted_types (parse 32 text)
        ends = missing_then m (parse 32 text) (λ ts. tt) (λ ts. value (count ts)) (e ∙ finishes_as)
