-- The passes over the rows: what each knows of the rows ahead, carried over a step.
use Prim.Native.Nat.{ℕ, zero, suc, ◌+◌, ◌*◌, ◌/◌, ◌<◌, ◌≤◌}
use mathlib.Core.Path.{◌≡◌, refl, ap, sym, subst, ◌∙◌}
use mathlib.Core.Bool.{Bool, true, false, ◌&&◌, ◌||◌, not}
use mathlib.Core.List.{List, [], ◌∷◌, ◌++◌}
use native.Mathlib.Omega.{arith}
use lib.Dec.{leb, ltb}
use lib.ListN.{length, drop, take}
use borrow.Author.Tests.{le-leb, lt-leb, leb-true}
use Rattle.reads.specs.Outcome.{value, choose}
use Rattle.reads.proofs.Tests.{le_same, choose_true, choose_false}
use Rattle.pointers.specs.Tables.{Tables}
use Rattle.dispatch.specs.declared.rows.Appearance.{Appearance}
use Rattle.dispatch.specs.declared.effective.Counted.{Counted}
use Rattle.dispatch.specs.declared.effective.Counted.TheVariants as counted
use Rattle.std.specs.Prelude.{Option, None, Some, Result, Ok, Err, cond, filter}
use Rattle.reads.specs.declared.answer.Question.{Question}
use Rattle.std.specs.List.{list_any, prefix_len, slice_get}
use Rattle.std.specs.Option.{MatchOption, is_some, is_none, option_map, unwrap_or}
use Rattle.dispatch.specs.declared.rows.RowsOf.{RowsOf}
use Rattle.dispatch.specs.RowsLeft.{rows_ahead, GivesNext}
use Rattle.reads.specs.declared.answer.Question.{Question}
use Rattle.dispatch.specs.Appearances.{Rows, ended}
use Rattle.dispatch.specs.Dispatch.{same_selector, comes_before, has_earlier, firsts, standing_for, effective_of, words, filled}
use Rattle.dispatch.specs.Claims.{In, bytes_of, Ordered, ordered_next}
use Rattle.dispatch.specs.Table.{marks, note, note_all, Holds, Noted, Origins, Named}
use Rattle.dispatch.specs.Written.{few_rows, few_firsts, Surveyed, CountedAll, Tabled, WroteAll}
use Rattle.dispatch.proofs.Effects.{none_earlier, selectors_stand}
use Rattle.dispatch.proofs.Places.{in_cons, before_true, before_false, before_false_made}
use Rattle.dispatch.proofs.Notes.{note_effective}

pub or_here : (x y : Bool) {e : Bool} → x ≡ true → (x || y) ≡ e → true ≡ e
or_here x y g h = rw g at h

pub or_next : (x y : Bool) {e : Bool} → x ≡ false → (x || y) ≡ e → y ≡ e
or_next x y g h = rw g at h

-- Past a's place no row stands before it.
past_place : (files : List (List ℕ)) (a b : Appearance) (more : List Appearance) → Ordered more → ((x : Appearance) → In x more → comes_before b x ≡ true) → comes_before b a ≡ false
    → has_earlier files a (b ∷ more) ≡ false
past_place files a b more o f h =
    none_earlier files a (b ∷ more)
    (in_cons (λ x. bytes_of files a ≡ bytes_of files x → comes_before x a ≡ false) (λ _. h)
    (λ x m _.
    let u = before_false b a h in
    let v = before_true b x (f x m) in
    before_false_made x a (omega (arith, u.0, v.0)) (λ q.
    let w : b.source ≡ a.source = omega (arith, u.0, v.0) in
    omega (arith, u.1 w, v.1 (w ∙ sym q)))))

module _ (files : List (List ℕ)) (all : List Appearance) (a : Appearance) (more : List Appearance) where
  first_seen : has_earlier files a all ≡ true → firsts files all (a ∷ more) ≡ firsts files all more
  unfolding firsts
  first_seen e = choose_true _ _ e

  first_new : has_earlier files a all ≡ false → firsts files all (a ∷ more) ≡ a ∷ firsts files all more
  unfolding firsts
  first_new e = choose_false _ _ e

pub length_standing : (files : List (List ℕ)) (all rows : List Appearance) → length (standing_for files all rows) ≡ length rows
unfolding standing_for
length_standing files all [] = refl
length_standing files all (a ∷ more) = ap suc (length_standing files all more)

pub length_effective : (files : List (List ℕ)) (rows : List Appearance) → length (effective_of files rows) ≡ length (firsts files rows rows)
unfolding effective_of
length_effective files rows = length_standing files rows (firsts files rows rows)

pub firsts_few : (files : List (List ℕ)) (all rows : List Appearance) → length (firsts files all rows) ≤ length rows
unfolding firsts choose
firsts_few files all [] = omega arith
firsts_few files all (a ∷ more) = go (has_earlier files a all) (firsts_few files all more)
  where
    go : (t : Bool) → length (firsts files all more) ≤ length more → length (choose t (firsts files all more) (a ∷ firsts files all more)) ≤ suc (length more)
    go true h = omega arith
    go false h = omega arith

-- 22 by a count.
module _ (files : List (List ℕ)) (rows : List Appearance) (room : ℕ) {c : Counted} (w : CountedAll files rows c) where
  pub fit_by_all : {n : ℕ} → c ≡ counted.All n → leb n room ≡ few_firsts files rows rows room
  unfolding few_firsts
  fit_by_all {n} e = let v = subst (λ (x : Counted). CountedAll files rows x) e w in ap (λ (i : ℕ). leb i room) v.counts

  pub fit_by_least : {n : ℕ} → c ≡ counted.AtLeast n → room < n → false ≡ few_firsts files rows rows room
  unfolding few_firsts
  fit_by_least {n} e l = let v = subst (λ (x : Counted). CountedAll files rows x) e w in sym (lt-leb (length (firsts files rows rows)) room (omega (arith, v.counts)))

pub rows_suffice : (files : List (List ℕ)) (rows : List Appearance) (room : ℕ) {y : Bool} → y ≡ few_rows rows room → y ≡ true → true ≡ few_firsts files rows rows room
unfolding few_rows few_firsts
rows_suffice files rows room e g =
    let l = leb-true (length rows) room (sym e ∙ g) in sym (le-leb (length (firsts files rows rows)) room (omega (arith, firsts_few files rows rows)))

note_longer : (files : List (List ℕ)) (b : Appearance) (table : List Appearance) → length table ≤ length (note files b table)
unfolding note choose
note_longer files b [] = omega arith
note_longer files b (a ∷ more) = go (same_selector files a.selector b.selector) (note_longer files b more)
  where
    go : (t : Bool) → length more ≤ length (note files b more) → suc (length more) ≤ length (choose t (choose (ltb a.source b.source) b a ∷ more) (a ∷ note files b more))
    go true h = omega arith
    go false h = omega arith

note_few : (files : List (List ℕ)) (b : Appearance) (table : List Appearance) → length (note files b table) ≤ suc (length table)
unfolding note choose
note_few files b [] = omega arith
note_few files b (a ∷ more) = go (same_selector files a.selector b.selector) (note_few files b more)
  where
    go : (t : Bool) → length (note files b more) ≤ suc (length more)
        → length (choose t (choose (ltb a.source b.source) b a ∷ more) (a ∷ note files b more)) ≤ suc (suc (length more))
    go true h = omega arith
    go false h = omega arith

noted_longer : (files : List (List ℕ)) (table rows : List Appearance) → length table ≤ length (note_all files table rows)
unfolding note_all
noted_longer files table [] = omega arith
noted_longer files table (b ∷ rows) = omega (arith, note_longer files b table, noted_longer files (note files b table) rows)

-- A pass that notes rows stands before some rows: with them noted, the table is that of all.
pub record Noting (files : List (List ℕ)) (all : List Appearance) (old : List ℕ) (rows : List Appearance) (count : ℕ) (result : List ℕ) : Type 0 where
  pub table : List Appearance
  pub holds : Holds old table count result
  pub rest : note_all files table rows ≡ effective_of files all
  pub same : length result ≡ length old

module _ (files : List (List ℕ)) (all : List Appearance) (old : List ℕ) where
  pub noting_start : Ordered all → {rows : List Appearance} → rows ≡ all → Noting files all old rows 0 old
  unfolding marks
  noting_start o e =
      subst (λ l. Noting files all old l 0 old) (sym e) (record { table = []; holds = record { stored = refl; many = refl }; rest = note_effective files all o; same = refl })

  pub noting_all : {rows : List Appearance} {count : ℕ} {result : List ℕ} → Noting files all old rows count result → rows ≡ [] → Noting files all old [] count result
  noting_all {rows} {count} {result} w e = subst (λ l. Noting files all old l count result) e w

  module _ (room : 4 * length (firsts files all all) ≤ length old) {rows : List Appearance} {count : ℕ} {result : List ℕ} (w : Noting files all old rows count result) where
    pub noting_room : 4 * count ≤ length result
    noting_room =
        omega (arith, w.holds.many, w.same, noted_longer files w.table rows, ap (λ (l : List Appearance). length l) w.rest, length_effective files all)

  -- A count of the selectors, when all rows are noted and when no more can be.
  pub counting_all : {count : ℕ} {result : List ℕ} → Noting files all old [] count result → CountedAll files all (counted.All count)
  unfolding note_all
  counting_all w = record { counts = sym w.holds.many ∙ ap (λ (l : List Appearance). length l) w.rest ∙ length_effective files all }

  pub counting_least : {rows : List Appearance} {count : ℕ} {result : List ℕ} → Noting files all old rows count result → CountedAll files all (counted.AtLeast count)
  counting_least {rows} w = record {
    counts = omega (arith, w.holds.many, noted_longer files w.table rows, ap (λ (l : List Appearance). length l) w.rest, length_effective files all);
  }

  pub noting_end : 4 * length (firsts files all all) ≤ length old → {count : ℕ} {result : List ℕ} → Noting files all old [] count result → Tabled files all old count result
  unfolding note_all
  noting_end room {count} {result} w = record { holds = subst (λ (l : List Appearance). Holds old l count result) w.rest w.holds; fits = noting_room room w; same = w.same }

  pub wrote_all : {own : ℕ} {t : Tables} {count : ℕ} {result after : List ℕ} → Ordered all → Origins own t all → Tabled files all old count result
      → Named own t result count after → WroteAll files all old count after
  unfolding filled
  wrote_all {own} {t} {count} {result} {after} o f tabled w =
      let many : length (effective_of files all) ≡ count = tabled.holds.many in
      record {
        counted = sym many ∙ length_effective files all;
        contents = w.named old (effective_of files all) tabled.holds (λ a m. f a (selectors_stand files all o a m).listed)
            ∙ ap (λ (i : ℕ). words (effective_of files all) ++ drop (4 * i) old) (sym many);
      }

-- A row with a's selector among those that stand before it.
pub earlier_found : (files : List (List ℕ)) (a : Appearance) (rows : List Appearance) → Ordered rows
    → list_any (λ b. same_selector files a.selector b.selector) (take (prefix_len (λ b. comes_before b a) rows) rows) ≡ has_earlier files a rows
unfolding has_earlier
earlier_found files a [] o = refl
earlier_found files a (b ∷ more) (ordered_next f o) = go (comes_before b a) refl (earlier_found files a more o)
  where
    test : Appearance → Bool
    test x = same_selector files a.selector x.selector

    go : (x : Bool) → comes_before b a ≡ x → list_any test (take (prefix_len (λ y. comes_before y a) more) more) ≡ has_earlier files a more
        → list_any test (take (cond x (1 + prefix_len (λ y. comes_before y a) more) 0) (b ∷ more)) ≡ (x && test b) || has_earlier files a more
    go true e h =
        let n = prefix_len (λ y. comes_before y a) more in
        let next : 1 + n ≡ suc n = omega arith in
        ap (λ i. list_any test (take i (b ∷ more))) next ∙ ap (λ y. test b || y) h
    go false e h = sym (past_place files a b more o f e) ∙ unfold has_earlier in ap (λ x. (x && test b) || has_earlier files a more) e

-- Question 22: no row beyond the room is the first of its selector.
pub firsts_filter : (files : List (List ℕ)) (all rows : List Appearance) → filter (λ a. not (has_earlier files a all)) rows ≡ firsts files all rows
unfolding firsts choose
firsts_filter files all [] = refl
firsts_filter files all (a ∷ more) = go (has_earlier files a all) (firsts_filter files all more)
  where
    go : (x : Bool) → filter (λ a. not (has_earlier files a all)) more ≡ firsts files all more
        → cond (not x) (a ∷ filter (λ a. not (has_earlier files a all)) more) (filter (λ a. not (has_earlier files a all)) more) ≡ choose x (firsts files all more) (a ∷ firsts files all more)
    go true e = e
    go false e = ap (λ l. a ∷ l) e

none-some : {A X : Type 0} {a : A} → ◌≡◌ {A = Option A} None (Some a) → X
none-some e = let z : ◌≡◌ {A = ℕ} 0 1 = ap (λ o. cond (is_some o) 1 0) e in absurd (omega arith)

none_beyond : {A : Type 0} (rows : List A) (room : ℕ) → is_none (slice_get rows room) ≡ leb (length rows) room
none_beyond [] room = sym (le-leb 0 room (omega arith))
none_beyond (a ∷ more) zero = sym (lt-leb (suc (length more)) 0 (omega arith))
none_beyond (a ∷ more) (suc room) =
    none_beyond more room ∙ le_same (length more) room (suc (length more)) (suc room) (λ h. omega arith) (λ h. omega arith)

pub none_fit : (files : List (List ℕ)) (all : List Appearance) (room : ℕ) (r : Option Appearance)
    → option_map (λ a. a) r ≡ slice_get (filter (λ a. not (has_earlier files a all)) all) room → {b : Bool} → is_some r ≡ not b → b ≡ few_firsts files all all room
unfolding few_firsts
none_fit files all room r e {b} n =
    sym (not-not b) ∙ ap not (sym n) ∙ is_same r ∙ ap is_none e ∙ none_beyond (filter (λ a. not (has_earlier files a all)) all) room
    ∙ ap (λ l. leb (length l) room) (firsts_filter files all all)
  where
    not-not : (x : Bool) → not (not x) ≡ x
    not-not true = refl
    not-not false = refl

    is_same : (x : Option Appearance) → not (is_some x) ≡ is_none (option_map (λ a. a) x)
    is_same (Some a) = refl
    is_same None = refl

-- The rows counted, up to the end: as many are left as there is room for, none once there were more.
pub record Ending (rs : Rows) (room : ℕ) (here : Rows) (left : Option ℕ) : Type 0 where
  pub end : here.end ≡ rs.end
  pub few : (n : ℕ) → left ≡ Some n → few_rows here.rows n ≡ few_rows rs.rows room

module _ {rs : Rows} {room : ℕ} where
  pub ending_start : {here : Rows} → here ≡ rs → Ending rs room here (Some room)
  ending_start {here} e =
      subst (λ (l : Rows). Ending rs room l (Some room)) (sym e) (record { end = refl; few = λ n q. ap (λ o. few_rows rs.rows (unwrap_or o 0)) (sym q) })

module _ {rs : Rows} {room : ℕ} (w : RowsOf) {left : Option ℕ} (h : Ending rs room (rows_ahead w) left) where
  module _ (x : RowsOf) {o : Result Appearance Question} (g : GivesNext w (Some o) x) where
    gives : {r : Result Appearance Question} → o ≡ r → GivesNext w (Some r) x
    gives e = subst (λ (r : Result Appearance Question). GivesNext w (Some r) x) e g

    pub ending_row : {a : Appearance} → o ≡ Ok a → {P : ℕ → Type 0} {next : Option ℕ} → MatchOption left (next ≡ None) P → ((n : ℕ) → P n → (m : ℕ) → next ≡ Some m → n ≡ suc m)
        → Ending rs room (rows_ahead x) next
    unfolding few_rows
    ending_row {a} e {P} {next} m f = record {
      end = ap (λ (l : Rows). l.end) (sym (gives e)) ∙ h.end;
      few = λ n q.
          let i = length (rows_ahead x).rows in
          le_same i n (suc i) (suc n) (λ l. omega arith) (λ l. omega arith) ∙ ap (λ (l : Rows). leb (length l.rows) (suc n)) (sym (gives e)) ∙ h.few (suc n) (go left m n q);
    }
      where
        go : (o : Option ℕ) → MatchOption o (next ≡ None) P → (n : ℕ) → next ≡ Some n → o ≡ Some (suc n)
        go (Some i) p n q = ap Some (f i p n q)
        go None p n q = absurd (none-some (sym p ∙ q))

    pub ending_refused : {k : Question} → o ≡ Err k → Surveyed rs room (Err k)
    ending_refused e = record { found = sym h.end ∙ ap (λ (l : Rows). l.end) (gives e).0 }

  pub ending_end : rows_ahead w ≡ ended → {b : Bool} → b ≡ is_some left → Surveyed rs room (Ok b)
  unfolding few_rows
  ending_end e {b} g = rw g (go left (λ n q. sym (h.few n q) ∙ ap (λ (l : Rows). leb (length l.rows) n) e ∙ le-leb 0 n (omega arith)))
    where
      at_end : rs.end ≡ value tt
      at_end = sym h.end ∙ ap (λ (l : Rows). l.end) e

      go : (o : Option ℕ) → ((n : ℕ) → o ≡ Some n → few_rows rs.rows room ≡ true) → Surveyed rs room (Ok (is_some o))
      go (Some n) f = record { found = (at_end, f n refl) }
      go None f = record { found = at_end }

-- The pass that notes rows.
module _ (files : List (List ℕ)) (all : List Appearance) (old : List ℕ) {rows : List Appearance} {count : ℕ} {result : List ℕ} (w : Noting files all old rows count result)
    {b : Appearance} {more : List Appearance} (g : rows ≡ b ∷ more) where
  here : Noting files all old (b ∷ more) count result
  here = subst (λ (l : List Appearance). Noting files all old l count result) g w

  pub noting_row : 4 * length (firsts files all all) ≤ length old → {n : ℕ} {after : List ℕ} → Noted files result count b n after → Noting files all old more n after
  unfolding note_all
  noting_row room d =
      let v = here in
      record {
        table = note files b v.table;
        holds = d.holds old v.table v.holds
            (omega (arith, noted_longer files (note files b v.table) more, ap (λ (l : List Appearance). length l) v.rest, length_effective files all))
            v.same;
        rest = v.rest;
        same = d.same ∙ v.same;
      }

  pub counting_row : count < length result / 4 → {n : ℕ} {after : List ℕ} → Noted files result count b n after → Noting files all old more n after
  unfolding note_all
  counting_row l d =
      let v = here in
      record {
        table = note files b v.table;
        holds = d.holds old v.table v.holds (omega (arith, note_few files b v.table, v.holds.many, v.same)) v.same;
        rest = v.rest;
        same = d.same ∙ v.same;
      }
