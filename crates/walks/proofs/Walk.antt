-- Demand 3 for the steps over one list. Over what opening accepted, the steps from the start on answer with each readable entry once, in order,
-- and then that they have finished (walk_meets_each_readable_once). Over any list of loans they answer as the plain walk does (whole_claim);
-- those that are not refused settle exactly the readable entries (settles_each_once); and there are at most S x floor(n / 12) of them
-- (settled_bound).
use Prim.Native.Nat.{ℕ, zero, suc, ◌+◌, ◌*◌, ◌/◌, ◌≤◌}
use mathlib.Core.Path.{◌≡◌, refl, sym, ap, ◌∙◌}
use mathlib.Core.Bool.{Bool, true, false}
use mathlib.Core.List.{List, [], ◌∷◌, ◌++◌, map}
use native.Mathlib.Omega.{arith}
use lib.Dec.{leb}
use lib.ListN.{length, replicate}
use borrow.Author.Tests.{le-leb}
use Rattle.reads.specs.Outcome.{Outcome, value, absent, refused, Unrefused, a_value, an_absence, and_then}
use Rattle.reads.specs.Files.{longest}
use Rattle.reads.specs.Segment.{segment_words}
use Rattle.reads.specs.Table.{records}
use Rattle.reads.specs.declared.answer.Reason.{Reason}
use Rattle.pointers.specs.Open.{Opened}
use Rattle.pointers.specs.Question.{question, asked}
use Rattle.pointers.specs.Tables.{Tables, image_in, under}
use Rattle.pointers.proofs.OpenedTables.{opened_asked}
use Rattle.pointers.proofs.Questions.{question_yes, question_no}
use Rattle.records.specs.List.{list_at, entry_address}
use Rattle.records.specs.Search.{first_readable, readables}
use Rattle.records.specs.Row.{row_at}
use Rattle.walks.specs.Handed.{unless_refused, hands_back, over_list, from_cursor, answers_of}
use Rattle.walks.specs.Walk.{walk_of, ReachedRow, rows_finished, RowLeft, entry_row, settles, searched, over_rows, next_under, next_of}
use Rattle.walks.specs.PlainWalk.{Told, told, count_of, refused_by, row_refusal, refusal_from, refusal, settling, go_on, left_from, plain_over, plain_step, plain_walk, steps, shown, shown_all, Loans, loans_end, loan_opened, loan_refused, handed_out}
use Rattle.records.specs.declared.list.Layout.{Layout}
use Rattle.records.specs.declared.list.ListKind.{ListKind}
use Rattle.records.specs.declared.row.Row.{Row}
use Rattle.walks.specs.declared.list_walk.ListWalk.{ListWalk}
use Rattle.records.proofs.Headers.{list_least, list_unrefused}
use Rattle.records.proofs.Readables.{found_below_count, rest_of_some, rest_of_none, rest_from_0, rest_from_count, readables_few}
use Rattle.records.proofs.Decodes.{row_unrefused}
use Rattle.reads.specs.declared.answer.Question.{Question}
use Rattle.reads.specs.declared.answer.Question.TheVariants.{WalkState}
use Rattle.std.specs.Prelude.{Option, None, Some}

number_same : (a b : Question) → ◌≡◌ {A = Outcome (Unit {0})} (refused a) (refused b) → a ≡ b
number_same a b e = cc

no_number : {A : Type 0} (a : A) (q : Question) → ◌≡◌ {A = Outcome A} (value a) (refused q) → ⊥
no_number a q e = let z : ◌≡◌ {A = ℕ} 0 1 = cc in omega arith

not_absent : {A : Type 0} (r : Reason) (q : Question) → ◌≡◌ {A = Outcome A} (absent r) (refused q) → ⊥
not_absent r q e = let z : ◌≡◌ {A = ℕ} 0 1 = cc in omega arith

-- The number of an outcome, if it is one.
refused_in : {A : Type 0} (o : Outcome A) (q : Question) → refused_by o ≡ refused q → o ≡ refused q
refused_in (value a) q e = absurd (no_number tt q e)
refused_in (absent r) q e = absurd (no_number tt q e)
refused_in (refused n) q e = ap refused (number_same n q e)

unrefused_in : {A : Type 0} {o : Outcome A} → Unrefused o → refused_by o ≡ value tt
unrefused_in (a_value a) = refl
unrefused_in (an_absence r) = refl

-- A step that a question refuses gives its number, and the walk as given.
module _ (t : Tables) (k : ListKind) (list p : ℕ) (q : Question) where
  abbrev standing : ListWalk
  standing = walk_of t.setting list k p

  -- A lookup of the row that is reached refuses.
  of_search : (h : Layout) (o : Option ℕ) → row_refusal t h o ≡ refused q → searched t standing h o ≡ hands_back standing q
  of_search h (Some j) e = rw (refused_in (row_at t h.kind (entry_address h j)) q e)
  of_search h None e = absurd (no_number tt q e)

  of_list : {o : Outcome Layout} → Unrefused o → refusal_from t o p ≡ refused q
      → over_list standing (λ h. searched t standing h (first_readable (image_in t) h p)) o ≡ hands_back standing q
  of_list (a_value h) e = of_search h (first_readable (image_in t) h p) e
  of_list (an_absence r) e = absurd (no_number tt q e)

  -- Question 10, and then that lookup.
  of_cursor : (o : Outcome Layout) → Unrefused o → (b : Bool) → leb p (count_of o) ≡ b
      → and_then (question WalkState (leb p (count_of o))) (λ _. refusal_from t o p) ≡ refused q → over_rows t standing o ≡ hands_back standing q
  unfolding over_rows from_cursor
  of_cursor o u true l e =
      let yes = question_yes WalkState (leb p (count_of o)) l in
      rw yes (of_list u (rw yes at e))
  of_cursor o u false l e =
      let no = question_no WalkState (leb p (count_of o)) l in
      rw no (ap (hands_back standing) (number_same WalkState q (rw no at e)))

  of_asked : (o : Outcome (Unit {0}))
      → and_then o (λ _. and_then (question WalkState (leb p (count_of (list_at t k list)))) (λ _. refusal_from t (list_at t k list) p)) ≡ refused q
      → unless_refused o (hands_back standing) (over_rows t standing (list_at t k list)) ≡ hands_back standing q
  of_asked (value u) e = of_cursor (list_at t k list) (list_unrefused t k list) (leb p (count_of (list_at t k list))) refl e
  of_asked (absent r) e = absurd (not_absent r q e)
  of_asked (refused n) e = ap (hands_back standing) (number_same n q e)

  pub refused_step : refusal t k list p ≡ refused q → next_under t standing ≡ hands_back standing q
  unfolding refusal next_under
  refused_step e = of_asked (asked t) e

-- Over opened tables no question refuses a position up to the count, and the step is the plain one.
module _ (t : Tables) (opened : Opened t) (k : ListKind) (list : ℕ) where
  row_unrefusing : (h : Layout) (o : Option ℕ) → row_refusal t h o ≡ value tt
  row_unrefusing h (Some j) = unrefused_in (row_unrefused t opened h.kind (entry_address h j))
  row_unrefusing h None = refl

  list_unrefusing : (p : ℕ) {o : Outcome Layout} → Unrefused o → refusal_from t o p ≡ value tt
  list_unrefusing p (a_value h) = row_unrefusing h (first_readable (image_in t) h p)
  list_unrefusing p (an_absence r) = refl

  pub opened_unrefused : (p : ℕ) → p ≤ count_of (list_at t k list) → refusal t k list p ≡ value tt
  unfolding refusal
  opened_unrefused p l =
      rw (opened_asked t opened, question_yes WalkState (leb p (count_of (list_at t k list))) (le-leb p (count_of (list_at t k list)) l)) (list_unrefusing p (list_unrefused t k list))

  row_settles : (p j : ℕ) {o : Outcome Row} → Unrefused o → settles (walk_of t.setting list k p) j o ≡ shown t.setting k list (settling j o)
  row_settles p j (a_value r) = refl
  row_settles p j (an_absence r) = refl

  search_step : (p : ℕ) (h : Layout) (o : Option ℕ) → first_readable (image_in t) h p ≡ o
      → searched t (walk_of t.setting list k p) h o ≡ shown t.setting k list (go_on t h (left_from t h p))
  search_step p h (Some j) e =
      rw (rest_of_some (image_in t) h p j e) (row_settles p j (row_unrefused t opened h.kind (entry_address h j)))
  search_step p h None e = rw (rest_of_none (image_in t) h p e)

  list_step : (p : ℕ) {o : Outcome Layout} → Unrefused o → p ≤ count_of o → over_rows t (walk_of t.setting list k p) o ≡ shown t.setting k list (plain_over t p o)
  unfolding over_rows from_cursor
  list_step p (a_value h) l = rw (question_yes WalkState _ (le-leb p h.count l)) (search_step p h (first_readable (image_in t) h p) refl)
  list_step p (an_absence r) l = rw (question_yes WalkState _ (le-leb p 0 l))

  pub opened_step : (p : ℕ) → p ≤ count_of (list_at t k list) → next_of t (walk_of t.setting list k p) ≡ shown t.setting k list (plain_step t k list t p)
  unfolding next_under plain_step
  opened_step p l = rw (opened_asked t opened, opened_unrefused p l) (list_step p (list_unrefused t k list) l)

  go_on_stands : (p : ℕ) (h : Layout) (o : Option ℕ) → first_readable (image_in t) h p ≡ o → (go_on t h (left_from t h p)).position ≤ h.count
  go_on_stands p h (Some j) e =
      rw (rest_of_some (image_in t) h p j e) (found_below_count (image_in t) h p j e)
  go_on_stands p h None e = rw (rest_of_none (image_in t) h p e) (omega arith)

  over_stands : (p : ℕ) {o : Outcome Layout} → Unrefused o → p ≤ count_of o → (plain_over t p o).position ≤ count_of o
  over_stands p (a_value h) l = go_on_stands p h (first_readable (image_in t) h p) refl
  over_stands p (an_absence r) l = l

  -- The walk never stands past the count.
  stands : (p : ℕ) → p ≤ count_of (list_at t k list) → (plain_step t k list t p).position ≤ count_of (list_at t k list)
  unfolding plain_step
  stands p l = rw (opened_unrefused p l) (over_stands p (list_unrefused t k list) l)

  -- A loan that is the opened tables, under their setting.
  module _ (lent : Tables) (e : under t.setting lent ≡ t) (p : ℕ) where
    same_refusal : refusal (under t.setting lent) k list p ≡ refusal t k list p
    same_refusal = ap (λ (x : Tables). refusal x k list p) e

    same_next : next_of lent (walk_of t.setting list k p) ≡ next_of t (walk_of t.setting list k p)
    same_next = ap (λ (x : Tables). next_under x (walk_of t.setting list k p)) e

    same_plain : plain_step t k list lent p ≡ plain_step t k list t p
    unfolding plain_step
    same_plain = rw same_refusal

  refused_plain : (lent : Tables) (p : ℕ) (q : Question) → refusal (under t.setting lent) k list p ≡ refused q → plain_step t k list lent p ≡ told (refused q) p
  unfolding plain_step
  refused_plain lent p q e = rw e

  steps_from : (loans : List Tables) (p : ℕ) → Loans t k list loans p → p ≤ count_of (list_at t k list)
      → steps loans (walk_of t.setting list k p) ≡ shown_all t.setting k list (plain_walk t k list loans p)
  unfolding steps plain_walk
  steps_from [] p loans_end l = refl
  steps_from (lent ∷ loans) p (loan_opened same r) l =
      rw (same_next lent same p, same_plain lent same p, opened_step p l) (ap (λ (more : List RowLeft). shown t.setting k list (plain_step t k list t p) ∷ more) (steps_from loans (plain_step t k list t p).position r (stands p l)))
  steps_from (lent ∷ loans) p (loan_refused q e r) l =
      rw (refused_step (under t.setting lent) k list p q e, refused_plain lent p q e)
      (ap (λ (more : List RowLeft). shown t.setting k list (told (refused q) p) ∷ more) (steps_from loans p r l))

  -- D3b, the whole claim. `opened`: the tables are what opening accepted, with the index as opening left it. The run: each loan is these
  -- tables under their setting, or is refused there, where the walk stands, by a question that the step asks. Then every answer, with its whole row or the index that
  -- it skipped and why or the number, and every cursor are the plain walk's.
  pub whole_claim : (loans : List Tables) → Loans t k list loans 0 → steps loans (walk_of t.setting list k 0) ≡ shown_all t.setting k list (plain_walk t k list loans 0)
  whole_claim loans r = steps_from loans 0 r (omega arith)

  -- Over an absent list every step says so, and why.
  pub walk_of_absent_list : (r : Reason) → list_at t k list ≡ absent r → (n : ℕ) → answers_of (next_of t) n (walk_of t.setting list k 0) ≡ replicate n (absent r)
  unfolding answers_of plain_step
  walk_of_absent_list r e zero = refl
  walk_of_absent_list r e (suc n) =
      let none : 0 ≤ count_of (list_at t k list) = omega arith in
      let next : next_of t (walk_of t.setting list k 0) ≡ shown t.setting k list (told (absent r) 0) = opened_step 0 none ∙ rw (opened_unrefused 0 none, e) in
      rw next (ap (λ (rest : List (Outcome ReachedRow)). absent r ∷ rest) (walk_of_absent_list r e n))

  -- The list is there, with the layout h.
  module _ (h : Layout) (there : list_at t k list ≡ value h) where
    pub within_count : (p : ℕ) → p ≤ h.count → p ≤ count_of (list_at t k list)
    within_count p l = rw there l

    pub step_value : (p j : ℕ) → p ≤ h.count → first_readable (image_in t) h p ≡ Some j → plain_step t k list t p ≡ settling j (row_at t h.kind (entry_address h j))
    unfolding plain_step
    step_value p j l e = rw (opened_unrefused p (within_count p l), there, rest_of_some (image_in t) h p j e)

    pub step_finished : (p : ℕ) → p ≤ h.count → first_readable (image_in t) h p ≡ None → plain_step t k list t p ≡ told (value rows_finished) h.count
    unfolding plain_step
    step_finished p l e = rw (opened_unrefused p (within_count p l), there, rest_of_none (image_in t) h p e)

    -- One step over the opened tables takes the first entry that is left.
    one_taken : (loans : List Tables) (p : ℕ) → p ≤ h.count → (o : Option ℕ) → first_readable (image_in t) h p ≡ o
        → (plain_walk t k list loans (plain_step t k list t p).position
        ≡ handed_out t k list h loans (left_from t h (plain_step t k list t p).position) (plain_step t k list t p).position)
        → plain_walk t k list (t ∷ loans) p ≡ handed_out t k list h (t ∷ loans) (left_from t h p) p
    unfolding plain_walk handed_out
    one_taken loans p l (Some j) e ih =
        rw (opened_unrefused p (within_count p l), rest_of_some (image_in t) h p j e)
        (rw (step_value p j l e) (ap (λ (more : List Told). settling j (row_at t h.kind (entry_address h j)) ∷ more) (rw (step_value p j l e) at ih)))
    one_taken loans p l None e ih =
        rw (opened_unrefused p (within_count p l), rest_of_none (image_in t) h p e)
        (rw (step_finished p l e) (ap (λ (more : List Told). told (value rows_finished) h.count ∷ more)
        (rw (step_finished p l e, rest_from_count (image_in t) h) at ih)))

    takes_from : (loans : List Tables) (p : ℕ) → Loans t k list loans p → p ≤ h.count → plain_walk t k list loans p ≡ handed_out t k list h loans (left_from t h p) p
    unfolding plain_walk handed_out
    takes_from [] p loans_end l = refl
    takes_from (lent ∷ loans) p (loan_opened same r) l =
        rw (same_plain lent same p, same_refusal lent same p)
        (one_taken loans p l (first_readable (image_in t) h p) refl
        (takes_from loans (plain_step t k list t p).position r (rw there at (stands p (within_count p l)))))
    takes_from (lent ∷ loans) p (loan_refused q e r) l =
        rw (e, refused_plain lent p q e) (ap (λ (more : List Told). told (refused q) p ∷ more) (takes_from loans p r l))

    -- D3c. Of such a run the steps that are not refused take the readable entries one by one, from the first to the last: none is missing and
    -- none is taken twice; after the last, and only then, each says finished, with the cursor at the count.
    pub settles_each_once : (loans : List Tables) → Loans t k list loans 0 → plain_walk t k list loans 0 ≡ handed_out t k list h loans (readables (image_in t) h) 0
    settles_each_once loans r = takes_from loans 0 r (omega arith) ∙ ap (λ (es : List ℕ). handed_out t k list h loans es 0) (sym (rest_from_0 (image_in t) h))

    -- What is left from p on tells what the search finds there.
    first_left : (p j : ℕ) (js : List ℕ) (o : Option ℕ) → first_readable (image_in t) h p ≡ o → left_from t h p ≡ j ∷ js
        → (first_readable (image_in t) h p ≡ Some j) × (left_from t h (suc j) ≡ js)
    first_left p j js (Some i) e f =
        let g = rest_of_some (image_in t) h p i e in
        let same : i ≡ j = cc in
        let rest : left_from t h (suc i) ≡ js = cc in
        (rw same at e, rw same at rest)
    first_left p j js None e f = let g = rest_of_none (image_in t) h p e in let z : ◌≡◌ {A = ℕ} 0 1 = cc in absurd (omega arith)

    none_left : (p : ℕ) (o : Option ℕ) → first_readable (image_in t) h p ≡ o → left_from t h p ≡ [] → first_readable (image_in t) h p ≡ None
    none_left p (Some i) e f = let g = rest_of_some (image_in t) h p i e in let z : ◌≡◌ {A = ℕ} 0 1 = cc in absurd (omega arith)
    none_left p None e f = e

    -- So the steps from p on answer with the entries that are left, and then with finished.
    abbrev Meets : ℕ → ℕ → List ℕ → Type 0
    Meets p n es =
        (m : ℕ) → m ≡ length es + n → answers_of (next_of t) m (walk_of t.setting list k p) ≡ map (entry_row t h) es ++ replicate n (value rows_finished)

    finished_from : (n p : ℕ) → p ≤ h.count → left_from t h p ≡ [] → answers_of (next_of t) n (walk_of t.setting list k p) ≡ replicate n (value rows_finished)
    unfolding answers_of
    finished_from zero p l e = refl
    finished_from (suc n) p l e =
        let next = opened_step p (within_count p l) ∙ ap (shown t.setting k list) (step_finished p l (none_left p (first_readable (image_in t) h p) refl e)) in
        rw next (ap (λ (rest : List (Outcome ReachedRow)). value rows_finished ∷ rest) (finished_from n h.count (omega arith) (rest_from_count (image_in t) h)))

    meets_from : (es : List ℕ) (p n : ℕ) → p ≤ h.count → left_from t h p ≡ es → Meets p n es
    unfolding answers_of
    meets_from [] p n l e = λ m f. let same : m ≡ n = omega arith in rw same (finished_from n p l e)
    meets_from (j ∷ js) p n l e = λ m f.
        let first = first_left p j js (first_readable (image_in t) h p) refl e in
        let next = opened_step p (within_count p l) ∙ ap (shown t.setting k list) (step_value p j l first.0) in
        let below = found_below_count (image_in t) h p j first.0 in
        let one : m ≡ suc (length js + n) = omega arith in
        rw (one, next)
        (ap (λ (rest : List (Outcome ReachedRow)). entry_row t h j ∷ rest) (meets_from js (suc j) n (omega arith) first.1 (length js + n) refl))

    -- D3b and D3c in one: over what opening accepted, the steps from the start on answer with each readable entry once, in order, by its row
    -- or as skipped with its index; and then, as often as one steps, that the walk has finished.
    pub walk_meets_each_readable_once : (n : ℕ)
        → answers_of (next_of t) (length (readables (image_in t) h) + n) (walk_of t.setting list k 0)
        ≡ map (entry_row t h) (readables (image_in t) h) ++ replicate n (value rows_finished)
    walk_meets_each_readable_once n = meets_from (readables (image_in t) h) 0 n (omega arith) (sym (rest_from_0 (image_in t) h)) _ refl

    -- D3d. There are at most S x floor(n / 12) of them: S the rows of the segment table, n the length of the longest file, in any order and overlap.
    pub settled_bound : length (readables (image_in t) h) ≤ records segment_words t.segments * (longest t.files / 12)
    settled_bound = readables_few (image_in t) h (list_least t k list h there)
