-- Rows put into a table one after the other: how many are counted, and what the table then holds.
use Rattle.std.proofs.Common.{◌≡◌, ℕ, suc, ◌+◌, ◌-◌, ◌*◌, ◌/◌, ◌^◌, ◌<◌, ◌≤◌, min, Bool, true, false, ltb, List, [], ◌∷◌, ◌++◌, length, set, sym, refl, ap, ◌∙◌, arith, length-append, ltb-false, ltb-true, le-ltb, lt-ltb, le-leb}
use Rattle.std.proofs.Math.Nat.{le-div_iff_mul-le, div-lt_iff_lt-mul, add-mul, mul_comm}
use lib.Seq.{sets, length-sets}
use borrow.Author.Tests.{lt-leb}
use Rattle.reads.specs.Outcome.{choose}
use Rattle.reads.proofs.Tests.{choose_true, choose_false}
use Rattle.pointers.specs.Tables.{rebase_words, bind_words}
use Rattle.macho.specs.Segments.{written}
use Rattle.macho.proofs.Tables.{put_whole}
use Rattle.fixups.specs.Tables.{rebase_row, bind_row, rows_of, Part, part, one_up, put_row, put_rows, State, state, put, puts}
use Rattle.fixups.specs.declared.chain.Fixup.{Fixup}
use Rattle.fixups.specs.declared.chain.Fixup.TheVariants.{Rebase, Bind}

pub up_one : (n : ℕ) → n < 2 ^ 64 - 1 → n + 1 ≡ one_up n
unfolding one_up choose
up_one n h = simp (lt-ltb _ _ h)

pub up_full : (n : ℕ) → 2 ^ 64 - 1 ≤ n → n ≡ one_up n
unfolding one_up choose
up_full n h = simp (le-ltb _ _ h)

up_min : (n : ℕ) → n ≤ 2 ^ 64 - 1 → one_up n ≡ min (n + 1) (2 ^ 64 - 1)
up_min n h = go (ltb n (2 ^ 64 - 1)) refl
  where
    go : (t : Bool) → ltb n (2 ^ 64 - 1) ≡ t → one_up n ≡ min (n + 1) (2 ^ 64 - 1)
    go true e = let l = ltb-true n (2 ^ 64 - 1) e in omega (arith, up_one n l)
    go false e = let l = ltb-false n (2 ^ 64 - 1) e in omega (arith, up_full n l)

-- Whether there is room for row n of k words.
pub room : (k n l : ℕ) → 1 ≤ k → n < l / k → k * n + k ≤ l
room k n l s h = let p : (n + 1) * k ≤ l = (le-div_iff_mul-le {k = k} {x = n + 1} {y = l} (omega arith)).0 (omega arith) in omega (arith, add-mul n 1 k, mul_comm n k)

pub no_room : (k n l : ℕ) → 1 ≤ k → l / k ≤ n → l < k * n + k
no_room k n l s h = let p : l < (n + 1) * k = (div-lt_iff_lt-mul {k = k} {x = l} {y = n + 1} (omega arith)).0 (omega arith) in omega (arith, add-mul n 1 k, mul_comm n k)

-- A row of k words, put where there is room for it.
module _ (t : List ℕ) (n m k : ℕ) (some : 1 ≤ k) (g : m ≡ min (n + 1) (2 ^ 64 - 1)) (h : n ≤ 2 ^ 64 - 1) where
  pub row_in : (row : List ℕ) → length row ≡ k → k * n + k ≤ length t → part m (sets t (k * n) row) ≡ put_row row (part n t)
  unfolding put_row
  row_in [] e l = absurd (omega arith)
  row_in (w ∷ ws) e l = rw (g, up_min n h, e, choose_true (sets t (k * n) (w ∷ ws)) t (le-leb (k * n + k) (length t) l))

  pub row_out : (row : List ℕ) → length row ≡ k → length t < k * n + k → part m t ≡ put_row row (part n t)
  unfolding put_row
  row_out [] e l = absurd (omega arith)
  row_out (w ∷ ws) e l = rw (g, up_min n h, e, choose_false (sets t (k * n) (w ∷ ws)) t (lt-leb (k * n + k) (length t) l))

sets_append : (vs ws l : List ℕ) (i : ℕ) → sets l i (vs ++ ws) ≡ sets (sets l i vs) (i + length vs) ws
sets_append [] ws l i = let e : i + 0 ≡ i = omega arith in rw e
sets_append (v ∷ vs) ws l i =
    let e : suc i + length vs ≡ i + length (v ∷ vs) = omega arith in
    sets_append vs ws (set l i v) (suc i) ∙ ap (λ (k : ℕ). sets (sets l i (v ∷ vs)) k ws) e

rebase_rows : (xs : List Fixup) (st : State) → (puts xs st).rebases ≡ put_rows rebase_row xs st.rebases
unfolding puts put put_rows
rebase_rows [] st = refl
rebase_rows (x ∷ xs) st = rebase_rows xs (put x st)

bind_rows : (xs : List Fixup) (st : State) → (puts xs st).binds ≡ put_rows bind_row xs st.binds
unfolding puts put put_rows
bind_rows [] st = refl
bind_rows (x ∷ xs) st = bind_rows xs (put x st)

-- The row of a record has the table's width, or there is none.
pub data Sized (width : ℕ) : List ℕ → Type 0 where
  none : Sized width []
  whole : (w : ℕ) (ws : List ℕ) → length (w ∷ ws) ≡ width → Sized width (w ∷ ws)

one : List ℕ → ℕ
one [] = 0
one (w ∷ ws) = 1

records_of : {A : Type 0} → (A → List ℕ) → List A → ℕ
records_of row [] = 0
records_of row (x ∷ xs) = records_of row xs + one (row x)

-- What the laws need of the products with a width: linear where the width is a numeral.
record Times (width : ℕ) : Type 0 where
  pub nothing : width * 0 ≡ 0
  pub more : (n : ℕ) → width * (n + 1) ≡ width * n + width
  pub least : (n : ℕ) → n ≤ width * n

module _ {A : Type 0} (row : A → List ℕ) (width : ℕ) (times : Times width) (sized : (x : A) → Sized width (row x)) where
  length_rows : (xs : List A) → length (rows_of row xs) ≡ width * records_of row xs
  unfolding rows_of records_of one
  length_rows [] = sym times.nothing
  length_rows (x ∷ xs) = go (sized x) (length_rows xs)
    where
      go : {r : List ℕ} → Sized width r → length (rows_of row xs) ≡ width * records_of row xs → length (r ++ rows_of row xs) ≡ width * (records_of row xs + one r)
      go none ih = let e : records_of row xs + 0 ≡ records_of row xs = omega arith in rw e ih
      go (whole a as' e) ih = omega (arith, times.more (records_of row xs), length-append (a ∷ as') (rows_of row xs))

  counts : (xs : List A) (p : Part) → p.count ≤ 2 ^ 64 - 1 → (put_rows row xs p).count ≡ min (p.count + records_of row xs) (2 ^ 64 - 1)
  unfolding put_rows put_row records_of one
  counts [] p h = omega arith
  counts (x ∷ xs) p h = go (sized x) (counts xs)
    where
      go : {r : List ℕ} → Sized width r → ((q : Part) → q.count ≤ 2 ^ 64 - 1 → (put_rows row xs q).count ≡ min (q.count + records_of row xs) (2 ^ 64 - 1))
          → (put_rows row xs (put_row r p)).count ≡ min (p.count + (records_of row xs + one r)) (2 ^ 64 - 1)
      go none ih = omega (arith, ih p h)
      go (whole a as' e) ih = omega (arith, up_min p.count h, ih (put_row (a ∷ as') p) (omega (arith, up_min p.count h)))

  put_none : (p : Part) → put_row [] p ≡ p
  unfolding put_row
  put_none p = refl

  -- A row that is put, where the table has room for it.
  put_in : (p : Part) (a : ℕ) (as' : List ℕ) → length (a ∷ as') ≡ width → width * p.count + width ≤ length p.words → length p.words < 2 ^ 64
      → put_row (a ∷ as') p ≡ part (p.count + 1) (sets p.words (width * p.count) (a ∷ as'))
  unfolding put_row
  put_in p a as' e h l =
      let u : one_up p.count ≡ p.count + 1 = sym (up_one p.count (omega (arith, times.least p.count))) in
      rw (u, e, choose_true (sets p.words (width * p.count) (a ∷ as')) p.words (le-leb (width * p.count + width) (length p.words) h))

  writes : (xs : List A) (p : Part) → width * p.count + length (rows_of row xs) ≤ length p.words → length p.words < 2 ^ 64
      → (put_rows row xs p).words ≡ sets p.words (width * p.count) (rows_of row xs)
  unfolding put_rows rows_of
  writes [] p h l = refl
  writes (x ∷ xs) p h l = go (sized x) (writes xs) h
    where
      go : {r : List ℕ} → Sized width r
          → ((q : Part) → width * q.count + length (rows_of row xs) ≤ length q.words → length q.words < 2 ^ 64
          → (put_rows row xs q).words ≡ sets q.words (width * q.count) (rows_of row xs))
          → width * p.count + length (r ++ rows_of row xs) ≤ length p.words → (put_rows row xs (put_row r p)).words ≡ sets p.words (width * p.count) (r ++ rows_of row xs)
      go none ih k = rw (put_none p) (ih p k l)
      go (whole a as' e) ih k =
          let n = length-append (a ∷ as') (rows_of row xs) in
          let m = times.more p.count in
          let s : width * (p.count + 1) ≡ width * p.count + length (a ∷ as') = omega arith in
          let z = length-sets p.words (width * p.count) (a ∷ as') in
          rw (put_in p a as' e (omega arith) l)
          (ih (part (p.count + 1) (sets p.words (width * p.count) (a ∷ as'))) (omega arith) (omega arith)
          ∙ ap (λ (i : ℕ). sets (sets p.words (width * p.count) (a ∷ as')) i (rows_of row xs)) s
          ∙ sym (sets_append (a ∷ as') (rows_of row xs) p.words (width * p.count)))

  -- What a walk that is lent no room counts.
  counted : (xs : List A) (n : ℕ) (ws : List ℕ) → part n ws ≡ put_rows row xs (part 0 []) → n ≡ min (records_of row xs) (2 ^ 64 - 1)
  counted xs n ws e = omega (arith, ap (λ (p : Part). p.count) e, counts xs (part 0 []) (omega arith))

  -- What a table that has room holds after a walk.
  filled : (xs : List A) (t ws : List ℕ) (n : ℕ) → part n ws ≡ put_rows row xs (part 0 t) → length (rows_of row xs) ≤ length t → length t < 2 ^ 64
      → ws ≡ written (rows_of row xs) t
  filled xs t ws n e h l =
      ap (λ (p : Part). p.words) e ∙ writes xs (part 0 t) (omega (arith, times.nothing)) l
      ∙ ap (λ (i : ℕ). sets t i (rows_of row xs)) times.nothing ∙ put_whole (rows_of row xs) t h

-- The two tables.
rebase_sized : (x : Fixup) → Sized rebase_words (rebase_row x)
rebase_sized (Rebase x) = whole x.slot (x.target ∷ []) refl
rebase_sized (Bind x) = none

bind_sized : (x : Fixup) → Sized bind_words (bind_row x)
bind_sized (Rebase x) = none
bind_sized (Bind x) = whole x.slot (x.name.at ∷ x.name.len ∷ 0 ∷ []) refl

times_2 : Times rebase_words
times_2 = record { nothing = refl; more = λ n. omega arith; least = λ n. omega arith }

times_4 : Times bind_words
times_4 = record { nothing = refl; more = λ n. omega arith; least = λ n. omega arith }

-- A count against the room of a table t: it tells whether the rows fit, and then it is exact.
pub record Counted (n width : ℕ) (rows : List ℕ) : Type 0 where
  pub short : (t : List ℕ) → length t < 2 ^ 64 → length t / width < n → length t < length rows
  pub fits : (t : List ℕ) → length t < 2 ^ 64 → n ≤ length t / width → length rows ≤ length t
  pub exact : (t : List ℕ) → length t < 2 ^ 64 → n ≤ length t / width → n ≡ length rows / width

-- A bind table, of any records: after a walk over it from the start.
module _ {A : Type 0} (row : A → List ℕ) (sized : (x : A) → Sized bind_words (row x)) (xs : List A) (b : ℕ) (bs : List ℕ) where
  pub table_filled : (bs₀ : List ℕ) → part b bs ≡ put_rows row xs (part 0 bs₀) → length (rows_of row xs) ≤ length bs₀ → length bs₀ < 2 ^ 64
      → bs ≡ written (rows_of row xs) bs₀
  table_filled bs₀ e h l = filled row bind_words times_4 sized xs bs₀ bs b e h l

  pub table_counted : part b bs ≡ put_rows row xs (part 0 []) → Counted b bind_words (rows_of row xs)
  table_counted e =
      let c = counted row bind_words times_4 sized xs b bs e in
      let n = length_rows row bind_words times_4 sized xs in
      record { short = λ t l h. omega arith; fits = λ t l h. omega arith; exact = λ t l h. omega arith }

-- After a walk over both from the start: w is what it leaves.
module _ (xs : List Fixup) (r b : ℕ) (rs bs rs₀ bs₀ : List ℕ) (e : state r b rs bs ≡ puts xs (state 0 0 rs₀ bs₀)) where
  rebase_part : part r rs ≡ put_rows rebase_row xs (part 0 rs₀)
  rebase_part = ap (λ (s : State). s.rebases) e ∙ rebase_rows xs (state 0 0 rs₀ bs₀)

  bind_part : part b bs ≡ put_rows bind_row xs (part 0 bs₀)
  bind_part = ap (λ (s : State). s.binds) e ∙ bind_rows xs (state 0 0 rs₀ bs₀)

  pub rebases_filled : length (rows_of rebase_row xs) ≤ length rs₀ → length rs₀ < 2 ^ 64 → rs ≡ written (rows_of rebase_row xs) rs₀
  rebases_filled h l = filled rebase_row rebase_words times_2 rebase_sized xs rs₀ rs r rebase_part h l

  pub binds_filled : length (rows_of bind_row xs) ≤ length bs₀ → length bs₀ < 2 ^ 64 → bs ≡ written (rows_of bind_row xs) bs₀
  binds_filled h l = table_filled bind_row bind_sized xs b bs bs₀ bind_part h l

module _ (xs : List Fixup) (r b : ℕ) (rs bs : List ℕ) (e : state r b rs bs ≡ puts xs (state 0 0 [] [])) where
  pub rebases_counted : Counted r rebase_words (rows_of rebase_row xs)
  rebases_counted =
      let c = counted rebase_row rebase_words times_2 rebase_sized xs r rs (rebase_part xs r b rs bs [] [] e) in
      let n = length_rows rebase_row rebase_words times_2 rebase_sized xs in
      record { short = λ t l h. omega arith; fits = λ t l h. omega arith; exact = λ t l h. omega arith }

  pub binds_counted : Counted b bind_words (rows_of bind_row xs)
  binds_counted = table_counted bind_row bind_sized xs b bs (bind_part xs r b rs bs [] [] e)
