-- Rows whose sources are numbered in two ways: where the numbers ascend together the effective methods have the same words.
use Prim.Native.Nat.{ℕ, suc, ◌*◌, ◌<◌, ◌≤◌}
use mathlib.Core.Path.{◌≡◌, refl, sym, ap, ◌∙◌}
use mathlib.Core.Bool.{Bool, true, false}
use mathlib.Core.List.{List, [], ◌∷◌, ◌++◌}
use native.Mathlib.Omega.{arith}
use lib.Dec.{leb, ltb}
use lib.ListN.{length, drop}
use borrow.Author.Tests.{lt-ltb, le-ltb}
use Rattle.reads.specs.Outcome.{Outcome, value, absent, refused, and_then, choose}
use Rattle.pointers.specs.Tables.{Tables, image_in}
use Rattle.records.specs.List.{list_at, entry_address}
use Rattle.records.specs.Search.{readables}
use Rattle.records.specs.Row.{row_at}
use Rattle.records.specs.declared.list.Layout.{Layout}
use Rattle.records.specs.declared.list.ListKind.TheVariants.{Methods}
use Rattle.records.specs.declared.row.Row.{Row}
use Rattle.records.specs.declared.row.Row.TheVariants as row
use Rattle.dispatch.specs.declared.sources.Source.{Source}
use Rattle.dispatch.specs.declared.rows.Appearance.{Appearance}
use Rattle.dispatch.specs.Appearances.{Rows, adding, appearing, appearance, entry_rows, list_rows, source_rows}
use Rattle.dispatch.specs.Dispatch.{same_selector, effective_of, effective_among, words, filled, leaves, left}
use Rattle.dispatch.specs.Claims.{Ordered}
use Rattle.dispatch.specs.Table.{note, note_all}
use Rattle.dispatch.proofs.Effects.{never}
use Rattle.dispatch.proofs.Notes.{note_effective}
use Rattle.reads.specs.declared.answer.Question.TheVariants.{SelectorRoom}

-- The same rows, of source n in one numbering and of source m in the other, or of later sources in both.
pub data Matched : ℕ → ℕ → List Appearance → List Appearance → Type 0 where
  matched_none : {n m : ℕ} → Matched n m [] []
  matched_here : {n m : ℕ} {a b : Appearance} {more rest : List Appearance} → a.source ≡ n → b.source ≡ m → a.selector ≡ b.selector → a.origin ≡ b.origin
      → Matched n m more rest → Matched n m (a ∷ more) (b ∷ rest)
  matched_later : {n m : ℕ} {rows others : List Appearance} (i j : ℕ) → n < i → m < j → Matched i j rows others → Matched n m rows others

pub record MatchedRows (n m : ℕ) (r q : Rows) : Type 0 where
  pub rows : Matched n m r.rows q.rows
  pub ends : r.end ≡ q.end

pub matches_later : {n m i j : ℕ} {r q : Rows} → n < i → m < j → MatchedRows i j r q → MatchedRows n m r q
matches_later {i = i} {j = j} g h w = record { rows = matched_later i j g h w.rows; ends = w.ends }

-- Tables of rows that were noted up to these sources.
data Paired (n m : ℕ) : List Appearance → List Appearance → Type 0 where
  paired_none : Paired n m [] []
  paired_next : {a b : Appearance} {more rest : List Appearance} → a.selector ≡ b.selector → a.origin ≡ b.origin → a.source ≤ n → b.source ≤ m
      → ltb a.source n ≡ ltb b.source m → Paired n m more rest → Paired n m (a ∷ more) (b ∷ rest)

paired_later : {n m : ℕ} (i j : ℕ) → n < i → m < j → {xs ys : List Appearance} → Paired n m xs ys → Paired i j xs ys
paired_later i j g h paired_none = paired_none
paired_later i j g h (paired_next {a = a} {b = b} s o l k e p) =
    let u : a.source < i = omega arith in
    let v : b.source < j = omega arith in
    let u' : a.source ≤ i = omega arith in
    let v' : b.source ≤ j = omega arith in
    paired_next {a = a} {b = b} s o u' v' (lt-ltb a.source i u ∙ sym (lt-ltb b.source j v)) (paired_later i j g h p)

paired_words : {n m : ℕ} {xs ys : List Appearance} → Paired n m xs ys → words xs ≡ words ys
unfolding words
paired_words paired_none = refl
paired_words (paired_next {more = more} {rest = rest} s o l k e p) =
    let q = paired_words p in
    λ i. (s i).file ∷ (s i).offset ∷ (s i).len ∷ o i ∷ q i

paired_length : {n m : ℕ} {xs ys : List Appearance} → Paired n m xs ys → length xs ≡ length ys
paired_length paired_none = refl
paired_length (paired_next s o l k e p) = ap suc (paired_length p)

module _ (files : List (List ℕ)) where
  module _ {n m : ℕ} (a b : Appearance) (of_a : a.source ≡ n) (of_b : b.source ≡ m) (s : a.selector ≡ b.selector) (o : a.origin ≡ b.origin) where
    paired_new : {more rest : List Appearance} → Paired n m more rest → Paired n m (a ∷ more) (b ∷ rest)
    paired_new p =
        let l : a.source ≤ n = omega arith in
        let k : b.source ≤ m = omega arith in
        let u : n ≤ a.source = omega arith in
        let v : m ≤ b.source = omega arith in
        paired_next {a = a} {b = b} s o l k (le-ltb a.source n u ∙ sym (le-ltb b.source m v)) p

    note_paired : {xs ys : List Appearance} → Paired n m xs ys → Paired n m (note files a xs) (note files b ys)
    unfolding note
    note_paired paired_none = paired_new paired_none
    note_paired (paired_next {a = x} {b = y} {more = more} {rest = rest} xy po l k e p) =
        go (same_selector files x.selector a.selector) (same_selector files y.selector b.selector) (λ i. same_selector files (xy i) (s i))
        (ltb x.source a.source) (ltb y.source b.source) (ap (ltb x.source) of_a ∙ e ∙ sym (ap (ltb y.source) of_b)) (note_paired p)
      where
        go : (t u : Bool) → t ≡ u → (v w : Bool) → v ≡ w → Paired n m (note files a more) (note files b rest)
            → Paired n m (choose t (choose v a x ∷ more) (x ∷ note files a more)) (choose u (choose w b y ∷ rest) (y ∷ note files b rest))
        go true true q true true f ih = unfold choose in paired_new p
        go true true q false false f ih = unfold choose in paired_next {a = x} {b = y} xy po l k e p
        go true true q true false f ih = never f
        go true true q false true f ih = never (sym f)
        go false false q v w f ih = unfold choose in paired_next {a = x} {b = y} xy po l k e ih
        go true false q v w f ih = never q
        go false true q v w f ih = never (sym q)

  -- So do the tables of all rows.
  noted_same : {n m : ℕ} {rows others : List Appearance} → Matched n m rows others → {xs ys : List Appearance} → Paired n m xs ys
      → (words (note_all files xs rows) ≡ words (note_all files ys others)) × (length (note_all files xs rows) ≡ length (note_all files ys others))
  unfolding note_all
  noted_same matched_none p = (paired_words p, paired_length p)
  noted_same (matched_here {a = a} {b = b} of_a of_b s o w) p = noted_same w (note_paired a b of_a of_b s o p)
  noted_same (matched_later i j g h w) p = noted_same w (paired_later i j g h p)

  module _ {n m : ℕ} {r q : Rows} (w : MatchedRows n m r q) (o : Ordered r.rows) (z : Ordered q.rows) (result : List ℕ) where
    effective_same : (words (effective_of files r.rows) ≡ words (effective_of files q.rows)) × (length (effective_of files r.rows) ≡ length (effective_of files q.rows))
    effective_same =
        let e = noted_same w.rows paired_none in
        let g = note_effective files r.rows o in
        let h = note_effective files q.rows z in
        (ap words (sym g) ∙ e.0 ∙ ap words h, ap (λ (l : List Appearance). length l) (sym g) ∙ e.1 ∙ ap (λ (l : List Appearance). length l) h)

    left_value : left (value (effective_of files r.rows)) result ≡ left (value (effective_of files q.rows)) result
    unfolding left filled
    left_value =
        let e = effective_same.0 in
        let g = effective_same.1 in
        λ i. choose (leb (4 * g i) (length result)) (leaves (value (g i)) (e i ++ drop (4 * g i) result)) (leaves (refused SelectorRoom) result)

    -- The call's answer and its result buffer are the same.
    pub left_same : left (effective_among files r) result ≡ left (effective_among files q) result
    unfolding effective_among
    left_same = go r.end ∙ ap (λ (o : Outcome (Unit {0})). left (and_then o (λ _. value (effective_of files q.rows))) result) w.ends
      where
        go : (o : Outcome (Unit {0})) → left (and_then o (λ _. value (effective_of files r.rows))) result ≡ left (and_then o (λ _. value (effective_of files q.rows))) result
        go (value u) = left_value
        go (absent why) = refl
        go (refused k) = refl

-- The rows of one source, numbered n and m, with the same rows after them.
module _ (t : Tables) (n m : ℕ) where
  adding_matched : (origin j : ℕ) (o : Outcome Row) {rest others : Rows} → MatchedRows n m rest others
      → MatchedRows n m (adding (and_then o (appearing n origin j)) rest) (adding (and_then o (appearing m origin j)) others)
  adding_matched origin j (value (row.Method x)) w =
      record {
        rows = matched_here {a = record { selector = x.selector; source = n; entry = j; origin = origin }} {b = record { selector = x.selector; source = m; entry = j; origin = origin }} refl refl refl refl w.rows;
        ends = w.ends;
      }
  adding_matched origin j (value (row.Ivar v)) w = w
  adding_matched origin j (value (row.Property p)) w = w
  adding_matched origin j (absent why) w = w
  adding_matched origin j (refused k) w = record { rows = matched_none; ends = refl }

  entries_matched : (origin : ℕ) (h : Layout) (js : List ℕ) {rest others : Rows} → MatchedRows n m rest others
      → MatchedRows n m (entry_rows t n origin h js rest) (entry_rows t m origin h js others)
  unfolding entry_rows appearance
  entries_matched origin h [] w = w
  entries_matched origin h (j ∷ js) w = adding_matched origin j (row_at t h.kind (entry_address h j)) (entries_matched origin h js w)

  list_matched : (origin : ℕ) (o : Outcome Layout) {rest others : Rows} → MatchedRows n m rest others
      → MatchedRows n m (list_rows t n origin o rest) (list_rows t m origin o others)
  unfolding list_rows
  list_matched origin (value h) w = entries_matched origin h (readables (image_in t) h) w
  list_matched origin (absent why) w = w
  list_matched origin (refused k) w = record { rows = matched_none; ends = refl }

  pub source_matched : (o : Outcome Source) {rest others : Rows} → MatchedRows n m rest others → MatchedRows n m (source_rows t n o rest) (source_rows t m o others)
  unfolding source_rows
  source_matched (value x) w = list_matched x.origin (list_at t Methods x.list) w
  source_matched (absent why) w = w
  source_matched (refused k) w = record { rows = matched_none; ends = refl }
