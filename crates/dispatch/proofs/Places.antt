-- The rows that take part stand in order: by source, and in one source by entry.
use Prim.Native.Nat.{ℕ, zero, suc, ◌-◌, ◌<◌, ◌≤◌}
use mathlib.Core.Path.{◌≡◌, refl, sym, subst, ◌∙◌}
use mathlib.Core.Bool.{Bool, true, false, ◌&&◌, ◌||◌}
use mathlib.Core.List.Memᴰ
use mathlib.Core.List.{List, [], ◌∷◌}
use native.Mathlib.Omega.{arith}
use lib.Dec.{eqb, ltb}
use borrow.Author.Tests.{eq-eqb, lt-ltb, le-ltb, ltb-true, ltb-false, eqb-true}
use Rattle.reads.specs.Outcome.{Outcome, value, absent, refused, and_then}
use Rattle.reads.proofs.Tests.{by_choose, both_true}
use Rattle.pointers.specs.Tables.{Tables, image_in}
use Rattle.records.specs.List.{list_at, entry_address, entry}
use Rattle.records.specs.Search.{all_from, readables}
use Rattle.records.specs.Row.{row_at}
use Rattle.records.specs.declared.class.ObjcClass.{ObjcClass}
use Rattle.records.specs.declared.category.ObjcCategory.{ObjcCategory}
use Rattle.records.specs.declared.list.Layout.{Layout}
use Rattle.records.specs.declared.list.ListKind.TheVariants.{Methods}
use Rattle.records.specs.declared.row.Row.{Row}
use Rattle.records.specs.declared.row.Row.TheVariants as row
use Rattle.dispatch.specs.declared.sources.Side.{Side}
use Rattle.dispatch.specs.declared.sources.Source.{Source}
use Rattle.dispatch.specs.declared.rows.Appearance.{Appearance}
use Rattle.dispatch.specs.declared.rows.Position.{Position}
use Rattle.std.specs.Prelude.{Option, Some, None}
use Rattle.dispatch.specs.declared.rows.RowsOf.{RowsOf}
use Rattle.dispatch.specs.Position.{in_list, ahead}
use Rattle.dispatch.specs.RowsLeft.{from_place, rows_ahead}
use Rattle.dispatch.specs.Sources.{own_source, category_source, of_class}
use Rattle.dispatch.specs.SlotSources.{slot_source, slot_rows, slot_total, slot_appearances}
use Rattle.dispatch.specs.Appearances.{Rows, adding, appearing, appearance, entry_rows, list_rows, source_rows, part_rows, category_rows, appearances}
use Rattle.dispatch.specs.Dispatch.{comes_before}
use Rattle.dispatch.specs.Claims.{In, Ordered, ordered_none, ordered_next}

-- A row that stands before another is of no later source, and in the same one of an earlier entry.
module _ (b a : Appearance) where
  pub before_made : b.source ≤ a.source → (b.source ≡ a.source → b.entry < a.entry) → comes_before b a ≡ true
  unfolding comes_before
  before_made l f = go (ltb b.source a.source) refl
    where
      go : (t : Bool) → ltb b.source a.source ≡ t → (t || (eqb b.source a.source && ltb b.entry a.entry)) ≡ true
      go true e = refl
      go false e =
          let s : b.source ≡ a.source = omega (arith, ltb-false b.source a.source e) in
          rw (eq-eqb b.source a.source s, lt-ltb b.entry a.entry (f s))

  pub before_false_made : a.source ≤ b.source → (b.source ≡ a.source → a.entry ≤ b.entry) → comes_before b a ≡ false
  unfolding comes_before
  before_false_made l f = rw (le-ltb b.source a.source l) (go (eqb b.source a.source) refl)
    where
      go : (t : Bool) → eqb b.source a.source ≡ t → (t && ltb b.entry a.entry) ≡ false
      go true e = le-ltb b.entry a.entry (f (eqb-true b.source a.source e))
      go false e = refl

  pub before_true : comes_before b a ≡ true → (b.source ≤ a.source) × (b.source ≡ a.source → b.entry < a.entry)
  unfolding comes_before
  before_true h = go (ltb b.source a.source) refl h
    where
      go : (t : Bool) → ltb b.source a.source ≡ t → (t || (eqb b.source a.source && ltb b.entry a.entry)) ≡ true
          → (b.source ≤ a.source) × (b.source ≡ a.source → b.entry < a.entry)
      go true e g = let l = ltb-true b.source a.source e in (omega arith, λ s. absurd (omega arith))
      go false e g =
          let w = both_true (eqb b.source a.source) (ltb b.entry a.entry) g in
          (omega (arith, eqb-true b.source a.source w.0), λ s. ltb-true b.entry a.entry w.1)

  pub before_false : comes_before b a ≡ false → (a.source ≤ b.source) × (b.source ≡ a.source → a.entry ≤ b.entry)
  unfolding comes_before
  before_false h = go (ltb b.source a.source) refl h
    where
      go : (t : Bool) → ltb b.source a.source ≡ t → (t || (eqb b.source a.source && ltb b.entry a.entry)) ≡ false
          → (a.source ≤ b.source) × (b.source ≡ a.source → a.entry ≤ b.entry)
      go true e g = let z : ◌≡◌ {A = ℕ} 0 1 = cc in absurd (omega arith)
      go false e g = (ltb-false b.source a.source e, λ s. ltb-false b.entry a.entry (rw (eq-eqb b.source a.source s) at g))

pub in_cons : (P : Appearance → Type 0) {x : Appearance} {more : List Appearance} → P x → ((b : Appearance) → In b more → P b) → (b : Appearance) → In b (x ∷ more) → P b
in_cons P p f b (Memᴰ.head e) = subst P (sym e) p
in_cons P p f b (Memᴰ.tail m) = f b m

-- Rows from entry i of source n on: each stands at or after that place, and the rest after it.
pub data Along : ℕ → ℕ → List Appearance → Type 0 where
  along_none : {n i : ℕ} → Along n i []
  along_here : {n i : ℕ} {a : Appearance} {more : List Appearance} → a.source ≡ n → i ≤ a.entry → Along n (suc a.entry) more → Along n i (a ∷ more)
  along_later : {n i : ℕ} {rows : List Appearance} (m : ℕ) → n < m → Along m 0 rows → Along n i rows

along_back : {n i j : ℕ} {rows : List Appearance} → i ≤ j → Along n j rows → Along n i rows
along_back l along_none = along_none
along_back {i = i} l (along_here {a = a} s e w) = let g : i ≤ a.entry = omega arith in along_here {a = a} s g w
along_back l (along_later m h w) = along_later m h w

along_at : {n i : ℕ} {rows : List Appearance} → Along n i rows → (b : Appearance) → In b rows → (n ≤ b.source) × (b.source ≡ n → i ≤ b.entry)
along_at along_none b m = absurd (Memᴰ.not-nil m)
along_at {n} {i} (along_here {a = a} s e w) b m =
    in_cons (λ b. (n ≤ b.source) × (b.source ≡ n → i ≤ b.entry)) (omega arith, λ _. e)
    (λ b m. let d = along_at w b m in (d.0, λ q. omega (arith, d.1 q))) b m
along_at (along_later k h w) b m = let d = along_at w b m in (omega (arith, d.0), λ q. absurd (omega (arith, d.0)))

pub along_ordered : {n i : ℕ} {rows : List Appearance} → Along n i rows → Ordered rows
along_ordered along_none = ordered_none
along_ordered (along_here {a = a} s e w) =
    ordered_next (λ b m. let d = along_at w b m in before_made a b (omega (arith, d.0)) (λ q. omega (arith, d.1 (sym q ∙ s)))) (along_ordered w)
along_ordered (along_later m h w) = along_ordered w

module _ (t : Tables) (n origin : ℕ) (h : Layout) where
  adding_along : (i : ℕ) (o : Outcome Row) (rest : Rows) → Along n (suc i) rest.rows → Along n i (adding (and_then o (appearing n origin i)) rest).rows
  adding_along i (value (row.Method m)) rest w =
      let g : i ≤ i = omega arith in along_here {a = record { selector = m.selector; source = n; entry = i; origin = origin }} refl g w
  adding_along i (value (row.Ivar v)) rest w = along_back (omega arith) w
  adding_along i (value (row.Property p)) rest w = along_back (omega arith) w
  adding_along i (absent why) rest w = along_back (omega arith) w
  adding_along i (refused k) rest w = along_none

  entry_along : (i : ℕ) (js : List ℕ) (rest : Rows) → Along n (suc i) (entry_rows t n origin h js rest).rows → Along n i (entry_rows t n origin h (i ∷ js) rest).rows
  unfolding entry_rows appearance
  entry_along i js rest w = adding_along i (row_at t h.kind (entry_address h i)) (entry_rows t n origin h js rest) w

  pub entries_along : (test : ℕ → Bool) (k i : ℕ) (rest : Rows) → ((j : ℕ) → Along n j rest.rows) → Along n i (entry_rows t n origin h (all_from test k i) rest).rows
  unfolding all_from entry_rows
  entries_along test zero i rest w = w i
  entries_along test (suc k) i rest w =
      by_choose (λ js. Along n i (entry_rows t n origin h js rest).rows)
      (λ _. entry_along i (all_from test k (suc i)) rest (entries_along test k (suc i) rest w))
      (λ _. along_back (omega arith) (entries_along test k (suc i) rest w))

module _ (t : Tables) (n : ℕ) where
  list_along : (origin : ℕ) (o : Outcome Layout) (rest : Rows) → ((j : ℕ) → Along n j rest.rows) → Along n 0 (list_rows t n origin o rest).rows
  unfolding list_rows readables
  list_along origin (value h) rest w = entries_along t n origin h (entry (image_in t) h) h.count 0 rest w
  list_along origin (absent why) rest w = w 0
  list_along origin (refused k) rest w = along_none

  source_along : (o : Outcome Source) (rest : Rows) → Along (suc n) 0 rest.rows → Along n 0 (source_rows t n o rest).rows
  unfolding source_rows
  source_along (value s) rest w =
      let g : n < suc n = omega arith in list_along s.origin (list_at t Methods s.list) rest (λ j. along_later (suc n) g w)
  source_along (absent why) rest w = let g : n < suc n = omega arith in along_later (suc n) g w
  source_along (refused k) rest w = along_none

  part_along : (o : Outcome (Option Source)) (rest : Rows) → Along (suc n) 0 rest.rows → Along n 0 (part_rows t n o rest).rows
  part_along (value (Some s)) rest w = source_along (value s) rest w
  part_along (value None) rest w = let g : n < suc n = omega arith in along_later (suc n) g w
  part_along (absent why) rest w = let g : n < suc n = omega arith in along_later (suc n) g w
  part_along (refused k) rest w = along_none

pub categories_along : (t : Tables) (s : Side) (i : ℕ) (categories : List ObjcCategory) → Along (suc i) 0 (category_rows t s i categories).rows
unfolding category_rows
categories_along t s i [] = along_none
categories_along t s i (c ∷ cs) =
    source_along t (suc i) (value (category_source s c)) (category_rows t s (suc i) cs) (categories_along t s (suc i) cs)

pub slots_along : (t : Tables) (s : Side) (class k n : ℕ) → Along (suc k) 0 (slot_rows t s class k n).rows
unfolding slot_rows
slots_along t s class k zero = along_none
slots_along t s class k (suc n) =
    part_along t (suc k) (slot_source t s class k) (slot_rows t s class (suc k) n) (slots_along t s class (suc k) n)

pub appearances_ordered : (t : Tables) (s : Side) (categories : List ObjcCategory) (c : ObjcClass) → Ordered (appearances t s categories c).rows
unfolding appearances
appearances_ordered t s categories c =
    along_ordered (source_along t 0 (own_source t s c) (category_rows t s 0 (of_class c.address categories)) (categories_along t s 0 (of_class c.address categories)))

pub slots_ordered : (t : Tables) (s : Side) (c : ObjcClass) → Ordered (slot_appearances t s c).rows
unfolding slot_appearances
slots_ordered t s c =
    along_ordered (source_along t 0 (own_source t s c) (slot_rows t s c.address 0 (slot_total t)) (slots_along t s c.address 0 (slot_total t)))

-- So stand the rows from any position on.
pub ahead_ordered : (t : Tables) (s : Side) (class : ℕ) (p : Position) → Ordered (ahead t s class p).rows
unfolding ahead in_list
ahead_ordered t s class p =
    let g : p.source < suc p.source = omega arith in
    along_ordered (entries_along t p.source p.origin p.list (entry (image_in t) p.list) (p.list.count - p.entry) p.entry
    (slot_rows t s class p.source (slot_total t - p.source))
    (λ j. along_later (suc p.source) g (slots_along t s class p.source (slot_total t - p.source))))

pub rows_ordered : (w : RowsOf) → Ordered (rows_ahead w).rows
rows_ordered w = go w.at
  where
    go : (at : Option Position) → Ordered (from_place w.of.tables.now w.of.side w.of.class at).rows
    go (Some p) = ahead_ordered w.of.tables.now w.of.side w.of.class p
    go None = ordered_none
