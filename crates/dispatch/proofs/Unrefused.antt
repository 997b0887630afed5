-- Over opened tables no lookup is refused: the effective methods are a list or absent, and 22 is the only number of the call.
use Prim.Native.Nat.{ℕ, suc}
use mathlib.Core.Path.{◌≡◌, refl}
use mathlib.Core.Bool.{true, false}
use mathlib.Core.List.{List, [], ◌∷◌}
use Rattle.reads.specs.Outcome.{Outcome, value, Unrefused, a_value, an_absence, and_then}
use Rattle.reads.proofs.Unrefused.{unrefused_then, nonzero_unrefused}
use Rattle.pointers.specs.Tables.{Tables, image_in}
use Rattle.pointers.specs.Open.{Opened}
use Rattle.pointers.proofs.OpenedTables.{opened_asked}
use Rattle.records.specs.List.{entry_address}
use Rattle.records.specs.Search.{readables}
use Rattle.walks.specs.Sections.{meta_of}
use Rattle.records.specs.declared.class.ObjcClass.{ObjcClass}
use Rattle.records.specs.declared.list.Layout.{Layout}
use Rattle.records.specs.declared.list.ListKind.TheVariants.{Methods}
use Rattle.records.specs.declared.row.Row.{Row}
use Rattle.records.specs.declared.row.Row.TheVariants as row
use Rattle.records.proofs.Headers.{list_unrefused}
use Rattle.records.proofs.Decodes.{class_unrefused, ro_unrefused, row_unrefused}
use Rattle.walks.proofs.Gathers.{There, is_there}
use Rattle.walks.proofs.OpenedSections.{categories_there}
use Rattle.records.specs.declared.category.ObjcCategory.{ObjcCategory}
use Rattle.dispatch.specs.declared.sources.Side.{Side}
use Rattle.dispatch.specs.declared.sources.Side.TheVariants as side
use Rattle.dispatch.specs.declared.sources.Source.{Source}
use Rattle.dispatch.specs.Sources.{source_of, list_of, metaclass_of, own_source, category_source, of_class}
use Rattle.dispatch.specs.Appearances.{Rows, adding, appearing, appearance, entry_rows, list_rows, source_rows, category_rows, appearances}
use Rattle.dispatch.specs.Dispatch.{effective_of, effective_among, effective}

module _ (t : Tables) (opened : Opened t) where
  list_of_unrefused : (c : ObjcClass) → Unrefused (list_of t c)
  unfolding list_of
  list_of_unrefused c = unrefused_then _ (ro_unrefused t opened c) (λ ro. a_value (source_of c.address ro.methods))

  own_unrefused : (s : Side) (c : ObjcClass) → Unrefused (own_source t s c)
  unfolding own_source metaclass_of
  own_unrefused side.Instance c = list_of_unrefused c
  own_unrefused side.Class c =
      unrefused_then _ (unrefused_then _ (nonzero_unrefused (meta_of c)) (λ a. class_unrefused t opened a true)) list_of_unrefused

  adding_end : (n origin j : ℕ) {o : Outcome Row} (rest : Rows) → Unrefused o → rest.end ≡ value tt → (adding (and_then o (appearing n origin j)) rest).end ≡ value tt
  adding_end n origin j rest (a_value (row.Method m)) e = e
  adding_end n origin j rest (a_value (row.Ivar i)) e = e
  adding_end n origin j rest (a_value (row.Property p)) e = e
  adding_end n origin j rest (an_absence why) e = e

  entries_end : (n origin : ℕ) (h : Layout) (js : List ℕ) (rest : Rows) → rest.end ≡ value tt → (entry_rows t n origin h js rest).end ≡ value tt
  unfolding entry_rows appearance
  entries_end n origin h [] rest e = e
  entries_end n origin h (j ∷ js) rest e =
      adding_end n origin j (entry_rows t n origin h js rest) (row_unrefused t opened h.kind (entry_address h j)) (entries_end n origin h js rest e)

  list_end : (n origin : ℕ) {o : Outcome Layout} (rest : Rows) → Unrefused o → rest.end ≡ value tt → (list_rows t n origin o rest).end ≡ value tt
  unfolding list_rows
  list_end n origin rest (a_value h) e = entries_end n origin h (readables (image_in t) h) rest e
  list_end n origin rest (an_absence why) e = e

  source_end : (n : ℕ) {o : Outcome Source} (rest : Rows) → Unrefused o → rest.end ≡ value tt → (source_rows t n o rest).end ≡ value tt
  unfolding source_rows
  source_end n rest (a_value s) e = list_end n s.origin rest (list_unrefused t Methods s.list) e
  source_end n rest (an_absence why) e = e

  categories_end : (s : Side) (i : ℕ) (cs : List ObjcCategory) → (category_rows t s i cs).end ≡ value tt
  unfolding category_rows
  categories_end s i [] = refl
  categories_end s i (c ∷ cs) = source_end (suc i) (category_rows t s (suc i) cs) (a_value (category_source s c)) (categories_end s (suc i) cs)

  rows_end : (s : Side) (categories : List ObjcCategory) (c : ObjcClass) → (appearances t s categories c).end ≡ value tt
  unfolding appearances
  rows_end s categories c =
      source_end 0 (category_rows t s 0 (of_class c.address categories)) (own_unrefused s c) (categories_end s 0 (of_class c.address categories))

  -- With the categories that are listed.
  of_class_lem : (s : Side) (c : ObjcClass) {o : Outcome (List ObjcCategory)} → There o
      → Unrefused (and_then o (λ categories. effective_among t.files (appearances t s categories c)))
  unfolding effective_among
  of_class_lem s c (is_there categories) = rw (rows_end s categories c) (a_value (effective_of t.files (appearances t s categories c).rows))

  pub effective_unrefused : (s : Side) (va : ℕ) → Unrefused (effective t s va)
  unfolding effective
  effective_unrefused s va =
      rw (opened_asked t opened) (unrefused_then _ (class_unrefused t opened va false) (λ c. of_class_lem s c (categories_there t opened)))
