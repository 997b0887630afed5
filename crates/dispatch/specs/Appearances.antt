-- The rows of the lists that take part (document 02, note 10), in the order in which they appear: those of the class's list, then those of
-- its categories' as listed.
use Rattle.std.specs.Prelude.{ℕ, suc, List, [], ◌∷◌, Option, None, Some}
use Rattle.reads.specs.Outcome.{Outcome, value, absent, refused, and_then}
use Rattle.reads.specs.declared.answer.Question.{Question}
use Rattle.reads.specs.declared.answer.Reason.TheVariants.{NoRecord}
use Rattle.pointers.specs.Tables.{Tables, image_in}
use Rattle.records.specs.List.{list_at, entry_address}
use Rattle.records.specs.Search.{readables}
use Rattle.records.specs.Row.{row_at}
use Rattle.records.specs.declared.class.ObjcClass.{ObjcClass}
use Rattle.records.specs.declared.category.ObjcCategory.{ObjcCategory}
use Rattle.records.specs.declared.list.Layout.{Layout}
use Rattle.records.specs.declared.list.ListKind.TheVariants.{Methods}
use Rattle.records.specs.declared.row.Row.{Row}
use Rattle.records.specs.declared.row.Row.TheVariants as row
use Rattle.dispatch.specs.declared.sources.Side.{Side}
use Rattle.dispatch.specs.declared.sources.Source.{Source}
use Rattle.dispatch.specs.declared.rows.Appearance.{Appearance}
use Rattle.dispatch.specs.Sources.{own_source, category_source, of_class}

-- Rows in order, up to the end, or to a lookup that a question refuses.
pub record Rows : Type 0 where
  pub rows : List Appearance
  pub end : Outcome (Unit {0})

abbrev pub ended : Rows
ended = record { rows = []; end = value tt }

abbrev pub refusing : Question → Rows
refusing k = record { rows = []; end = refused k }

abbrev pub also : Appearance → Rows → Rows
also a r = record { rows = a ∷ r.rows; end = r.end }

-- A row in front: one that is skipped gives none, and a refusal ends.
abbrev pub adding : Outcome Appearance → Rows → Rows
adding (value a) r = also a r
adding (absent why) r = r
adding (refused k) r = refusing k

-- A row as it appears: its selector, the numbers of its source and of its entry, and the record that its list came from. A method list has
-- no other rows.
abbrev pub appearing : ℕ → ℕ → ℕ → Row → Outcome Appearance
appearing source origin j (row.Method m) = value (record { selector = m.selector; source = source; entry = j; origin = origin })
appearing source origin j (row.Ivar i) = absent NoRecord
appearing source origin j (row.Property p) = absent NoRecord

unfoldable pub appearance : Tables → ℕ → ℕ → Layout → ℕ → Outcome Appearance
appearance t source origin h j = and_then (row_at t h.kind (entry_address h j)) (appearing source origin j)

-- The rows of some entries of a list, and then the rest.
unfoldable pub entry_rows : Tables → ℕ → ℕ → Layout → List ℕ → Rows → Rows
entry_rows t source origin h [] rest = rest
entry_rows t source origin h (j ∷ js) rest = adding (appearance t source origin h j) (entry_rows t source origin h js rest)

-- The rows of a list: of its readable entries.
unfoldable pub list_rows : Tables → ℕ → ℕ → Outcome Layout → Rows → Rows
list_rows t source origin (value h) rest = entry_rows t source origin h (readables (image_in t) h) rest
list_rows t source origin (absent why) rest = rest
list_rows t source origin (refused k) rest = refusing k

unfoldable pub source_rows : Tables → ℕ → Outcome Source → Rows → Rows
source_rows t source (value s) rest = list_rows t source s.origin (list_at t Methods s.list) rest
source_rows t source (absent why) rest = rest
source_rows t source (refused k) rest = refusing k

-- The same of a source that may take no part.
abbrev pub part_rows : Tables → ℕ → Outcome (Option Source) → Rows → Rows
part_rows t source (value (Some s)) rest = source_rows t source (value s) rest
part_rows t source (value None) rest = rest
part_rows t source (absent why) rest = rest
part_rows t source (refused k) rest = refusing k

-- The rows of categories, of which i came before.
unfoldable pub category_rows : Tables → Side → ℕ → List ObjcCategory → Rows
category_rows t s i [] = ended
category_rows t s i (c ∷ cs) = source_rows t (suc i) (value (category_source s c)) (category_rows t s (suc i) cs)

-- The appearances: source 0 is the class's own list, source i + 1 that of category i of the class.
unfoldable pub appearances : Tables → Side → List ObjcCategory → ObjcClass → Rows
appearances t s categories c = source_rows t 0 (own_source t s c) (category_rows t s 0 (of_class c.address categories))
