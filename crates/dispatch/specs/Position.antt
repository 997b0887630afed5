-- A position among the rows that take part: what lies ahead of it, and what a step from it gives.
use Rattle.std.specs.Prelude.{ℕ, ◌+◌, ◌-◌, ◌*◌, ◌^◌, ◌<◌, ◌≡◌, Option, None, Some, Result, Ok, Err}
use Rattle.reads.specs.Outcome.{Outcome}
use Rattle.pointers.specs.Tables.{Tables, image_in}
use Rattle.records.specs.List.{entry}
use Rattle.records.specs.Search.{all_from}
use Rattle.records.specs.declared.list.RowKind.TheVariants as kinds
use Rattle.dispatch.specs.declared.sources.Side.{Side}
use Rattle.dispatch.specs.declared.sources.Source.{Source}
use Rattle.dispatch.specs.declared.rows.Appearance.{Appearance}
use Rattle.dispatch.specs.declared.rows.Position.{Position}
use Rattle.dispatch.specs.declared.rows.Step.{Step}
use Rattle.dispatch.specs.Appearances.{Rows, ended, refusing, also, entry_rows, source_rows, part_rows}
use Rattle.dispatch.specs.SlotSources.{slot_rows, slot_total}
use Rattle.reads.specs.declared.answer.Question.{Question}

-- The same position at another entry.
abbrev pub moved_to : Position → ℕ → Position
moved_to p entry = record { source = p.source; origin = p.origin; list = p.list; entry = entry }

-- In a source without rows.
abbrev pub nowhere : ℕ → Position
nowhere source = record { source = source; origin = 0; list = record { base = 0; size = 0; count = 0; kind = kinds.Legacy }; entry = 0 }

-- The rows of the list that it stands in, from its entry on, and then the rest.
unfoldable pub in_list : Tables → Position → Rows → Rows
in_list t p rest = entry_rows t p.source p.origin p.list (all_from (entry (image_in t) p.list) (p.list.count - p.entry) p.entry) rest

-- All rows from a position on.
unfoldable pub ahead : Tables → Side → ℕ → Position → Rows
ahead t s class p = in_list t p (slot_rows t s class p.source (slot_total t - p.source))

-- A number that falls with each step.
unfoldable pub weight : Tables → Position → ℕ
weight t p = (slot_total t - p.source) * 2 ^ 33 + (2 ^ 32 - p.entry)

-- What entering source n gives: the position of its first entry, or the question that refuses.
abbrev pub Came : Tables → ℕ → (Rows → Rows) → Result Position Question → Type 0
Came t n f (Ok p) = (p.source ≡ n) × ((rest : Rows) → f rest ≡ in_list t p rest)
Came t n f (Err k) = (rest : Rows) → f rest ≡ refusing k

pub record EnteredAt (t : Tables) (n : ℕ) (o : Outcome Source) (r : Result Position Question) : Type 0 where
  pub came : Came t n (source_rows t n o) r

-- The same of a source that may take no part.
pub record EnteredPart (t : Tables) (n : ℕ) (o : Outcome (Option Source)) (r : Result Position Question) : Type 0 where
  pub came : Came t n (part_rows t n o) r

-- A row in front, if there is one.
abbrev pub perhaps : Option Appearance → Rows → Rows
perhaps (Some a) r = also a r
perhaps None r = r

-- What a step gives: the next row or none, and the position after it; or the end; or the question that refuses.
abbrev pub Went : Tables → Side → ℕ → Position → Result (Option Step) Question → Type 0
Went t s class p (Ok (Some step)) = (ahead t s class p ≡ perhaps step.row (ahead t s class step.next)) × (weight t step.next < weight t p)
Went t s class p (Ok None) = ahead t s class p ≡ ended
Went t s class p (Err k) = ahead t s class p ≡ refusing k

pub record SteppedFrom (t : Tables) (s : Side) (class : ℕ) (p : Position) (r : Result (Option Step) Question) : Type 0 where
  pub went : Went t s class p r

-- What the next row gives: it, and the position after it; or the end; or the question that refuses.
abbrev pub Comes : Tables → Side → ℕ → Position → Position → Result (Option Appearance) Question → Type 0
Comes t s class p q (Ok (Some row)) = (ahead t s class p ≡ also row (ahead t s class q)) × (weight t q < weight t p)
Comes t s class p q (Ok None) = ahead t s class p ≡ ended
Comes t s class p q (Err k) = ahead t s class p ≡ refusing k

pub record NextFrom (t : Tables) (s : Side) (class : ℕ) (p q : Position) (r : Result (Option Appearance) Question) : Type 0 where
  pub comes : Comes t s class p q r
