-- What trying one index of a list gives the search (document 01, Steps: at most 3 x S + 1 indices are tried).
use Rattle.std.specs.Prelude.{ℕ, ◌<◌, ◌≡◌, Option, None, Some}
use Rattle.std.specs.declared.ops.ControlFlow.{ControlFlow}
use Rattle.std.specs.declared.ops.ControlFlow.TheVariants.{Break, Continue}
use Rattle.reads.specs.Breaks.{breaks_of, above}
use Rattle.reads.specs.Outcome.{value}
use Rattle.reads.specs.Place.{Image}
use Rattle.reads.specs.Spot.{readable_spot}
use Rattle.records.specs.List.{least, entry_address}
use Rattle.records.specs.Search.{first_readable}
use Rattle.records.specs.declared.list.Found.{Found}
use Rattle.records.specs.declared.list.Layout.{Layout}

-- How many breakpoints lie above the address of entry i.
unfoldable pub ahead : Image → Layout → ℕ → ℕ
ahead m h i = above (breaks_of m (least h.kind)) (entry_address h i)

-- The search's answer, from index i on: none, or the first entry that can be read, with its address and the spot of its bytes.
pub record Entry (m : Image) (h : Layout) (i : ℕ) (e : Found) : Type 0 where
  pub first : Some e.index ≡ first_readable m h i
  pub address : e.va ≡ entry_address h e.index
  pub spot : readable_spot m e.va (least h.kind) ≡ value e.spot

abbrev pub Finds : Image → Layout → ℕ → Option Found → Type 0
Finds m h i None = None ≡ first_readable m h i
Finds m h i (Some e) = Entry m h i e

-- That, or a later index from which the answer is the same and fewer breakpoints lie ahead.
abbrev pub Leads : Image → Layout → ℕ → ControlFlow (Option Found) ℕ → Type 0
Leads m h i (Break entry) = Finds m h i entry
Leads m h i (Continue j) = (first_readable m h j ≡ first_readable m h i) × (ahead m h j < ahead m h i)
