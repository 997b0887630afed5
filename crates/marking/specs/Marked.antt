-- The plain listing with its marks (document 02, note 11): the starts are the imps of all its m rows, and each m row has its mark.
use Rattle.std.specs.Prelude.{ℕ, ◌≡◌, Option, Some, None}
use mathlib.Core.List.{List, [], ◌∷◌, map, flat_map}
use Rattle.reads.specs.Outcome.{Outcome, value, and_then}
use Rattle.pointers.specs.Tables.{Tables}
use Rattle.records.specs.declared.row.Row.{Row}
use Rattle.records.specs.declared.row.Row.TheVariants as row
use Rattle.frames.specs.Frames.{Says}
use Rattle.frames.specs.Marks.{met_all, mark_of}
use Rattle.frames.specs.declared.frames.Frames.{Frames}
use Rattle.frames.specs.declared.frames.Mark.{Mark}
use Rattle.frames.specs.declared.frames.Mark.TheVariants.{Unmarked}
use Rattle.frames.specs.declared.frames.Ranges.{Ranges}
use Rattle.listing.specs.PlainListing.{plain_listing}
use Rattle.listing.specs.declared.line.Line.{Line}
use Rattle.listing.specs.declared.line.Line.TheVariants as line

-- The imp of a method row, or none; no other line has one.
abbrev pub row_imp : Row → Option ℕ
row_imp (row.Method m) = m.implementation
row_imp (row.Ivar v) = None
row_imp (row.Property p) = None

abbrev pub line_imp : Line → Option ℕ
line_imp (line.Info i) = None
line_imp (line.Class c) = None
line_imp (line.Ro r) = None
line_imp (line.Protocol p) = None
line_imp (line.Category k) = None
line_imp (line.Row r) = row_imp r.row
line_imp (line.Name n) = None
line_imp (line.End e) = None

-- The starts of lines: an imp that is there counts, 0 too; a method without imp is no start.
abbrev pub imp_starts : Option ℕ → List ℕ
imp_starts (Some a) = a ∷ []
imp_starts None = []

abbrev pub line_starts : Line → List ℕ
line_starts x = imp_starts (line_imp x)

abbrev pub starts_in : List Line → List ℕ
starts_in lines = flat_map line_starts lines

-- The starts of a line are met.
abbrev pub met_line : Option Frames → Line → Option Frames
met_line w x = met_all w (line_starts x)

-- Methods without imp never are marked.
abbrev pub imp_mark : Option Frames → Option ℕ → Mark
imp_mark w (Some a) = mark_of w a
imp_mark w None = Unmarked

-- A line with its mark.
unfoldable pub marked : Option Frames → Line → Line
marked w (line.Info i) = line.Info i
marked w (line.Class c) = line.Class c
marked w (line.Ro r) = line.Ro r
marked w (line.Protocol p) = line.Protocol p
marked w (line.Category k) = line.Category k
marked w (line.Row r) = line.Row (record { list = r.list; row = r.row; mark = imp_mark w (row_imp r.row) })
marked w (line.Name n) = line.Name n
marked w (line.End e) = line.End e

-- Lines, each m row with the mark that the starts of all of them give it; w is the frames before any start is met.
unfoldable pub marked_lines : Option Frames → List Line → List Line
marked_lines w lines = map (marked (met_all w (starts_in lines))) lines

abbrev pub marked_listing : Option Frames → Tables → Outcome (List Line)
marked_listing w t = and_then (plain_listing t) (λ lines. value (marked_lines w lines))

-- What the mark of a row says of its imp, over the starts of a listing: what the note says, and `Unmarked` without an imp.
abbrev pub ImpSays : Ranges → List ℕ → Option ℕ → Mark → Type 0
ImpSays x starts (Some a) mark = Says x starts a mark
ImpSays x starts None mark = mark ≡ Unmarked
