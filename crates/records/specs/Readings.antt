-- The strings that a definition asks for, and where they all end: then both readings give it alike (document 02, note 12).
use Rattle.std.specs.Prelude.{ℕ, List, [], ◌∷◌, ◌++◌}
use Rattle.reads.specs.Endings.{StringEnds}
use Rattle.reads.specs.declared.text.Reading.TheVariants.{Old, New}
use Rattle.pointers.specs.Tables.{Tables, image_in, reading_under, under}
use Rattle.records.specs.Ask as ask
use Rattle.records.specs.Ask.{Ask}
use Rattle.records.specs.Asks.{asks, Each}
use Rattle.records.specs.Decode.{Decode}

-- Tables under the reading before note 12, and under the one since.
abbrev pub under_old : Tables → Tables
under_old t = under (reading_under Old) t

abbrev pub under_new : Tables → Tables
under_new t = under (reading_under New) t

-- The address of a question for a string; the others have none.
abbrev pub string_of : Ask → List ℕ
string_of (ask.sum64 va k) = []
string_of (ask.nonzero x) = []
string_of (ask.even va) = []
string_of (ask.at_least least size) = []
string_of (ask.readable va k) = []
string_of (ask.u32_in p i) = []
string_of (ask.u64_in p i) = []
string_of (ask.i32_in p i) = []
string_of (ask.u64_at va) = []
string_of (ask.picked w) = []
string_of (ask.picked_at a) = []
string_of (ask.slot a) = []
string_of (ask.rebase a) = []
string_of (ask.pointer va k) = []
string_of (ask.pointer_or0 va k) = []
string_of (ask.string va) = va ∷ []
string_of (ask.symbol a) = []
string_of ask.info = []

-- The addresses of the strings among questions. A bind's name is none of them: its length is given.
unfoldable pub strings_among : List Ask → List ℕ
strings_among [] = []
strings_among (q ∷ qs) = string_of q ++ strings_among qs

-- Those that a definition asks for under the old reading, in order and as often as it does.
abbrev pub strings_asked : {A : Type 0} → Tables → Decode A → List ℕ
strings_asked t d = strings_among (asks (under_old t) d)

-- Each of them that begins at its file's end or before it, malformed or not, is ended by a zero byte. Of other bytes nothing is said: a file's
-- last one need not be 0.
abbrev pub StringsEnd : {A : Type 0} → Tables → Decode A → Type 0
StringsEnd t d = Each (StringEnds (image_in t)) (strings_asked t d)
